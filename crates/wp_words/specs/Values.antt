-- The values of a command line: a word that is one of a few, and a number of one to twenty decimal digits in a range.
use Rattle.std.specs.Prelude.{◌&&◌, ℕ, nat_eq, nat_lt, not, Bool, List, length, Option, Some, None, if◌then◌else◌}
use Rattle.std.specs.Cmp.Lexicographic.{pointwise}
use Rattle.std.specs.Str.{all_ascii_digits}
use Rattle.std.specs.Str.Parse.{digits_value}

abbrev pub is_word : List ℕ → List ℕ → Bool
is_word = pointwise nat_eq

abbrev pub is_number : List ℕ → Bool
is_number word = nat_lt 0 (length word) && (nat_lt (length word) 21 && all_ascii_digits word)

abbrev pub is_within : ℕ → ℕ → ℕ → Bool
is_within low high number = not (nat_lt number low) && not (nat_lt high number)

-- the number that the word writes, where it is from `low` to `high`
abbrev pub number_in : ℕ → ℕ → List ℕ → Option ℕ
number_in low high word =
    if is_number word && is_within low high (digits_value 10 word) then Some (digits_value 10 word) else None
