-- What a word may be. Words are bytes in lower case.
use Rattle.std.specs.Prelude.{ℕ, Bool, false, List, [], ◌∷◌, ◌==◌, ◌&&◌, ◌||◌, not, nat_le, codes}
use Rattle.std.specs.Str.{bytes_eq}

abbrev pub is_dash : List ℕ → Bool
is_dash text = bytes_eq text (codes "-")

-- it begins with a colon
abbrev pub is_keyword : List ℕ → Bool
is_keyword [] = false
is_keyword (byte ∷ bytes) = byte == 58

-- it begins with a question mark, and something follows
abbrev pub is_variable : List ℕ → Bool
is_variable [] = false
is_variable (byte ∷ []) = false
is_variable (byte ∷ next ∷ bytes) = byte == 63

-- it begins with neither, and is no dash
abbrev pub is_name : List ℕ → Bool
is_name [] = false
is_name (byte ∷ bytes) = not (byte == 63) && (not (byte == 58) && not (is_dash (byte ∷ bytes)))

abbrev pub is_term : List ℕ → Bool
is_term text = is_name text || is_variable text

abbrev pub starts_with_digit : List ℕ → Bool
starts_with_digit [] = false
starts_with_digit (byte ∷ bytes) = nat_le 48 byte && nat_le byte 57

-- the words that the language reserves
abbrev pub is_connective : List ℕ → Bool
is_connective text = bytes_eq text (codes "and") || bytes_eq text (codes "or") || bytes_eq text (codes "not")
    || bytes_eq text (codes "imply") || bytes_eq text (codes "exists") || bytes_eq text (codes "forall")
    || bytes_eq text (codes "when") || bytes_eq text (codes "preference") || bytes_eq text (codes "either")

abbrev pub is_comparison : List ℕ → Bool
is_comparison text = bytes_eq text (codes "=") || bytes_eq text (codes "<") || bytes_eq text (codes ">")
    || bytes_eq text (codes "<=") || bytes_eq text (codes ">=")

abbrev pub is_assignment : List ℕ → Bool
is_assignment text = bytes_eq text (codes "increase") || bytes_eq text (codes "decrease")
    || bytes_eq text (codes "assign") || bytes_eq text (codes "scale-up") || bytes_eq text (codes "scale-down")

abbrev pub is_reserved : List ℕ → Bool
is_reserved text = is_connective text || is_comparison text || is_assignment text
