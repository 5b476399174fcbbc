-- The words between the lists of a plan file that mean nothing: labels, as `0.001:`, and durations, as `[1]`.
use Rattle.std.specs.Prelude.{ℕ, ◌-◌, ◌==◌, nat_le, Bool, ◌&&◌, ◌||◌, List, length, take, slice_index, count_by}
use Rattle.std.specs.Char.{is_ascii_digit}
use Rattle.std.specs.List.{list_all}

-- digits with at most one point among them, the first a digit
abbrev pub is_number : List ℕ → Bool
is_number bytes =
    is_ascii_digit (slice_index bytes 0)
    && list_all (λ byte. is_ascii_digit byte || byte == 46) bytes
    && nat_le (count_by (λ byte. byte == 46) bytes) 1

-- a number and a colon
abbrev pub is_label : List ℕ → Bool
is_label word = slice_index word (length word - 1) == 58 && is_number (take (length word - 1) word)

-- a word of at least two bytes that begins with `[` and ends with `]`
abbrev pub is_duration : List ℕ → Bool
is_duration word =
    nat_le 2 (length word) && slice_index word 0 == 91 && slice_index word (length word - 1) == 93
