-- The words of a text: the longest runs of printable ASCII bytes other than brackets and the semicolon, outside comments,
-- with A to Z turned into a to z. A comment runs from a semicolon to the next line feed (byte 10) or the end. Comments and
-- letter case are PDDL's. All this is said of places in the whole text.
use Rattle.std.specs.Prelude.{ℕ, zero, suc, ◌+◌, ◌==◌, nat_le, Bool, true, false, not, ◌&&◌, ◌||◌, if◌then◌else◌, List, take, take_while, reverse, slice_index, ◌≡◌, ◌<◌, ◌≤◌, drop, length}
use Rattle.std.specs.List.{list_any, list_all}
use Rattle.std.specs.Char.{is_ascii_uppercase}
use Rattle.std.specs.Str.{str_to_ascii_lowercase}
use Rattle.wp_lex.specs.declared.place.Class.{Class}
use Rattle.wp_lex.specs.declared.place.Class.TheVariants.{Letter, Opens, Closes, Blank, Bad}

-- the bytes from low to high
abbrev pub is_between : ℕ → ℕ → ℕ → Bool
is_between low high byte = nat_le low byte && nat_le byte high

-- tab, line feed, vertical tab, form feed, carriage return and space
abbrev pub is_separator : ℕ → Bool
is_separator byte = is_between 9 13 byte || byte == 32

-- what a byte is for, outside a comment: a semicolon separates words, as the comment does that it begins
abbrev pub class_of : ℕ → Class
class_of byte =
    if byte == 40 then Opens
    else (if byte == 41 then Closes
    else (if is_separator byte || byte == 59 then Blank
    else (if is_between 33 126 byte then Letter else Bad)))

abbrev pub is_letter : Class → Bool
is_letter Letter = true
is_letter class = false

abbrev pub is_opening : Class → Bool
is_opening Opens = true
is_opening class = false

abbrev pub is_closing : Class → Bool
is_closing Closes = true
is_closing class = false

-- whether a comment goes on behind the first n bytes: a semicolon stands in their last line
abbrev pub is_commented : List ℕ → ℕ → Bool
is_commented text n = list_any (λ byte. byte == 59) (take_while (λ byte. not (byte == 10)) (reverse (take n text)))

-- what the byte at a place is for; a comment and its semicolon are blank
abbrev pub class_at : List ℕ → ℕ → Class
class_at text i = if is_commented text (i + 1) then Blank else class_of (slice_index text i)

-- whether the byte before a place is one of a word
abbrev pub follows_letter : List ℕ → ℕ → Bool
follows_letter text zero = false
follows_letter text (suc i) = is_letter (class_at text i)

-- the word that begins with the first of these bytes: a semicolon ends it, so no comment begins within it
abbrev pub word_of : List ℕ → List ℕ
word_of rest = str_to_ascii_lowercase (take_while (λ byte. is_letter (class_of byte)) rest)

-- a byte that a word has when it is read: a letter, and none of A to Z
abbrev pub is_word_byte : ℕ → Bool
is_word_byte byte = is_letter (class_of byte) && not (is_ascii_uppercase byte)

-- a word as it is read
pub record IsWord (word : List ℕ) : Type 0 where
  pub some : 0 < length word
  pub letters : list_all is_word_byte word ≡ true

-- the n bytes from a place are a longest run of letters of the text
pub record IsRun (text : List ℕ) (i n : ℕ) : Type 0 where
  pub within : i + n ≤ length text
  pub letters : (k : ℕ) → i ≤ k → k < i + n → is_letter (class_at text k) ≡ true
  pub ends : i + n < length text → is_letter (class_at text (i + n)) ≡ false
  pub begins : follows_letter text i ≡ false

-- where a letter follows none, the word from there is a longest run of letters, with A to Z turned into a to z
abbrev pub WordsAreRuns : Type 0
WordsAreRuns = (text : List ℕ) (i : ℕ) → i < length text → is_letter (class_at text i) ≡ true → follows_letter text i ≡ false
    → (n : ℕ) × IsRun text i n × (0 < n) × (word_of (drop i text) ≡ str_to_ascii_lowercase (take n (drop i text)))
