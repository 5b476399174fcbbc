-- The text of a certificate: a line with the number of its states, then a line for each of them with the numbers of its atoms.
-- Each line ends with a line feed, and each number stands after one space. A line that begins with a semicolon is a
-- comment; such lines may stand anywhere.
use Rattle.std.specs.Prelude.{◌≡◌, ◌↔◌, ◌==◌, ◌&&◌, ◌||◌, not, ℕ, ◌+◌, ◌-◌, ◌≤◌, nat_lt, nat_eq, Bool, true, false, List, [], ◌∷◌, ◌++◌, length, map, filter, All, Contains, codes, decimal, slice_index, Option, Some, None, Result, Ok, Err, if◌then◌else◌}
use Rattle.std.specs.Cmp.Lexicographic.{pointwise}
use Rattle.std.specs.List.{flat_map}
use Rattle.std.specs.Str.{all_ascii_digits}
use Rattle.std.specs.Str.Parse.{digits_value_after}
use Rattle.wp_cert.specs.declared.errors.CertError.{CertError}
use Rattle.wp_cert.specs.declared.errors.CertError.TheVariants.{Line, Memory}
use Rattle.wp_cert.specs.Certificate.{AreStates}

-- ---- what is written
abbrev pub line : List ℕ → List ℕ
line text = text ++ 10 ∷ []

-- each number after one space
abbrev pub spaced : List ℕ → List ℕ
spaced numbers = flat_map (λ (n : ℕ). 32 ∷ decimal n) numbers

unfoldable pub header_line : ℕ → List ℕ
header_line count = codes "states " ++ decimal count

unfoldable pub state_line : List ℕ → List ℕ
state_line atoms = codes "state" ++ spaced atoms

abbrev pub lines_of : List (List ℕ) → List (List ℕ)
lines_of cert = header_line (length cert) ∷ map state_line cert

abbrev pub states_text : List (List ℕ) → List ℕ
states_text cert = flat_map (λ (atoms : List ℕ). line (state_line atoms)) cert

abbrev pub text_of : List (List ℕ) → List ℕ
text_of cert = line (header_line (length cert)) ++ states_text cert

-- ---- what is read
abbrev pub is_comment : List ℕ → Bool
is_comment text = slice_index text 0 == 59

-- no line feed is in it
abbrev pub IsLine : List ℕ → Type 0
IsLine text = All (λ (byte : ℕ). (byte == 10) ≡ false) text

-- the text is lines, which without the comments are those of the certificate
pub record IsTextOf (cert : List (List ℕ)) (text : List ℕ) : Type 0 where
  pub lines : List (List ℕ)
  pub whole : text ≡ flat_map line lines
  pub each : All IsLine lines
  pub states : filter (λ (l : List ℕ). not (is_comment l)) lines ≡ lines_of cert
  pub fits : AreStates cert

-- ---- the same, computed
-- the pieces of a text between its bytes that are the mark: one more than there are marks
abbrev pub longer : ℕ → List (List ℕ) → List (List ℕ)
longer byte [] = (byte ∷ []) ∷ []
longer byte (piece ∷ rest) = (byte ∷ piece) ∷ rest

abbrev pub pieces : ℕ → List ℕ → List (List ℕ)
pieces mark [] = [] ∷ []
pieces mark (byte ∷ bytes) = if byte == mark then [] ∷ pieces mark bytes else longer byte (pieces mark bytes)

-- the pieces of a text that may be there
abbrev pub pieces_in : ℕ → Option (List ℕ) → List (List ℕ)
pieces_in mark None = []
pieces_in mark (Some bytes) = pieces mark bytes

-- the number that digits behind n write, where it is at most `high`
abbrev pub value_in : ℕ → ℕ → List ℕ → Option ℕ
value_in high n word =
    if all_ascii_digits word && not (nat_lt high (digits_value_after 10 n word)) then Some (digits_value_after 10 n word) else None

-- whether there is a first digit, which is no zero where there are more
abbrev pub leads : List ℕ → Bool
leads word = nat_lt 0 (length word) && (not (slice_index word 0 == 48) || (length word == 1))

-- the number from `low` to `high` that the word writes
abbrev pub from_low : ℕ → Option ℕ → Option ℕ
from_low low None = None
from_low low (Some n) = if nat_lt n low then None else Some n

unfoldable pub number_in : ℕ → ℕ → List ℕ → Option ℕ
number_in low high word = if leads word then from_low low (value_in high 0 word) else None

abbrev pub put_first : Option ℕ → Option (List ℕ) → Option (List ℕ)
put_first None rest = None
put_first (Some n) None = None
put_first (Some n) (Some rest) = Some (n ∷ rest)

-- where the next number is to be at least `low`
abbrev pub after_number : Option ℕ → ℕ
after_number None = 0
after_number (Some n) = n + 1

-- the atoms that the words write, each from `low` on and above the one before it
abbrev pub atoms_from : ℕ → List (List ℕ) → Option (List ℕ)
atoms_from low [] = Some []
atoms_from low (word ∷ words) = put_first (number_in low 65535 word) (atoms_from (after_number (number_in low 65535 word)) words)

-- the atoms of a line that is one of a state
abbrev pub state_by : List (List ℕ) → Option (List ℕ)
state_by [] = None
state_by (word ∷ words) = if pointwise nat_eq word (codes "state") then atoms_from 0 words else None

abbrev pub state_in : List ℕ → Option (List ℕ)
state_in text = state_by (pieces 32 text)

-- the number of states that a first line tells
abbrev pub one_number : List (List ℕ) → Option ℕ
one_number [] = None
one_number (number ∷ []) = number_in 0 100000000 number
one_number (number ∷ more ∷ words) = None

abbrev pub count_by : List (List ℕ) → Option ℕ
count_by [] = None
count_by (word ∷ words) = if pointwise nat_eq word (codes "states") then one_number words else None

abbrev pub count_in : List ℕ → Option ℕ
count_in text = count_by (pieces 32 text)

abbrev pub one_state : Option (List ℕ) → Option (List (List ℕ))
one_state None = None
one_state (Some atoms) = Some (atoms ∷ [])

-- the states that a line adds where so many are still to come: a comment none, the line of a state that one; no other line
-- is of its form
abbrev pub added_by : ℕ → List ℕ → Option (List (List ℕ))
added_by left text = if is_comment text then Some [] else (if left == 0 then None else one_state (state_in text))

abbrev pub with_states : List (List ℕ) → Result (List (List ℕ)) ℕ → Result (List (List ℕ)) ℕ
with_states front (Err number) = Err number
with_states front (Ok states) = Ok (front ++ states)

-- whether no state is left to come, and nothing stands behind the last line feed
abbrev pub is_done : List ℕ → ℕ → Bool
is_done last left = (length last == 0) && (left == 0)

abbrev pub finished : ℕ → ℕ → List (List ℕ) → List ℕ → Result (List (List ℕ)) ℕ
finished number left states last = if is_done last left then Ok states else Err number

-- the states in the lines from the one of this number on, where so many are still to come; or the number of the first line
-- that is not of its form. Behind the last line feed nothing may stand.
abbrev pub states_from : ℕ → ℕ → List (List ℕ) → Result (List (List ℕ)) ℕ
states_from number left [] = Err number
states_from number left (last ∷ []) = finished number left [] last
states_from number left (text ∷ next ∷ rest) = elim (added_by left text) [
  | None ↦ Err number
  | Some states ↦ with_states states (states_from (number + 1) (left - length states) (next ∷ rest))
]

abbrev pub header_from : ℕ → List (List ℕ) → Result (List (List ℕ)) ℕ
header_from number [] = Err number
header_from number (last ∷ []) = Err number
header_from number (text ∷ next ∷ rest) = elim (is_comment text) [
  | true ↦ header_from (number + 1) (next ∷ rest)
  | false ↦ elim (count_in text) [
    | None ↦ Err number
    | Some count ↦ states_from (number + 1) count (next ∷ rest)
  ]
]

-- the certificate that a text writes, or the number, from 1, of its first line that is not of its form
unfoldable pub cert_of : List ℕ → Result (List (List ℕ)) ℕ
cert_of text = header_from 1 (pieces 10 text)

-- what is returned is the certificate, or the line that is not of its form, unless memory runs out
abbrev pub Fails : CertError → Result (List (List ℕ)) ℕ → Type 0
Fails Memory read = Unit {0}
Fails (Line number) read = read ≡ Err number

abbrev pub Gives : Result (List (List ℕ)) CertError → Result (List (List ℕ)) ℕ → Type 0
Gives (Ok cert) read = read ≡ Ok cert
Gives (Err error) read = Fails error read

-- ---- laws
-- what is read of a text is exactly the certificate that it writes
abbrev pub TextsAreRead : Type 0
TextsAreRead = (cert : List (List ℕ)) (text : List ℕ) → IsTextOf cert text ↔ (cert_of text ≡ Ok cert)

-- so what is written is read back
abbrev pub WrittenIsRead : Type 0
WrittenIsRead = (cert : List (List ℕ)) → AreStates cert → cert_of (text_of cert) ≡ Ok cert

-- and so it is with lines of comments in front of it, as the lines of an answer are
abbrev pub CommentedIsRead : Type 0
CommentedIsRead = (comments cert : List (List ℕ)) → All IsLine comments → All (λ (l : List ℕ). is_comment l ≡ true) comments →
    AreStates cert → cert_of (flat_map line comments ++ text_of cert) ≡ Ok cert
