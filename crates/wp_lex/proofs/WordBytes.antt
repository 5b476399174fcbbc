-- The bytes of words: what is read has no other, and words of them are read as they stand.
use Rattle.std.proofs.Common.{◌≡◌, ℕ, ◌<◌, ◌≤◌, Bool, true, false, cond, not, ◌&&◌, ◌||◌, eqb, List, [], ◌∷◌, ◌++◌, length, refl, ap, ◌∙◌, inl, inr, arith}
use Rattle.std.specs.Prelude.{take_while}
use Rattle.std.specs.List.{list_all}
use Rattle.std.specs.Char.{is_ascii_uppercase, to_ascii_lowercase}
use Rattle.std.specs.Str.{str_to_ascii_lowercase}
use Rattle.std.proofs.lemmas.Bool.{cases_lt, agree_below_at, and_parts, eqb-true}
use Rattle.std.proofs.lemmas.Bool.Decides.{nat_tests}
use Rattle.std.proofs.lemmas.List.Sums.{take_while-cons}
use Rattle.wp_lex.specs.declared.place.Class.{Class}
use Rattle.wp_lex.specs.declared.place.Class.TheVariants.{Letter, Opens, Closes, Blank, Bad}
use Rattle.wp_lex.specs.Words.{class_of, is_letter, is_separator, is_between, is_word_byte, word_of, IsWord}

-- a byte of a word
abbrev in_word : ℕ → Bool
in_word byte = is_letter (class_of byte)

letter_class : (class : Class) → is_letter class ≡ true → class ≡ Letter
letter_class Letter h = refl
letter_class Opens h = cc
letter_class Closes h = cc
letter_class Blank h = cc
letter_class Bad h = cc

last_between : (a b c d : Bool) → d ≡ false
    → is_letter (cond a Opens (cond b Closes (cond c Blank (cond d Letter Bad)))) ≡ false
last_between true b c d e = refl
last_between false true c d e = refl
last_between false false true d e = refl
last_between false false false true e = e
last_between false false false false e = refl

-- no byte from 127 on is one of a word
in_word-high : (byte : ℕ) → 127 ≤ byte → in_word byte ≡ false
in_word-high byte h =
    let out : is_between 33 126 byte ≡ false = grind (arith, nat_tests) in
    last_between (eqb byte 40) (eqb byte 41) (is_separator byte || eqb byte 59) (is_between 33 126 byte) out

-- tests of one byte, for the bytes below 128
abbrev lowers : ℕ → Bool
lowers byte = not (in_word byte) || is_word_byte (to_ascii_lowercase byte)

abbrev stays : ℕ → Bool
stays byte = not (is_word_byte byte) || eqb (to_ascii_lowercase byte) byte

or_not : (a b : Bool) → (not a || b) ≡ true → a ≡ true → b ≡ true
or_not true b e h = e
or_not false b e h = cc

low : (byte : ℕ) → in_word byte ≡ true → byte < 128
low byte h = elim (cases_lt byte 127) [ inl lt ↦ omega arith | inr ge ↦ let none = in_word-high byte ge in cc ]

pub in_word-lowered : (byte : ℕ) → in_word byte ≡ true → is_word_byte (to_ascii_lowercase byte) ≡ true
in_word-lowered byte h =
    or_not (in_word byte) (is_word_byte (to_ascii_lowercase byte)) (agree_below_at lowers (λ b. true) 128 byte refl (low byte h)) h

pub word_byte-class : (byte : ℕ) → is_word_byte byte ≡ true → class_of byte ≡ Letter
word_byte-class byte h = letter_class (class_of byte) (and_parts (in_word byte) (not (is_ascii_uppercase byte)) h).0

word_byte-lower : (byte : ℕ) → is_word_byte byte ≡ true → to_ascii_lowercase byte ≡ byte
word_byte-lower byte h =
    eqb-true (to_ascii_lowercase byte) byte
    (or_not (is_word_byte byte) (eqb (to_ascii_lowercase byte) byte)
    (agree_below_at stays (λ b. true) 128 byte refl (low byte (and_parts (in_word byte) (not (is_ascii_uppercase byte)) h).0)) h)

word_of-cons : (byte : ℕ) (rest : List ℕ) → word_of (byte ∷ rest) ≡ cond (in_word byte) (to_ascii_lowercase byte ∷ word_of rest) []
word_of-cons byte rest =
    ap str_to_ascii_lowercase (take_while-cons in_word byte rest)
    ∙ lowered (in_word byte) byte (take_while in_word rest) where
      lowered : (b : Bool) (byte : ℕ) (bytes : List ℕ)
          → str_to_ascii_lowercase (cond b (byte ∷ bytes) []) ≡ cond b (to_ascii_lowercase byte ∷ str_to_ascii_lowercase bytes) []
      lowered true byte bytes = refl
      lowered false byte bytes = refl

all_cons : (b : Bool) (byte : ℕ) (bytes : List ℕ) → (b ≡ true → is_word_byte byte ≡ true) → list_all is_word_byte bytes ≡ true
    → list_all is_word_byte (cond b (byte ∷ bytes) []) ≡ true
all_cons true byte bytes h all = (λ j. h refl j && list_all is_word_byte bytes) ∙ all
all_cons false byte bytes h all = refl

word_of-letters : (rest : List ℕ) → list_all is_word_byte (word_of rest) ≡ true
word_of-letters [] = refl
word_of-letters (byte ∷ rest) =
    ap (list_all is_word_byte) (word_of-cons byte rest)
    ∙ all_cons (in_word byte) (to_ascii_lowercase byte) (word_of rest) (in_word-lowered byte) (word_of-letters rest)

-- what is read from a letter on is a word
pub word_of-IsWord : (byte : ℕ) (rest : List ℕ) → is_letter (class_of byte) ≡ true → IsWord (word_of (byte ∷ rest))
word_of-IsWord byte rest h = record {
  some =
      let first : word_of (byte ∷ rest) ≡ to_ascii_lowercase byte ∷ word_of rest =
      word_of-cons byte rest ∙ (λ j. cond (h j) (to_ascii_lowercase byte ∷ word_of rest) []) in
      omega (arith, ap length first);
  letters = word_of-letters (byte ∷ rest);
}

-- words are read as they stand, up to what is no letter
pub word_of-ended : (word : List ℕ) (byte : ℕ) (rest : List ℕ) → list_all is_word_byte word ≡ true → is_letter (class_of byte) ≡ false
    → word_of (word ++ byte ∷ rest) ≡ word
word_of-ended [] byte rest all ends = word_of-cons byte rest ∙ (λ j. cond (ends j) (to_ascii_lowercase byte ∷ word_of rest) [])
word_of-ended (first ∷ word) byte rest all ends =
    let parts = and_parts (is_word_byte first) (list_all is_word_byte word) all in
    let letter = and_parts (in_word first) (not (is_ascii_uppercase first)) parts.0 in
    word_of-cons first (word ++ byte ∷ rest)
    ∙ (λ j. cond (letter.0 j) (to_ascii_lowercase first ∷ word_of (word ++ byte ∷ rest)) [])
    ∙ (λ j. word_byte-lower first parts.0 j ∷ word_of-ended word byte rest parts.1 ends j)
