use Rattle.std.proofs.Common.{rules, ◌≡◌, ℕ, ◌<◌, ◌≤◌, ◌^◌, ◌&&◌, not, Bool, true, false, nat_lt, List, length, None, Err, refl, arith}
use Rattle.std.specs.Str.{all_ascii_digits}
use Rattle.std.specs.Str.Parse.{ParsesUnsigned, digits_value}
use Rattle.std.proofs.lemmas.Str.Parse.{IsNumeralModel, parse_digits, numerals_by_value, tells_all_ascii_digits}
use Rattle.std.proofs.lemmas.Bool.{and_parts, not-true, ltb-false, ltb-true}
use Rattle.wp_words.specs.Values.{is_number, is_within, number_in}

abbrev AreDigits : List ℕ → Type 0
AreDigits word = all_ascii_digits word ≡ true

digits_are_read : IsNumeralModel AreDigits (digits_value 10)
digits_are_read = numerals_by_value AreDigits tells_all_ascii_digits

within-below : (low high n : ℕ) → is_within low high n ≡ true → n ≤ high
within-below low high n is =
    let parts = and_parts (not (nat_lt n low)) (not (nat_lt high n)) is in
    ltb-false high n (not-true (nat_lt high n) parts.1)

refused-by : (low high n : ℕ) (b : Bool) → is_within low high n ≡ b → (n ≤ high → ⊥) → b ≡ false
refused-by low high n true e above = absurd (above (within-below low high n e))
refused-by low high n false e above = refl

-- a word that is not read as a number of 64 bits writes none up to a bound of 64 bits
pub number_in-none : {E : Type 0} (low high : ℕ) (word : List ℕ) (e : E) → high < 2 ^ 64 → ParsesUnsigned 64 10 word (Err e) →
    is_number word ≡ true → number_in low high word ≡ None
number_in-none low high word e small unread is =
    let first = and_parts (nat_lt 0 (length word)) (nat_lt (length word) 21 && all_ascii_digits word) is in
    let digits = and_parts (nat_lt (length word) 21) (all_ascii_digits word) first.1 in
    let some = ltb-true 0 (length word) first.0 in
    let above : digits_value 10 word ≤ high → ⊥ =
    (λ (below : digits_value 10 word ≤ high). parse_digits digits_are_read 64 word (Err e) unread digits.1 (some, omega (arith, below, small))) in
    let far : is_within low high (digits_value 10 word) ≡ false =
    refused-by low high (digits_value 10 word) (is_within low high (digits_value 10 word)) refl above in
    search (rules, is, far)
