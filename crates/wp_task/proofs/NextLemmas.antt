-- The least set bit of a word, and of a list of words.
use Rattle.std.proofs.Common.{◌≡◌, ◌==◌, ℕ, ◌+◌, ◌-◌, ◌*◌, ◌/◌, ◌%◌, ◌^◌, ◌<◌, ◌≤◌, false, List, length, get_or, sym, ap, ◌∙◌, ⊎_elim, w64, arith}
use Rattle.std.specs.Int.{bit_at, trailing_zeros}
use Rattle.std.proofs.lemmas.Bool.{cases_lt}
use Rattle.std.proofs.lemmas.List.{get_or_past}
use Rattle.std.proofs.lemmas.Nat.{pow-add}
use Rattle.std.proofs.lemmas.Nat.Bits.{bit_at-zero, bit_at-trailing_zeros, bit_at_above}
use Rattle.std.proofs.Math.Nat.{div-div-eq-div-mul}
use Rattle.wp_task.specs.Packing.{bit_in, IsLeastBit, IsNextBit}

-- ---- in a word
bit_at-shift : (n k i : ℕ) → bit_at (n / 2 ^ k) i ≡ bit_at n (k + i)
bit_at-shift n k i = ap (λ m. m % 2) (div-div-eq-div-mul n (2 ^ k) (2 ^ i) ∙ ap (λ d. n / d) (sym (pow-add 2 k i)))

bit_at-shifted : (n k i : ℕ) → k ≤ i → bit_at n i ≡ bit_at (n / 2 ^ k) (i - k)
bit_at-shifted n k i late =
    let place : i ≡ k + (i - k) = omega arith in
    ap (bit_at n) place ∙ sym (bit_at-shift n k (i - k))

pub none_left : (word from : ℕ) → word / 2 ^ from ≡ 0 → (i : ℕ) → from ≤ i → bit_at word i ≡ 0
none_left word from nothing i late =
    bit_at-shifted word from i late ∙ (ap (λ n. bit_at n (i - from)) nothing ∙ bit_at-zero (i - from))

pub least_left : (word from : ℕ) → word < 2 ^ 64 → word / 2 ^ from < 2 ^ 64 → 0 < word / 2 ^ from →
    (from + trailing_zeros w64 (word / 2 ^ from) < 64) × IsLeastBit word from (from + trailing_zeros w64 (word / 2 ^ from))
least_left word from fits rest_fits some =
    let rest = word / 2 ^ from in
    let zeros = trailing_zeros w64 rest in
    let lowest = bit_at-trailing_zeros w64 rest some rest_fits in
    let is_one : bit_at word (from + zeros) ≡ 1 = sym (bit_at-shift word from zeros) ∙ lowest.1 in (
      ⊎_elim
          (λ (within : from + zeros < 64). within)
          (λ (past : 64 ≤ from + zeros). absurd (let zero_bit : bit_at word (from + zeros) ≡ 0 = bit_at_above word 64 (from + zeros) fits past in omega arith))
          (cases_lt (from + zeros) 64),
      record {
        late = omega arith;
        is_one = is_one;
        zeros_before = λ i late before. bit_at-shifted word from i late ∙ lowest.2 (i - from) (omega arith);
      },
    )

-- ---- in a list of words
pub bit_in-at : (words : List ℕ) (place bit : ℕ) → bit < 64 → bit_in words (64 * place + bit) ≡ (bit_at (get_or words place 0) bit == 1)
unfolding bit_in
bit_in-at words place bit within =
    let word : (64 * place + bit) / 64 ≡ place = omega arith in
    let bits : (64 * place + bit) % 64 ≡ bit = omega arith in
    λ j. bit_at (get_or words (word j) 0) (bits j) == 1

bit_in-within : (words : List ℕ) (place q : ℕ) → 64 * place ≤ q → q < 64 * place + 64 →
    bit_in words q ≡ (bit_at (get_or words place 0) (q % 64) == 1)
bit_in-within words place q late within =
    let same : q ≡ 64 * place + q % 64 = omega arith in
    ap (bit_in words) same ∙ bit_in-at words place (q % 64) (omega arith)

pub next_in_word : (words : List ℕ) (place start bit : ℕ) → bit < 64 → IsLeastBit (get_or words place 0) start bit →
    IsNextBit words (64 * place + start) (64 * place + bit)
next_in_word words place start bit within least = record {
  late = omega (arith, least.late);
  is_set = bit_in-at words place bit within ∙ ap (λ b. b == 1) least.is_one;
  none_before = λ q late before. bit_in-within words place q (omega arith) (omega arith)
      ∙ ap (λ b. b == 1) (least.zeros_before (q % 64) (omega arith) (omega arith));
}

pub none_in_word : (words : List ℕ) (place start : ℕ) → ((i : ℕ) → start ≤ i → bit_at (get_or words place 0) i ≡ 0) →
    (q : ℕ) → 64 * place + start ≤ q → q < 64 * place + 64 → bit_in words q ≡ false
none_in_word words place start zeros q late before =
    bit_in-within words place q (omega arith) before ∙ ap (λ b. b == 1) (zeros (q % 64) (omega arith))

pub none_past : (words : List ℕ) (q : ℕ) → 64 * length words ≤ q → bit_in words q ≡ false
unfolding bit_in
none_past words q past =
    ap (λ w. bit_at w (q % 64) == 1) (get_or_past words (q / 64) 0 (omega arith)) ∙ ap (λ b. b == 1) (bit_at-zero (q % 64))

-- the next set bit is also that from an earlier number on, where none is set in between
pub next_from_earlier : (words : List ℕ) (from mid p : ℕ) → from ≤ mid → ((q : ℕ) → from ≤ q → q < mid → bit_in words q ≡ false) →
    IsNextBit words mid p → IsNextBit words from p
next_from_earlier words from mid p earlier between next = record {
  late = omega (arith, next.late);
  is_set = next.is_set;
  none_before = λ q late before. ⊎_elim
      (λ (first : q < mid). between q late first)
      (λ (then : mid ≤ q). next.none_before q then before)
      (cases_lt q mid);
}
