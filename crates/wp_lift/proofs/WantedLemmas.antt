-- The first place that two packed rows have and a third has not.
use Rattle.std.proofs.Common.{◌≡◌, ◌≢◌, ◌==◌, ◌&&◌, ℕ, zero, suc, ◌+◌, ◌*◌, ◌-◌, ◌/◌, ◌%◌, ◌^◌, ◌<◌, ◌≤◌, not, Bool, true, false, List, length, get_or, bit_and, w64, refl, sym, ap, ◌∙◌, ⊎_elim, arith}
use Rattle.std.specs.Prelude.{min}
use Rattle.std.specs.Int.{bit_at, bit_not, trailing_zeros}
use Rattle.std.proofs.lemmas.Bool.{cases_lt}
use Rattle.std.proofs.lemmas.Nat.Bits.{bit_at-zero, bit_at-lt, bit_at_and, bit_at_not, bit_at-trailing_zeros}
use Rattle.std.proofs.lemmas.List.{get_or_past}
use Rattle.wp_lift.specs.Typing.{is_flagged}
use Rattle.wp_lift.specs.Rows.{bit_in, flags_in, is_wanted, is_wanted_bit, IsFirstWanted}
use Rattle.wp_lift.proofs.FlagLemmas.{flag-in, flag-past}

wanted_bits : (x y z : ℕ) → x < 2 → y < 2 → z < 2 → (min (min x y) (1 - z) == 1) ≡ ((x == 1) && ((y == 1) && not (z == 1)))
wanted_bits zero zero zero hx hy hz = refl
wanted_bits zero zero (suc zero) hx hy hz = refl
wanted_bits zero (suc zero) zero hx hy hz = refl
wanted_bits zero (suc zero) (suc zero) hx hy hz = refl
wanted_bits (suc zero) zero zero hx hy hz = refl
wanted_bits (suc zero) zero (suc zero) hx hy hz = refl
wanted_bits (suc zero) (suc zero) zero hx hy hz = refl
wanted_bits (suc zero) (suc zero) (suc zero) hx hy hz = refl
wanted_bits (suc (suc x)) y z hx hy hz = absurd (omega arith)
wanted_bits x (suc (suc y)) z hx hy hz = absurd (omega arith)
wanted_bits x y (suc (suc z)) hx hy hz = absurd (omega arith)

-- the bit of a place in its word
bit_of : (words : List ℕ) (place i : ℕ) → i < 64 → bit_in words (64 * place + i) ≡ (bit_at (get_or words place 0) i == 1)
unfolding bit_in
bit_of words place i h =
    let word : (64 * place + i) / 64 ≡ place = omega arith in
    let bit : (64 * place + i) % 64 ≡ i = omega arith in
    λ j. bit_at (get_or words (word j) 0) (bit j) == 1

pub wanted-word : (words within beyond : List ℕ) (place i a b c : ℕ) → a ≡ get_or words place 0 → b ≡ get_or within place 0
    → c ≡ get_or beyond place 0 → i < 64 → c < 2 ^ 64
    → (bit_at (bit_and (bit_and a b) (bit_not w64 c)) i == 1) ≡ is_wanted_bit words within beyond (64 * place + i)
wanted-word words within beyond place i a b c is_a is_b is_c h fits =
    let bit : (words : List ℕ) (word : ℕ) → word ≡ get_or words place 0 → (bit_at word i == 1) ≡ bit_in words (64 * place + i) =
    λ words word is. ap (λ (w : ℕ). bit_at w i == 1) is ∙ sym (bit_of words place i h) in
    ap (λ (t : ℕ). t == 1) (bit_at_and (bit_and a b) (bit_not w64 c) i ∙ λ j. min (bit_at_and a b i j) (bit_at_not w64 c i fits h j))
    ∙ wanted_bits (bit_at a i) (bit_at b i) (bit_at c i) (bit_at-lt a i) (bit_at-lt b i) (bit_at-lt c i)
    ∙ λ j. bit words a is_a j && (bit within b is_b j && not (bit beyond c is_c j))

-- what a word tells of its places
abbrev pub WordTells : List ℕ → List ℕ → List ℕ → ℕ → ℕ → Type 0
WordTells words within beyond place word = (i : ℕ) → i < 64 → (bit_at word i == 1) ≡ is_wanted_bit words within beyond (64 * place + i)

abbrev pub NoneBefore : List ℕ → List ℕ → List ℕ → ℕ → Type 0
NoneBefore words within beyond end = (q : ℕ) → q < end → is_wanted_bit words within beyond q ≡ false

no_bit : (words within beyond : List ℕ) (place word q : ℕ) → WordTells words within beyond place word → 64 * place ≤ q → q < 64 * (place + 1)
    → bit_at word (q - 64 * place) ≡ 0 → is_wanted_bit words within beyond q ≡ false
no_bit words within beyond place word q tells low high zero_bit =
    let same : 64 * place + (q - 64 * place) ≡ q = omega arith in
    sym (ap (is_wanted_bit words within beyond) same) ∙ sym (tells (q - 64 * place) (omega arith)) ∙ ap (λ (t : ℕ). t == 1) zero_bit

pub wanted-here : (words within beyond : List ℕ) (place word : ℕ) → WordTells words within beyond place word → 0 < word → word < 2 ^ 64
    → NoneBefore words within beyond (64 * place) → IsFirstWanted words within beyond (64 * place + trailing_zeros w64 word)
wanted-here words within beyond place word tells some fits before =
    let lowest = bit_at-trailing_zeros w64 word some fits in
    let bit = trailing_zeros w64 word in (
      sym (tells bit lowest.0) ∙ ap (λ (t : ℕ). t == 1) lowest.1,
      λ q h. ⊎_elim
          (λ (earlier : q < 64 * place). before q earlier)
          (λ (here : 64 * place ≤ q).
          no_bit words within beyond place word q tells here (let lt = lowest.0 in omega arith) (lowest.2 (q - 64 * place) (omega arith)))
          (cases_lt q (64 * place)),
    )

pub wanted-later : (words within beyond : List ℕ) (place word : ℕ) → WordTells words within beyond place word → word ≡ 0
    → NoneBefore words within beyond (64 * place) → NoneBefore words within beyond (64 * (place + 1))
wanted-later words within beyond place word tells none before q h = ⊎_elim
    (λ (earlier : q < 64 * place). before q earlier)
    (λ (here : 64 * place ≤ q).
    no_bit words within beyond place word q tells here h (ap (λ (w : ℕ). bit_at w (q - 64 * place)) none ∙ bit_at-zero (q - 64 * place)))
    (cases_lt q (64 * place))

pub wanted-nowhere : (words within beyond : List ℕ) (place : ℕ) → length words ≤ place → NoneBefore words within beyond (64 * place)
    → (q : ℕ) → is_wanted_bit words within beyond q ≡ false
unfolding bit_in
wanted-nowhere words within beyond place all before q = ⊎_elim
    (λ (earlier : q < 64 * place). before q earlier)
    (λ (past : 64 * place ≤ q).
    let none : bit_in words q ≡ false =
    ap (λ (w : ℕ). bit_at w (q % 64) == 1) (get_or_past words (q / 64) 0 (omega arith)) ∙ ap (λ (t : ℕ). t == 1) (bit_at-zero (q % 64)) in
    ap (λ (t : Bool). t && (bit_in within q && not (bit_in beyond q))) none)
    (cases_lt q (64 * place))

-- the same of rows of flags
pub wanted-flags : (words within beyond : List ℕ) (n m k p : ℕ) → m ≡ n → k ≡ n → p < n
    → is_wanted (flags_in words n) (flags_in within m) (flags_in beyond k) p ≡ is_wanted_bit words within beyond p
wanted-flags words within beyond n m k p same_m same_k h =
    λ j. flag-in words n p h j && (flag-in within m p (omega arith) j && not (flag-in beyond k p (omega arith) j))

pub wanted-none : (words within beyond : List ℕ) (n m k : ℕ) → m ≡ n → k ≡ n
    → ((p : ℕ) → p < n → is_wanted_bit words within beyond p ≡ false)
    → (p : ℕ) → is_wanted (flags_in words n) (flags_in within m) (flags_in beyond k) p ≡ false
wanted-none words within beyond n m k same_m same_k none p = ⊎_elim
    (λ (below : p < n). wanted-flags words within beyond n m k p same_m same_k below ∙ none p below)
    (λ (past : n ≤ p).
    ap (λ (t : Bool). t && (is_flagged (flags_in within m) p && not (is_flagged (flags_in beyond k) p))) (flag-past words n p past))
    (cases_lt p n)
