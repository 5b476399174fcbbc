-- A packed set has the words of its flags, so equal sets have equal words.
use Rattle.std.proofs.Common.{◌≡◌, ◌==◌, ℕ, zero, suc, ◌+◌, ◌*◌, ◌/◌, ◌%◌, ◌^◌, ◌<◌, Bool, true, false, cond, List, length, map, get_or, nat_eq, refl, sym, ap, ◌∙◌, ⊎_elim, arith}
use Rattle.std.specs.Int.{bit_at}
use Rattle.std.specs.List.{range_with_len, sum_by}
use Rattle.std.proofs.lemmas.Bool.{cases_Bool, eqb-true, eqb-false, ne_eqb, false_from_ne_true, both_ways}
use Rattle.std.proofs.lemmas.List.{map-id}
use Rattle.std.proofs.lemmas.List.FromFn.{fill_by_all, sum_by-map-range_with_len_more}
use Rattle.std.proofs.lemmas.Nat.{mod-pow-add}
use Rattle.std.proofs.lemmas.Nat.Bits.{bit_at-lt}
use Rattle.std.proofs.Math.Nat.{mod-eq_of_lt}
use Rattle.std.specs.Bool.{beq}
use Rattle.std.specs.Cmp.{booleans_Decides}
use Rattle.std.specs.Cmp.Lexicographic.{pointwise}
use Rattle.std.proofs.lemmas.Bool.Decides.{Decides-eqb}
use Rattle.std.proofs.lemmas.Slice.Eq.{slice_eq-Decides}
use Rattle.wp_task.specs.Set.{has}
use Rattle.wp_task.specs.Packing.{flags_in, IsPacked, word_of, words_of}
use Rattle.wp_task.proofs.PackingLemmas.{has-flags_in, length-flags_in}
use Rattle.wp_task.proofs.NextLemmas.{bit_in-at}

-- a bit that is set has its worth
bit_worth : (bit worth : ℕ) → bit < 2 → cond (bit == 1) worth 0 ≡ bit * worth
bit_worth bit worth small = ⊎_elim
    (λ (yes_one : (bit == 1) ≡ true).
    let one : bit ≡ 1 = eqb-true bit 1 yes_one in
    ap (λ b. cond b worth 0) yes_one ∙ (let e : worth ≡ 1 * worth = omega arith in e ∙ ap (λ b. b * worth) (sym one)))
    (λ (no_one : (bit == 1) ≡ false).
    let zero_bit : bit ≡ 0 = (let not_one : bit ≡ 1 → ⊥ = eqb-false bit 1 no_one in omega arith) in
    ap (λ b. cond b worth 0) no_one ∙ (let e : 0 ≡ 0 * worth = omega arith in e ∙ ap (λ b. b * worth) (sym zero_bit)))
    (cases_Bool (bit == 1))

pub sum_by-range_more : (g : ℕ → ℕ) (n : ℕ) → sum_by g (range_with_len 0 (n + 1)) ≡ sum_by g (range_with_len 0 n) + g n
sum_by-range_more g n = simp map-id at (sum_by-map-range_with_len_more g (λ (k : ℕ). k) 0 n n (omega arith))

-- the bits of a number, by their worth, make it
bits_sum : (n w : ℕ) → sum_by (λ i. cond (bit_at n i == 1) (2 ^ i) 0) (range_with_len 0 w) ≡ n % 2 ^ w
bits_sum n zero = omega arith
bits_sum n (suc w) =
    let worth : ℕ → ℕ = λ i. cond (bit_at n i == 1) (2 ^ i) 0 in
    let more : sum_by worth (range_with_len 0 (w + 1)) ≡ sum_by worth (range_with_len 0 w) + worth w = sum_by-range_more worth w in
    let high : worth w ≡ bit_at n w * 2 ^ w = bit_worth (bit_at n w) (2 ^ w) (bit_at-lt n w) in
    let split : n % 2 ^ (1 + w) ≡ (n / 2 ^ w % 2 ^ 1) * 2 ^ w + n % 2 ^ w = mod-pow-add n 1 w in
    let one : w + 1 ≡ suc w = omega arith in
    let one_more : 1 + w ≡ suc w = omega arith in
    ap (λ k. sum_by worth (range_with_len 0 k)) (sym one) ∙ (more ∙ ((λ j. bits_sum n w j + high j)
    ∙ ((let swap : n % 2 ^ w + bit_at n w * 2 ^ w ≡ bit_at n w * 2 ^ w + n % 2 ^ w = omega arith in swap)
    ∙ (sym split ∙ ap (λ k. n % 2 ^ k) one_more))))

pub sums_agree : (f g : ℕ → ℕ) (n : ℕ) → ((i : ℕ) → i < n → f i ≡ g i) → sum_by f (range_with_len 0 n) ≡ sum_by g (range_with_len 0 n)
sums_agree f g zero same = refl
sums_agree f g (suc n) same =
    let one : n + 1 ≡ suc n = omega arith in
    let before : sum_by f (range_with_len 0 n) ≡ sum_by g (range_with_len 0 n) = sums_agree f g n (λ i below. same i (omega arith)) in
    let last : f n ≡ g n = same n (omega arith) in
    ap (λ k. sum_by f (range_with_len 0 k)) (sym one)
    ∙ (sum_by-range_more f n ∙ ((λ j. before j + last j) ∙ (sym (sum_by-range_more g n)
    ∙ ap (λ k. sum_by g (range_with_len 0 k)) one)))

-- a number below 2 ^ w is the sum of the worth of its bits, whatever tells them
number_of_bits : (n w : ℕ) (flags : ℕ → Bool) → n < 2 ^ w → ((i : ℕ) → i < w → flags i ≡ (bit_at n i == 1)) →
    n ≡ sum_by (λ i. cond (flags i) (2 ^ i) 0) (range_with_len 0 w)
number_of_bits n w flags fits same = sym (mod-eq_of_lt fits) ∙ (sym (bits_sum n w)
    ∙ sums_agree (λ i. cond (bit_at n i == 1) (2 ^ i) 0) (λ i. cond (flags i) (2 ^ i) 0) w
    (λ i below. ap (λ b. cond b (2 ^ i) 0) (sym (same i below))))

-- each word is that of its flags
word_of-flags_in : (words : List ℕ) (size place : ℕ) → IsPacked words size → get_or words place 0 < 2 ^ 64 →
    get_or words place 0 ≡ word_of (flags_in words size) place
unfolding word_of
word_of-flags_in words size place packed fits =
    number_of_bits (get_or words place 0) 64 (λ i. has (flags_in words size) (64 * place + i)) fits
    (λ i below. has-flags_in words size packed (64 * place + i) ∙ bit_in-at words place i below)

pub words_of-flags_in : (words : List ℕ) (size : ℕ) → IsPacked words size → ((i : ℕ) → get_or words i 0 < 2 ^ 64) →
    words ≡ words_of (flags_in words size)
words_of-flags_in words size packed fit =
    fill_by_all (word_of (flags_in words size)) words ((size + 63) / 64) 0 packed.room
    (λ k within. word_of-flags_in words size k packed (fit k))
    ∙ ap (λ n. map (word_of (flags_in words size)) (range_with_len 0 ((n + 63) / 64))) (sym (length-flags_in words size))

-- two tests that pass together are one
pub same_test : (x y : Bool) → (x ≡ true → y ≡ true) → (y ≡ true → x ≡ true) → x ≡ y
same_test x y to from = ⊎_elim
    (λ (passes : x ≡ true). passes ∙ sym (to passes))
    (λ (fails : x ≡ false). fails ∙ sym (false_from_ne_true y (λ (passes : y ≡ true). both_ways x fails (from passes))))
    (cases_Bool x)

-- of packed sets of one size the words are compared, and sets of different sizes differ
pub same_words : (words others : List ℕ) (size : ℕ) → IsPacked words size → IsPacked others size →
    ((i : ℕ) → get_or words i 0 < 2 ^ 64) → ((i : ℕ) → get_or others i 0 < 2 ^ 64) →
    pointwise nat_eq words others ≡ pointwise beq (flags_in words size) (flags_in others size)
same_words words others size packed others_packed fit others_fit =
    let flags = flags_in words size in
    let other_flags = flags_in others size in
    same_test (pointwise nat_eq words others) (pointwise beq flags other_flags)
    (λ same. (slice_eq-Decides booleans_Decides flags other_flags (pointwise beq flags other_flags) refl).1
    (ap (λ (w : List ℕ). flags_in w size) ((slice_eq-Decides Decides-eqb words others (pointwise nat_eq words others) refl).0 same)))
    (λ same. (slice_eq-Decides Decides-eqb words others (pointwise nat_eq words others) refl).1
    (words_of-flags_in words size packed fit
    ∙ (ap words_of ((slice_eq-Decides booleans_Decides flags other_flags (pointwise beq flags other_flags) refl).0 same)
    ∙ sym (words_of-flags_in others size others_packed others_fit))))

pub other_sizes : (set other : List Bool) (size other_size : ℕ) → length set ≡ size → length other ≡ other_size →
    (size ≡ other_size → ⊥) → (size == other_size) ≡ pointwise beq set other
other_sizes set other size other_size len other_len differ =
    ne_eqb size other_size differ ∙ sym (false_from_ne_true (pointwise beq set other)
    (λ same. differ (sym len ∙ (ap length ((slice_eq-Decides booleans_Decides set other (pointwise beq set other) refl).0 same) ∙ other_len))))
