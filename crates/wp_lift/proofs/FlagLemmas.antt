-- What a set bit and joined words do to the flags that are packed into words.
use Rattle.std.proofs.Common.{◌≡◌, ◌≢◌, ◌==◌, ◌||◌, ℕ, zero, suc, ◌+◌, ◌/◌, ◌%◌, ◌<◌, ◌≤◌, Bool, true, false, cond, List, length, map, get_or, set, slice_set, replicate, refl, sym, ap, ◌∙◌, ⊎_elim, arith, get_or-set_same, get_or-set_other}
use Rattle.std.specs.Prelude.{bit_or, max}
use Rattle.std.specs.Int.{bit_at}
use Rattle.std.specs.List.{range_with_len}
use Rattle.std.proofs.lemmas.Bool.{cases_eq, cases_lt, eq-eqb, ne_eqb}
use Rattle.std.proofs.lemmas.Nat.Bits.{bit_at-zero, bit_at-lt, bit_at_or}
use Rattle.std.proofs.lemmas.List.{ext_get_or, get_or_past, get_or-replicate, length-replicate}
use Rattle.std.proofs.lemmas.List.FromFn.{get_or-map-range_with_len, length-map-range_with_len, fill_by_all}
use Rattle.std.proofs.Math.ListN.{length-set}
use Rattle.std.proofs.Math.Bool.{or-false, or-true}
use Rattle.wp_lift.specs.Typing.{is_flagged, flags_of}
use Rattle.wp_lift.specs.Rows.{bit_in, flags_in, either}

-- a set bit
same_place : (p q : ℕ) → q / 64 ≡ p / 64 → q % 64 ≡ p % 64 → q ≡ p
same_place p q same_word same_bit = omega arith

pub bit_in-set_same : (words : List ℕ) (p word : ℕ) → p / 64 < length words →
    bit_in (set words (p / 64) word) p ≡ (bit_at word (p % 64) == 1)
unfolding bit_in
bit_in-set_same words p word there = ap (λ w. bit_at w (p % 64) == 1) (get_or-set_same words (p / 64) word 0 there)

pub bit_in-set_other : (words : List ℕ) (p word : ℕ) → p / 64 < length words →
    ((i : ℕ) → i < 64 → (i ≡ p % 64 → ⊥) → bit_at word i ≡ bit_at (get_or words (p / 64) 0) i) →
    (q : ℕ) → (q ≡ p → ⊥) → bit_in (set words (p / 64) word) q ≡ bit_in words q
unfolding bit_in
bit_in-set_other words p word there same q other = ⊎_elim
    (λ (same_word : q / 64 ≡ p / 64). (ap (λ i. bit_at (get_or (set words (p / 64) word) i 0) (q % 64) == 1) same_word
    ∙ ap (λ w. bit_at w (q % 64) == 1) (get_or-set_same words (p / 64) word 0 there))
    ∙ (ap (λ b. b == 1) (same (q % 64) (omega arith) (λ same_bit. other (same_place p q same_word same_bit)))
    ∙ ap (λ i. bit_at (get_or words i 0) (q % 64) == 1) (sym same_word)))
    (λ (other_word : q / 64 ≡ p / 64 → ⊥). ap (λ w. bit_at w (q % 64) == 1) (get_or-set_other words (p / 64) (q / 64) word 0 other_word))
    (cases_eq (q / 64) (p / 64))

pub with_bit : (now before : ℕ → Bool) (p : ℕ) → now p ≡ true → ((q : ℕ) → (q ≡ p → ⊥) → now q ≡ before q) →
    (q : ℕ) → now q ≡ (before q || (p == q))
with_bit now before p here others q = ⊎_elim
    (λ (same : q ≡ p). ap now same ∙ (here ∙ (sym (or-true (before q)) ∙ ap (λ b. before q || b) (sym (eq-eqb p q (sym same))))))
    (λ (other : q ≡ p → ⊥). others q other ∙ (sym (or-false (before q)) ∙ ap (λ b. before q || b) (sym (ne_eqb p q (λ same. other (sym same))))))
    (cases_eq q p)

-- a flag of a row
pub length-flags : (words : List ℕ) (count : ℕ) → length (flags_in words count) ≡ count
length-flags words count = length-map-range_with_len (bit_in words) 0 count

pub flag-in : (words : List ℕ) (count p : ℕ) → p < count → get_or (flags_in words count) p false ≡ bit_in words p
flag-in words count p h = get_or-map-range_with_len (bit_in words) 0 count p p false h (omega arith)

pub flag-past : (words : List ℕ) (count p : ℕ) → count ≤ p → get_or (flags_in words count) p false ≡ false
flag-past words count p h = get_or_past (flags_in words count) p false (omega (arith, length-flags words count))

pub flags-set : (words changed : List ℕ) (count p : ℕ) → ((q : ℕ) → bit_in changed q ≡ (bit_in words q || (p == q))) → p < count
    → flags_in changed count ≡ slice_set (flags_in words count) p true
flags-set words changed count p bits h = sym (fill_by_all (bit_in changed) (slice_set (flags_in words count) p true) count false
    (length-set (flags_in words count) p true ∙ length-flags words count)
    (λ k within. ⊎_elim
    (λ (same : k ≡ p).
    ap (λ (k : ℕ). get_or (slice_set (flags_in words count) p true) k false) same
    ∙ get_or-set_same (flags_in words count) p true false (omega (arith, length-flags words count))
    ∙ sym (bits k ∙ ap (λ (t : Bool). bit_in words k || t) (eq-eqb p k (sym same)) ∙ or-true (bit_in words k)))
    (λ (other : k ≢ p).
    get_or-set_other (flags_in words count) p k true false other ∙ flag-in words count k within
    ∙ sym (bits k ∙ ap (λ (t : Bool). bit_in words k || t) (ne_eqb p k (λ same. other (sym same))) ∙ or-false (bit_in words k)))
    (cases_eq k p)))

pub set-past : (words : List ℕ) (count p : ℕ) → count ≤ p → slice_set (flags_in words count) p true ≡ flags_in words count
set-past words count p h = ext_get_or false _ _ (length-set (flags_in words count) p true)
    (λ k within. get_or-set_other (flags_in words count) p k true false
    (λ same. absurd (omega (arith, length-set (flags_in words count) p true, length-flags words count))))

-- joined words
bits_or : (a b : ℕ) → a < 2 → b < 2 → (max a b == 1) ≡ ((a == 1) || (b == 1))
bits_or zero zero ha hb = refl
bits_or zero (suc zero) ha hb = refl
bits_or (suc zero) zero ha hb = refl
bits_or (suc zero) (suc zero) ha hb = refl
bits_or zero (suc (suc b)) ha hb = absurd (omega arith)
bits_or (suc zero) (suc (suc b)) ha hb = absurd (omega arith)
bits_or (suc (suc a)) b ha hb = absurd (omega arith)

pub bit_in-joined : (words others joined : List ℕ) → ((p : ℕ) → p < length words → get_or joined p 0 ≡ bit_or (get_or words p 0) (get_or others p 0))
    → (q : ℕ) → q / 64 < length words → bit_in joined q ≡ (bit_in words q || bit_in others q)
unfolding bit_in
bit_in-joined words others joined each q h =
    ap (λ w. bit_at w (q % 64) == 1) (each (q / 64) h)
    ∙ ap (λ b. b == 1) (bit_at_or (get_or words (q / 64) 0) (get_or others (q / 64) 0) (q % 64))
    ∙ bits_or (bit_at (get_or words (q / 64) 0) (q % 64)) (bit_at (get_or others (q / 64) 0) (q % 64))
    (bit_at-lt (get_or words (q / 64) 0) (q % 64)) (bit_at-lt (get_or others (q / 64) 0) (q % 64))

pub flags-joined : (words others joined : List ℕ) (count : ℕ) → length words ≡ (count + 63) / 64
    → ((p : ℕ) → p < length words → get_or joined p 0 ≡ bit_or (get_or words p 0) (get_or others p 0))
    → flags_in joined count ≡ either (flags_in words count) (flags_in others count)
flags-joined words others joined count room each =
    let row = flags_in words count in
    let other = flags_in others count in
    let both = map (λ (b : ℕ). is_flagged row b || is_flagged other b) (range_with_len 0 (length row)) in
    sym (ap (λ (t : Bool). cond t both row) (eq-eqb (length row) (length other) (length-flags words count ∙ sym (length-flags others count)))
    ∙ fill_by_all (bit_in joined) both count false
    (length-map-range_with_len (λ (b : ℕ). is_flagged row b || is_flagged other b) 0 (length row) ∙ length-flags words count)
    (λ k within.
    get_or-map-range_with_len (λ (b : ℕ). is_flagged row b || is_flagged other b) 0 (length row) k k false
    (omega (arith, length-flags words count)) (omega arith)
    ∙ (λ i. flag-in words count k within i || flag-in others count k within i)
    ∙ sym (bit_in-joined words others joined each k (omega (arith, room)))))

pub not-joined : (words others : List ℕ) (count other_count : ℕ) → count ≢ other_count
    → either (flags_in words count) (flags_in others other_count) ≡ flags_in words count
not-joined words others count other_count other =
    let row = flags_in words count in
    let both = map (λ (b : ℕ). is_flagged row b || is_flagged (flags_in others other_count) b) (range_with_len 0 (length row)) in
    ap (λ (t : Bool). cond t both row) (ne_eqb (length row) (length (flags_in others other_count))
    (λ same. other (sym (length-flags words count) ∙ same ∙ length-flags others other_count)))

-- words of zeros
bit_in-zeros : (n p : ℕ) → bit_in (replicate n 0) p ≡ false
unfolding bit_in
bit_in-zeros n p =
    let zero_word : get_or (replicate n 0) (p / 64) 0 ≡ 0 = ⊎_elim
    (λ (within : p / 64 < n). get_or-replicate n (p / 64) 0 0 within)
    (λ (past : n ≤ p / 64). get_or_past (replicate n 0) (p / 64) 0 (omega (arith, length-replicate {A = ℕ})))
    (cases_lt (p / 64) n) in
    ap (λ w. bit_at w (p % 64) == 1) zero_word ∙ ap (λ b. b == 1) (bit_at-zero (p % 64))

pub flags-zeros : (n count : ℕ) → flags_in (replicate n 0) count ≡ replicate count false
flags-zeros n count = sym (fill_by_all (bit_in (replicate n 0)) (replicate count false) count false (length-replicate count false)
    (λ k within. get_or-replicate count k false false within ∙ sym (bit_in-zeros n k)))

-- the flags of a type at the start
set_flag : (flags : List Bool) (p k : ℕ) → k < length flags → get_or (slice_set flags p true) k false ≡ ((k == p) || get_or flags k false)
set_flag flags p k h = ⊎_elim
    (λ (same : k ≡ p).
    ap (λ (k : ℕ). get_or (slice_set flags p true) k false) same ∙ get_or-set_same flags p true false (omega arith)
    ∙ sym (ap (λ (t : Bool). t || get_or flags k false) (eq-eqb k p same)))
    (λ (other : k ≢ p).
    get_or-set_other flags p k true false other ∙ sym (ap (λ (t : Bool). t || get_or flags k false) (ne_eqb k p other)))
    (cases_eq k p)

pub flags-own : (count a : ℕ) → slice_set (slice_set (replicate count false) 0 true) a true ≡ flags_of count a
flags-own count a =
    let none = replicate count false in
    let len : length none ≡ count = length-replicate count false in
    let one = slice_set none 0 true in
    let one_len : length one ≡ count = length-set none 0 true ∙ len in
    fill_by_all (λ (b : ℕ). (b == a) || (b == 0)) (slice_set one a true) count false (length-set one a true ∙ one_len)
    (λ k within.
    set_flag one a k (omega (arith, one_len))
    ∙ ap (λ (t : Bool). (k == a) || t) (set_flag none 0 k (omega (arith, len))
    ∙ ap (λ (t : Bool). (k == 0) || t) (get_or-replicate count k false false within) ∙ or-false (k == 0)))
