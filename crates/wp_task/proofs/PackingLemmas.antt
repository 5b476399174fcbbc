-- What a changed bit does to a packed set, and what its flags are.
use Rattle.std.proofs.Common.{◌≡◌, ◌==◌, ◌&&◌, ◌||◌, not, ℕ, ◌+◌, ◌/◌, ◌%◌, ◌<◌, ◌≤◌, Bool, true, false, List, length, get_or, set, replicate, refl, sym, ap, ◌∙◌, ⊎_elim, arith}
use Rattle.std.specs.Int.{bit_at}
use Rattle.std.proofs.lemmas.Bool.{cases_eq, cases_lt, eq-eqb, ne_eqb}
use Rattle.std.proofs.lemmas.List.{get_or-set_same, get_or-set_other, get_or_past, get_or-replicate, length-replicate}
use Rattle.std.proofs.lemmas.List.FromFn.{get_or-map-range_with_len, length-map-range_with_len, fill_by_all}
use Rattle.std.proofs.lemmas.Nat.Bits.{bit_at-zero}
use Rattle.std.proofs.Math.Bool.{or-false, or-true}
use Rattle.wp_task.specs.Packing.{bit_in, flags_in, IsPacked, IsNextBit}
use Rattle.wp_task.specs.Set.{has, IsNext}

-- two atoms with the same word and the same place in it are one
pub same_atom : (p q : ℕ) → q / 64 ≡ p / 64 → q % 64 ≡ p % 64 → q ≡ p
same_atom p q same_word same_place = omega arith

-- a bit of a word that takes the place of another one
pub bit_in-set_same : (words : List ℕ) (p word : ℕ) → p / 64 < length words →
    bit_in (set words (p / 64) word) p ≡ (bit_at word (p % 64) == 1)
unfolding bit_in
bit_in-set_same words p word there = ap (λ w. bit_at w (p % 64) == 1) (get_or-set_same words (p / 64) word 0 there)

pub bit_in-set_other : (words : List ℕ) (p word : ℕ) → p / 64 < length words →
    ((i : ℕ) → i < 64 → (i ≡ p % 64 → ⊥) → bit_at word i ≡ bit_at (get_or words (p / 64) 0) i) →
    (q : ℕ) → (q ≡ p → ⊥) → bit_in (set words (p / 64) word) q ≡ bit_in words q
unfolding bit_in
bit_in-set_other words p word there same q other = ⊎_elim
    (λ (same_word : q / 64 ≡ p / 64). (ap (λ i. bit_at (get_or (set words (p / 64) word) i 0) (q % 64) == 1) same_word
    ∙ ap (λ w. bit_at w (q % 64) == 1) (get_or-set_same words (p / 64) word 0 there))
    ∙ (ap (λ b. b == 1) (same (q % 64) (omega arith) (λ same_place. other (same_atom p q same_word same_place)))
    ∙ ap (λ i. bit_at (get_or words i 0) (q % 64) == 1) (sym same_word)))
    (λ (other_word : q / 64 ≡ p / 64 → ⊥). ap (λ w. bit_at w (q % 64) == 1) (get_or-set_other words (p / 64) (q / 64) word 0 other_word))
    (cases_eq (q / 64) (p / 64))

-- one bit set, one bit cleared
pub with_bit : (now before : ℕ → Bool) (p : ℕ) → now p ≡ true → ((q : ℕ) → (q ≡ p → ⊥) → now q ≡ before q) →
    (q : ℕ) → now q ≡ (before q || (p == q))
with_bit now before p here others q = ⊎_elim
    (λ (same : q ≡ p). ap now same ∙ (here ∙ (sym (or-true (before q)) ∙ ap (λ b. before q || b) (sym (eq-eqb p q (sym same))))))
    (λ (other : q ≡ p → ⊥). others q other ∙ (sym (or-false (before q)) ∙ ap (λ b. before q || b) (sym (ne_eqb p q (λ same. other (sym same))))))
    (cases_eq q p)

pub and-true : (b : Bool) → (b && true) ≡ b
and-true b = elim b as (λ v. (v && true) ≡ v) [ true ↦ refl | false ↦ refl ]

and-false : (b : Bool) → (b && false) ≡ false
and-false b = elim b as (λ v. (v && false) ≡ false) [ true ↦ refl | false ↦ refl ]

pub without_bit : (now before : ℕ → Bool) (p : ℕ) → now p ≡ false → ((q : ℕ) → (q ≡ p → ⊥) → now q ≡ before q) →
    (q : ℕ) → now q ≡ (before q && not (p == q))
without_bit now before p here others q = ⊎_elim
    (λ (same : q ≡ p). ap now same ∙ (here ∙ (sym (and-false (before q)) ∙ ap (λ b. before q && not b) (sym (eq-eqb p q (sym same))))))
    (λ (other : q ≡ p → ⊥). others q other ∙ (sym (and-true (before q)) ∙ ap (λ b. before q && not b) (sym (ne_eqb p q (λ same. other (sym same))))))
    (cases_eq q p)

-- the flags of packed words
pub length-flags_in : (words : List ℕ) (size : ℕ) → length (flags_in words size) ≡ size
length-flags_in words size = length-map-range_with_len (bit_in words) 0 size

pub has-flags_in : (words : List ℕ) (size : ℕ) → IsPacked words size → (p : ℕ) → has (flags_in words size) p ≡ bit_in words p
has-flags_in words size packed p = ⊎_elim
    (λ (within : p < size). get_or-map-range_with_len (bit_in words) 0 size p p false within (omega arith))
    (λ (past : size ≤ p). get_or_past (flags_in words size) p false (omega (arith, length-flags_in words size)) ∙ sym (packed.spare p past))
    (cases_lt p size)

-- a packed set whose flags have changed, none of them past the size
pub record IsChange (words changed : List ℕ) (size : ℕ) (f : ℕ → Bool → Bool) : Type 0 where
  pub packed : IsPacked changed size
  pub flags : (q : ℕ) → has (flags_in changed size) q ≡ f q (has (flags_in words size) q)

pub changed_flags : (words changed : List ℕ) (size : ℕ) (f : ℕ → Bool → Bool) →
    IsPacked words size → length changed ≡ length words →
    ((q : ℕ) → bit_in changed q ≡ f q (bit_in words q)) → ((q : ℕ) → size ≤ q → f q false ≡ false) →
    IsChange words changed size f
changed_flags words changed size f packed len bits spare =
    let still : IsPacked changed size = record {
      room = len ∙ packed.room;
      spare = λ q past. bits q ∙ (ap (f q) (packed.spare q past) ∙ spare q past);
    } in
    record {
      packed = still;
      flags = λ q. has-flags_in changed size still q ∙ (bits q ∙ ap (f q) (sym (has-flags_in words size packed q)));
    }

pub inserted : (words changed : List ℕ) (size p : ℕ) → IsPacked words size → p < size → length changed ≡ length words →
    ((q : ℕ) → bit_in changed q ≡ (bit_in words q || (p == q))) → IsChange words changed size (λ q b. b || (p == q))
inserted words changed size p packed within len bits =
    changed_flags words changed size (λ q b. b || (p == q)) packed len bits
    (λ q past. ne_eqb p q (λ (same : p ≡ q). omega arith))

pub removed : (words changed : List ℕ) (size p : ℕ) → IsPacked words size → length changed ≡ length words →
    ((q : ℕ) → bit_in changed q ≡ (bit_in words q && not (p == q))) → IsChange words changed size (λ q b. b && not (p == q))
removed words changed size p packed len bits =
    changed_flags words changed size (λ q b. b && not (p == q)) packed len bits (λ q past. refl)

-- words of zeros
bit_in-zeros : (n p : ℕ) → bit_in (replicate n 0) p ≡ false
unfolding bit_in
bit_in-zeros n p =
    let zero_word : get_or (replicate n 0) (p / 64) 0 ≡ 0 = ⊎_elim
    (λ (within : p / 64 < n). get_or-replicate n (p / 64) 0 0 within)
    (λ (past : n ≤ p / 64). get_or_past (replicate n 0) (p / 64) 0 (omega (arith, length-replicate {A = ℕ})))
    (cases_lt (p / 64) n) in
    ap (λ w. bit_at w (p % 64) == 1) zero_word ∙ ap (λ b. b == 1) (bit_at-zero (p % 64))

pub packed-zeros : (size : ℕ) → IsPacked (replicate ((size + 63) / 64) 0) size
packed-zeros size = record {
  room = length-replicate ((size + 63) / 64) 0;
  spare = λ p past. bit_in-zeros ((size + 63) / 64) p;
}

pub flags_in-zeros : (n size : ℕ) → flags_in (replicate n 0) size ≡ replicate size false
flags_in-zeros n size = sym (fill_by_all (bit_in (replicate n 0)) (replicate size false) size false (length-replicate size false)
    (λ k within. get_or-replicate size k false false within ∙ sym (bit_in-zeros n k)))

-- the next set bit is the next atom
pub next_atom : (words : List ℕ) (size : ℕ) → IsPacked words size → (from p : ℕ) → IsNextBit words from p → IsNext (flags_in words size) from p
next_atom words size packed from p next = record {
  late = next.late;
  in_set = has-flags_in words size packed p ∙ next.is_set;
  none_before = λ q late before. has-flags_in words size packed q ∙ next.none_before q late before;
}
