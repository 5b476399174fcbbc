-- Sets of n atoms that only grow, each made from the one before: after n rounds they stay the same. A round changes
-- nothing or adds an atom, so round d + 1 has more than d.
use Rattle.std.proofs.Common.{◌≡◌, ◌⊎◌, ◌<◌, ℕ, zero, suc, Bool, true, false, cond, List, [], ◌∷◌, length, refl, ap, ◌∙◌, sym, inl, inr, ⊎_elim, arith}
use Rattle.std.specs.List.{count_by}
use Rattle.std.proofs.lemmas.List.Sums.{sum_by-cons, count_by-le-length}
use Rattle.wp_task.specs.Set.{has}

-- how many atoms are in the set
abbrev pub count : List Bool → ℕ
count set = count_by (λ b. b) set

-- each atom of the one set is in the other
abbrev pub IsWithin : List Bool → List Bool → Type 0
IsWithin old new = (p : ℕ) → has old p ≡ true → has new p ≡ true

count-true : (set : List Bool) → count (true ∷ set) ≡ suc (count set)
count-true set = omega (arith, sum_by-cons (λ b. cond b 1 0) true set)

count-false : (set : List Bool) → count (false ∷ set) ≡ count set
count-false set = omega (arith, sum_by-cons (λ b. cond b 1 0) false set)

-- one flag more in front
larger_by : (x y : Bool) (xs ys : List Bool) → (x ≡ true → y ≡ true) → (xs ≡ ys) ⊎ (count xs < count ys) →
    (x ∷ xs ≡ y ∷ ys) ⊎ (count (x ∷ xs) < count (y ∷ ys))
larger_by true true xs ys keeps rest = ⊎_elim
    (λ (same : xs ≡ ys). let found : (true ∷ xs ≡ true ∷ ys) ⊎ (count (true ∷ xs) < count (true ∷ ys)) = inl (ap (λ l. true ∷ l) same) in found)
    (λ (more : count xs < count ys). let found : (true ∷ xs ≡ true ∷ ys) ⊎ (count (true ∷ xs) < count (true ∷ ys)) =
    inr (omega (arith, count-true xs, count-true ys)) in found)
    rest
larger_by true false xs ys keeps rest = let clash : false ≡ true = keeps refl in absurd (cc)
larger_by false true xs ys keeps rest = ⊎_elim
    (λ (same : xs ≡ ys). let e : count xs ≡ count ys = ap count same in
    let found : (false ∷ xs ≡ true ∷ ys) ⊎ (count (false ∷ xs) < count (true ∷ ys)) =
    inr (omega (arith, count-false xs, count-true ys)) in found)
    (λ (more : count xs < count ys). let found : (false ∷ xs ≡ true ∷ ys) ⊎ (count (false ∷ xs) < count (true ∷ ys)) =
    inr (omega (arith, count-false xs, count-true ys)) in found)
    rest
larger_by false false xs ys keeps rest = ⊎_elim
    (λ (same : xs ≡ ys). let found : (false ∷ xs ≡ false ∷ ys) ⊎ (count (false ∷ xs) < count (false ∷ ys)) = inl (ap (λ l. false ∷ l) same) in found)
    (λ (more : count xs < count ys). let found : (false ∷ xs ≡ false ∷ ys) ⊎ (count (false ∷ xs) < count (false ∷ ys)) =
    inr (omega (arith, count-false xs, count-false ys)) in found)
    rest

-- a set that has all of another is the same, or has more atoms
pub larger : (xs ys : List Bool) → length xs ≡ length ys → IsWithin xs ys → (xs ≡ ys) ⊎ (count xs < count ys)
larger [] [] size within = inl refl
larger [] (y ∷ ys) size within = absurd (cc)
larger (x ∷ xs) [] size within = absurd (cc)
larger (x ∷ xs) (y ∷ ys) size within =
    larger_by x y xs ys (within 0) (larger xs ys (omega arith) (λ p. within (suc p)))

module _ (n : ℕ) (s : ℕ → List Bool) (f : List Bool → List Bool) (sizes : (d : ℕ) → length (s d) ≡ n)
    (made : (d : ℕ) → s (suc d) ≡ f (s d)) (grows : (d : ℕ) → IsWithin (s d) (s (suc d))) where
  same_or_many : (d : ℕ) → (s (suc d) ≡ s d) ⊎ (d < count (s (suc d)))
  same_or_many zero = ⊎_elim
      (λ (same : s 0 ≡ s 1). inl (sym same))
      (λ (more : count (s 0) < count (s 1)). inr (omega arith))
      (larger (s 0) (s 1) (sizes 0 ∙ sym (sizes 1)) (grows 0))
  same_or_many (suc d) = ⊎_elim
      (λ (same : s (suc d) ≡ s d). inl (made (suc d) ∙ (ap f same ∙ sym (made d))))
      (λ (many : d < count (s (suc d))). ⊎_elim
      (λ (same : s (suc d) ≡ s (suc (suc d))).
      let found : (s (suc (suc d)) ≡ s (suc d)) ⊎ (suc d < count (s (suc (suc d)))) = inl (sym same) in found)
      (λ (more : count (s (suc d)) < count (s (suc (suc d)))).
      let found : (s (suc (suc d)) ≡ s (suc d)) ⊎ (suc d < count (s (suc (suc d)))) = inr (omega arith) in found)
      (larger (s (suc d)) (s (suc (suc d))) (sizes (suc d) ∙ sym (sizes (suc (suc d)))) (grows (suc d))))
      (same_or_many d)

  pub stays : s (suc n) ≡ s n
  stays = ⊎_elim
      (λ (same : s (suc n) ≡ s n). same)
      (λ (many : n < count (s (suc n))). absurd (
      let size : length (s (suc n)) ≡ n = sizes (suc n) in
      omega (arith, count_by-le-length (λ b. b) (s (suc n)))))
      (same_or_many n)
