-- Sets of pairs that only grow, each made from the one before: a round changes nothing or adds a pair.
use Rattle.std.proofs.Common.{◌≡◌, ◌⊎◌, not, ◌+◌, ◌<◌, ◌≤◌, ℕ, zero, suc, Bool, true, false, cond, List, [], ◌∷◌, length, get_or, refl, ap, ◌∙◌, sym, inl, inr, ⊎_elim, arith}
use Rattle.std.proofs.lemmas.List.Sums.{sum_by-cons}
use Rattle.wp_task.specs.Set.{has}
use Rattle.wp_mutex.specs.WorkList.{unset, missing}

unset-true : (row : List Bool) → unset (true ∷ row) ≡ unset row
unset-true row = omega (arith, sum_by-cons (λ b. cond (not b) 1 0) true row)

unset-false : (row : List Bool) → unset (false ∷ row) ≡ suc (unset row)
unset-false row = omega (arith, sum_by-cons (λ b. cond (not b) 1 0) false row)

-- one flag more in front
fewer_by : (x y : Bool) (xs ys : List Bool) → (x ≡ true → y ≡ true) → (xs ≡ ys) ⊎ (unset ys < unset xs) →
    (x ∷ xs ≡ y ∷ ys) ⊎ (unset (y ∷ ys) < unset (x ∷ xs))
fewer_by true true xs ys keeps rest = ⊎_elim
    (λ (same : xs ≡ ys). let found : (true ∷ xs ≡ true ∷ ys) ⊎ (unset (true ∷ ys) < unset (true ∷ xs)) = inl (ap (λ l. true ∷ l) same) in found)
    (λ (less : unset ys < unset xs). let found : (true ∷ xs ≡ true ∷ ys) ⊎ (unset (true ∷ ys) < unset (true ∷ xs)) =
    inr (omega (arith, unset-true xs, unset-true ys)) in found)
    rest
fewer_by true false xs ys keeps rest = let clash : false ≡ true = keeps refl in absurd (cc)
fewer_by false true xs ys keeps rest = ⊎_elim
    (λ (same : xs ≡ ys). let e : unset xs ≡ unset ys = ap unset same in
    let found : (false ∷ xs ≡ true ∷ ys) ⊎ (unset (true ∷ ys) < unset (false ∷ xs)) =
    inr (omega (arith, unset-false xs, unset-true ys)) in found)
    (λ (less : unset ys < unset xs). let found : (false ∷ xs ≡ true ∷ ys) ⊎ (unset (true ∷ ys) < unset (false ∷ xs)) =
    inr (omega (arith, unset-false xs, unset-true ys)) in found)
    rest
fewer_by false false xs ys keeps rest = ⊎_elim
    (λ (same : xs ≡ ys). let found : (false ∷ xs ≡ false ∷ ys) ⊎ (unset (false ∷ ys) < unset (false ∷ xs)) = inl (ap (λ l. false ∷ l) same) in found)
    (λ (less : unset ys < unset xs). let found : (false ∷ xs ≡ false ∷ ys) ⊎ (unset (false ∷ ys) < unset (false ∷ xs)) =
    inr (omega (arith, unset-false xs, unset-false ys)) in found)
    rest

fewer_flags : (xs ys : List Bool) → length xs ≡ length ys → ((p : ℕ) → has xs p ≡ true → has ys p ≡ true) →
    (xs ≡ ys) ⊎ (unset ys < unset xs)
fewer_flags [] [] size within = inl refl
fewer_flags [] (y ∷ ys) size within = absurd (cc)
fewer_flags (x ∷ xs) [] size within = absurd (cc)
fewer_flags (x ∷ xs) (y ∷ ys) size within =
    fewer_by x y xs ys (within 0) (fewer_flags xs ys (omega arith) (λ p. within (suc p)))

fewer_in : (x y : List Bool) (xs ys : List (List Bool)) → (x ≡ y) ⊎ (unset y < unset x) →
    (xs ≡ ys) ⊎ (missing ys < missing xs) → (x ∷ xs ≡ y ∷ ys) ⊎ (missing (y ∷ ys) < missing (x ∷ xs))
fewer_in x y xs ys first rest =
    let old : missing (x ∷ xs) ≡ unset x + missing xs = sum_by-cons unset x xs in
    let new : missing (y ∷ ys) ≡ unset y + missing ys = sum_by-cons unset y ys in
    let Goal : Type 0 = (x ∷ xs ≡ y ∷ ys) ⊎ (missing (y ∷ ys) < missing (x ∷ xs)) in
    ⊎_elim
    (λ (same : x ≡ y).
    let count : unset x ≡ unset y = ap unset same in
    ⊎_elim
    (λ (all : xs ≡ ys). let found : Goal = inl (λ j. same j ∷ all j) in found)
    (λ (less : missing ys < missing xs). let found : Goal = inr (omega (arith, old, new, count)) in found)
    rest)
    (λ (few : unset y < unset x). ⊎_elim
    (λ (all : xs ≡ ys).
    let count : missing xs ≡ missing ys = ap missing all in
    let found : Goal = inr (omega (arith, old, new, count)) in found)
    (λ (less : missing ys < missing xs). let found : Goal = inr (omega (arith, old, new)) in found)
    rest)
    first

-- a set that has all pairs of another is the same, or lacks fewer
pub fewer : (xs ys : List (List Bool)) → length xs ≡ length ys →
    ((q : ℕ) → length (get_or xs q []) ≡ length (get_or ys q [])) →
    ((q p : ℕ) → has (get_or xs q []) p ≡ true → has (get_or ys q []) p ≡ true) →
    (xs ≡ ys) ⊎ (missing ys < missing xs)
fewer [] [] size rows within = inl refl
fewer [] (y ∷ ys) size rows within = absurd (cc)
fewer (x ∷ xs) [] size rows within = absurd (cc)
fewer (x ∷ xs) (y ∷ ys) size rows within =
    fewer_in x y xs ys (fewer_flags x y (rows 0) (within 0))
    (fewer xs ys (omega arith) (λ q. rows (suc q)) (λ q p. within (suc q) p))

module _ (n : ℕ) (s : ℕ → List (List Bool)) (f : List (List Bool) → List (List Bool))
    (most : (d : ℕ) → missing (s d) ≤ n) (made : (d : ℕ) → s (suc d) ≡ f (s d))
    (grows : (d : ℕ) → (s d ≡ s (suc d)) ⊎ (missing (s (suc d)) < missing (s d))) where
  same_or_few : (d : ℕ) → (s (suc d) ≡ s d) ⊎ (missing (s (suc d)) + d < n)
  same_or_few zero = ⊎_elim
      (λ (same : s 0 ≡ s 1). inl (sym same))
      (λ (less : missing (s 1) < missing (s 0)). inr (omega (arith, most 0)))
      (grows 0)
  same_or_few (suc d) = ⊎_elim
      (λ (same : s (suc d) ≡ s d). inl (made (suc d) ∙ (ap f same ∙ sym (made d))))
      (λ (few : missing (s (suc d)) + d < n). ⊎_elim
      (λ (same : s (suc d) ≡ s (suc (suc d))).
      let found : (s (suc (suc d)) ≡ s (suc d)) ⊎ (missing (s (suc (suc d))) + suc d < n) = inl (sym same) in found)
      (λ (less : missing (s (suc (suc d))) < missing (s (suc d))).
      let found : (s (suc (suc d)) ≡ s (suc d)) ⊎ (missing (s (suc (suc d))) + suc d < n) = inr (omega arith) in found)
      (grows (suc d)))
      (same_or_few d)

  pub stays : s (suc n) ≡ s n
  stays = ⊎_elim
      (λ (same : s (suc n) ≡ s n). same)
      (λ (few : missing (s (suc n)) + n < n). absurd (omega arith))
      (same_or_few n)
