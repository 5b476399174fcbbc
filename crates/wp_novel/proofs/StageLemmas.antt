-- A list whose elements are changed one after another.
use Rattle.std.proofs.Common.{◌≡◌, ℕ, zero, suc, ◌+◌, ◌<◌, ◌≤◌, List, [], ◌∷◌, ◌++◌, length, get_or, set, take, drop, map, refl, ap, ◌∙◌, arith}

module _ {X : Type 0} (f : X → X) where
  -- the first k elements were changed
  abbrev pub stage : ℕ → List X → List X
  stage k xs = map f (take k xs) ++ drop k xs

  pub stage-at : (k : ℕ) (xs : List X) (d : X) → k < length xs → get_or (stage k xs) k d ≡ get_or xs k d
  stage-at k [] d within = absurd (omega arith)
  stage-at zero (x ∷ xs) d within = refl
  stage-at (suc k) (x ∷ xs) d within = stage-at k xs d (omega arith)

  stage-suc : (k : ℕ) (xs : List X) (d : X) → k < length xs → set (stage k xs) k (f (get_or xs k d)) ≡ stage (suc k) xs
  stage-suc k [] d within = absurd (omega arith)
  stage-suc zero (x ∷ xs) d within = refl
  stage-suc (suc k) (x ∷ xs) d within = ap (λ l. f x ∷ l) (stage-suc k xs d (omega arith))

  pub stage-set : (k : ℕ) (xs : List X) (d : X) → k < length xs → set (stage k xs) k (f (get_or xs k d)) ≡ stage (k + 1) xs
  stage-set k xs d within = stage-suc k xs d within ∙ ap (λ (n : ℕ). stage n xs) (let e : suc k ≡ k + 1 = omega arith in e)

  pub stage-all : (k : ℕ) (xs : List X) → length xs ≤ k → stage k xs ≡ map f xs
  stage-all zero [] past = refl
  stage-all (suc k) [] past = refl
  stage-all zero (x ∷ xs) past = absurd (omega arith)
  stage-all (suc k) (x ∷ xs) past = ap (λ l. f x ∷ l) (stage-all k xs (omega arith))

  pub length-stage : (k : ℕ) (xs : List X) → length (stage k xs) ≡ length xs
  length-stage zero xs = refl
  length-stage (suc k) [] = refl
  length-stage (suc k) (x ∷ xs) = ap suc (length-stage k xs)
