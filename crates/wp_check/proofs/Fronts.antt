-- Reading goes on behind what was read.
use Rattle.std.proofs.Common.{◌≡◌, ℕ, List, [], ◌∷◌, ◌++◌, Result, Ok, Err, refl, ap, append_assoc}
use Rattle.wp_check.specs.PlanFile.{with_first}

-- what was read, in front of the rest
abbrev pub with_all : {A : Type 0} → List A → Result (List A) ℕ → Result (List A) ℕ
with_all front (Err at) = Err at
with_all front (Ok xs) = Ok (front ++ xs)

pub with_all-more : {A : Type 0} (front : List A) (x : A) (rest : Result (List A) ℕ) → with_all (front ++ x ∷ []) rest ≡ with_all front (with_first (Ok x) rest)
with_all-more front x (Err at) = refl
with_all-more front x (Ok xs) = ap Ok (append_assoc front (x ∷ []) xs)
