-- Plans along the links of kept nodes: a node's actions from a root are its parent's, and then the one that led from it.
use Rattle.std.specs.Prelude.{◌≡◌, ◌==◌, ℕ, true, false, List, [], ◌∷◌, ◌++◌, All, Option, Some, None, fold}
use Rattle.wp_nodes.specs.declared.kept.Back.{Back}
use Rattle.wp_nodes.specs.declared.kept.Kept.{Kept}

-- the actions at the end of a link, by the plans to the nodes: none to a root
abbrev pub along : (ℕ → List ℕ) → Option Back → List ℕ
along plans None = []
along plans (Some back) = plans back.parent ++ back.act ∷ []

-- the plans to the nodes of all numbers follow the links
abbrev pub FollowLinks : List Kept → (ℕ → List ℕ) → Type 0
FollowLinks kept plans = All (λ k. plans k.number ≡ along plans k.back) kept

-- the plan is the one that all plans give which follow the links
abbrev pub IsAlongLinks : List Kept → ℕ → List ℕ → Type 0
IsAlongLinks kept number plan = (plans : ℕ → List ℕ) → FollowLinks kept plans → plan ≡ plans number

-- the plans, with one node more
abbrev pub with_plan : (ℕ → List ℕ) → Kept → ℕ → List ℕ
with_plan plans k number = elim (k.number == number) [ true ↦ along plans k.back | false ↦ plans number ]

-- the plan to the node of a number, from the plans to the nodes before it
abbrev pub plan_in : List Kept → ℕ → List ℕ
plan_in kept = fold with_plan (λ _. []) kept
