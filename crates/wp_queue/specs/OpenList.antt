-- The open list of a best-first search, after BFWS(f5) of Lipovetzky and Geffner (AAAI 2017): the generated nodes that
-- wait, by novelty and then by #g. Ours: the lower number breaks ties.
-- A set of nodes stands here as the list of them in order.
use Rattle.std.specs.Prelude.{◌≡◌, ◌≢◌, ◌⊎◌, ◌↔◌, ℕ, ◌<◌, List, ◌∷◌, Contains}
use Rattle.std.specs.List.{AllPairs}
use Rattle.wp_queue.specs.declared.queue.Waiting.{Waiting}

abbrev pub waiting : ℕ → ℕ → ℕ → Waiting
waiting w g number = record { w = w; g = g; number = number }

-- a comes before b: by novelty, then by #g, then by number
abbrev pub IsBefore : Waiting → Waiting → Type 0
IsBefore a b = (a.w < b.w) ⊎ ((a.w ≡ b.w) × ((a.g < b.g) ⊎ ((a.g ≡ b.g) × (a.number < b.number))))

abbrev pub InOrder : List Waiting → Type 0
InOrder queue = AllPairs IsBefore queue

-- x waits, and no node that waits comes before it
pub record IsFirst (queue : List Waiting) (x : Waiting) : Type 0 where
  pub waits : Contains queue x
  pub none_before : (y : Waiting) → Contains queue y → ¬ (IsBefore y x)

-- the set with x besides
pub record IsWith (old : List Waiting) (x : Waiting) (new : List Waiting) : Type 0 where
  pub order : InOrder new
  pub has : (y : Waiting) → Contains new y ↔ (Contains old y ⊎ (y ≡ x))

-- the set without its first node, which has this number
pub record IsTaken (old new : List Waiting) (number : ℕ) : Type 0 where
  pub node : Waiting
  pub named : node.number ≡ number
  pub first : IsFirst old node
  pub front : old ≡ node ∷ new
  pub order : InOrder new
  pub rest : (y : Waiting) → Contains new y ↔ (Contains old y × (y ≢ node))

-- no set has two lists
abbrev pub OneListForASet : Type 0
OneListForASet = (one other : List Waiting) → InOrder one → InOrder other →
    ((x : Waiting) → Contains one x ↔ Contains other x) → one ≡ other
