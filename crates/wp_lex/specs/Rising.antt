-- The places of a text's trees rise from the left to the right: a list stands before what is in it, and that before what is
-- behind the list. Each place is at least `low` and below `high`.
use Rattle.std.specs.Prelude.{ℕ, suc, ◌<◌, ◌≤◌, List, length}
use Rattle.wp_lex.specs.Trees.{Tree, Leaf, Branch, Trees, End, Then, trees_of}
use Rattle.wp_lex.specs.Items.{items_of, plan_items_of}

abbrev mutual
  pub TreeRises : Tree → ℕ → ℕ → Type 0
  TreeRises (Leaf text at) low high = (low ≤ at) × (at < high)
  TreeRises (Branch at trees) low high = (low ≤ at) × Rises trees (suc at) high

  pub Rises : Trees → ℕ → ℕ → Type 0
  Rises End low high = low ≤ high
  Rises (Then tree rest) low high = (middle : ℕ) × TreeRises tree low middle × Rises rest middle high

abbrev pub TextsRise : Type 0
TextsRise = (text : List ℕ) → Rises (trees_of (items_of text)) 0 (length text)

abbrev pub PlansRise : Type 0
PlansRise = (text : List ℕ) → Rises (trees_of (plan_items_of text)) 0 (length text)
