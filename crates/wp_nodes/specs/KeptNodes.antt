-- The nodes that a search keeps: those that it generated and did not prune, in the order of their numbers.
use Rattle.std.specs.Prelude.{◌≡◌, ◌≢◌, ◌==◌, ℕ, ◌<◌, Bool, List, length, All, Option, Some, IsSome, IfSome}
use Rattle.std.specs.Bool.{beq}
use Rattle.std.specs.Cmp.Lexicographic.{pointwise}
use Rattle.std.specs.List.{find, AllPairs}
use Rattle.wp_nodes.specs.declared.kept.Kept.{Kept}

-- what is kept: the nodes, and the atoms of the relaxed plans that counters count on, which nodes name by their places
pub record Keeping : Type 0 where
  pub kept : List Kept
  pub tracks : List (List ℕ)

-- the kept node of a number
abbrev pub node_of : List Kept → ℕ → Option Kept
node_of kept number = find (λ k. k.number == number) kept

abbrev pub IsKept : List Kept → ℕ → Type 0
IsKept kept number = IsSome (node_of kept number)

-- the kept node of the number has the state
abbrev pub HasState : List Kept → List Bool → ℕ → Type 0
HasState kept state number = (k : Kept) × (node_of kept number ≡ Some k) × (k.state ≡ state)

-- whether the node has the state
abbrev pub has_state : List Bool → Kept → Bool
has_state state k = pointwise beq state k.state

-- the node is a root, or an earlier node is kept as its parent
abbrev pub HasParent : List Kept → Kept → Type 0
HasParent kept k = IfSome k.back (λ back. (back.parent < k.number) × IsKept kept back.parent)

-- numbers rise, no two nodes have one state, and of each node the parent is kept, and the track
pub record AreLinked (nodes : Keeping) : Type 0 where
  pub rising : AllPairs (λ x y. x.number < y.number) nodes.kept
  pub apart : AllPairs (λ x y. x.state ≢ y.state) nodes.kept
  pub parents : All (HasParent nodes.kept) nodes.kept
  pub tracked : All (λ k. k.mark.track < length nodes.tracks) nodes.kept
