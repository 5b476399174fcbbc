-- A tree of successors: a decision tree over preconditions, after Helmert (2006). Each node tests one atom. The nodes below it are
-- for the actions that need it too; the others, which do not care, are looked at in any case.
-- Ours: nodes lie in a list, each behind those below it, so that a walk from the last node to the first looks at those below a node
-- next where its atom is true, and else leaves them out in one step.
use Rattle.std.specs.Prelude.{◌≡◌, ◌==◌, ◌&&◌, not, ℕ, ◌-◌, ◌<◌, ◌≤◌, nat_lt, Bool, List, [], ◌∷◌, ◌++◌, length, map, filter, fold, count_by, slice_index_or, if◌then◌else◌}
use Rattle.std.specs.List.{list_all, range_with_len}
use Rattle.wp_task.specs.Set.{has}
use Rattle.wp_succ.specs.declared.tree.Node.{Node}
use Rattle.wp_succ.specs.declared.tree.Tree.TheInside.{Inside}

-- what is reached among so many first nodes, of the lists by their number
abbrev pub among : List (List ℕ) → ℕ → List ℕ
among lists count = slice_index_or lists count []

-- what is reached with one node more than there are: its own actions and all before, or what lies before those below it
abbrev pub reached_with : List Bool → List (List ℕ) → Node → List ℕ
reached_with s lists node =
    if has s node.atom then node.acts.items ++ among lists (length lists - 1) else among lists node.before

-- for each number of first nodes the actions that are reached among them in a state
abbrev pub reached_by_count : List Bool → List Node → List (List ℕ)
reached_by_count s nodes = fold (λ lists node. lists ++ reached_with s lists node ∷ []) ([] ∷ []) nodes

-- the actions that are reached in a state: those without preconditions, and those among all nodes
abbrev pub reached_in : List Bool → Inside → List ℕ
reached_in s tree = tree.always.items ++ among (reached_by_count s tree.nodes.items) (length tree.nodes.items)

-- how often an action is listed
abbrev pub times : List ℕ → ℕ → ℕ
times acts a = count_by (λ b. b == a) acts

-- all atoms but one
abbrev pub all_but : ℕ → ℕ → List Bool
all_but size p = map (λ q. not (q == p)) (range_with_len 0 size)

-- an action needs the atoms without which it is not reached, whatever else is true
abbrev pub needs_in : Inside → ℕ → List ℕ
needs_in tree a = filter (λ p. times (reached_in (all_but tree.atoms p) tree) a == 0) (range_with_len 0 tree.atoms)

-- the preconditions that a tree knows, by action
abbrev pub needs_by_action : Inside → List (List ℕ)
needs_by_action tree = map (needs_in tree) (range_with_len 0 tree.count)

-- what lies before those below a node lies before the node
abbrev pub AreLinked : List Node → Type 0
AreLinked nodes = (k : ℕ) (d : Node) → k < length nodes → (slice_index_or nodes k d).before ≤ k

-- each action is listed once where its preconditions are in a state, and no other number is
abbrev pub AreApplicable : List (List ℕ) → List Bool → List ℕ → Type 0
AreApplicable needs s acts = (a : ℕ) →
    times acts a ≡ (if nat_lt a (length needs) && list_all (has s) (slice_index_or needs a []) then 1 else 0)

-- what is reached in a state are the actions whose preconditions are in it
pub record IsTree (tree : Inside) : Type 0 where
  pub linked : AreLinked tree.nodes.items
  pub whole : (s : List Bool) → AreApplicable (needs_by_action tree) s (reached_in s tree)
