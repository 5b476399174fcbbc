-- Counters of a node: #g, the number of unmet goals, and #r, how much of a relaxed plan was achieved since #g last
-- fell. They are the counters of BFWS(f5), after Lipovetzky and Geffner (AAAI 2017).
-- Ours: #r counts atoms that the relaxed plan at the base adds, over all states after the base.
-- A path is the list of its states from the node back to the root, so the nearest comes first.
use Rattle.std.specs.Prelude.{ℕ, nat_lt, Bool, true, List, [], ◌∷◌, count_by, if◌then◌else◌}
use Rattle.std.specs.List.{list_any}
use Rattle.wp_task.specs.Set.{has}
use Rattle.wp_task.specs.Task.{PlanningTask, goal_counter}
use Rattle.wp_relax.specs.RelaxedPlan.{relaxed_atoms_of}

-- whether a state after those before it is a base: the root is one, and a state with fewer unmet goals than its parent
abbrev pub is_base : List ℕ → List Bool → List (List Bool) → Bool
is_base goals state [] = true
is_base goals state (parent ∷ before) = nat_lt (goal_counter goals state) (goal_counter goals parent)

-- the latest base on the path
abbrev pub base_of : List ℕ → List (List Bool) → List Bool
base_of goals [] = []
base_of goals (state ∷ before) = if is_base goals state before then state else base_of goals before

-- the states of the path after its base
abbrev pub after_base : List ℕ → List (List Bool) → List (List Bool)
after_base goals [] = []
after_base goals (state ∷ before) = if is_base goals state before then [] else state ∷ after_base goals before

-- whether an atom is in some of the states
abbrev pub in_some : List (List Bool) → ℕ → Bool
in_some states p = list_any (λ state. has state p) states

-- R of the path's base
abbrev pub base_atoms : PlanningTask → List (List Bool) → List ℕ
base_atoms task path = relaxed_atoms_of task.acts task.goals (base_of task.goals path)

-- #r: how many atoms of R of the base are in some state of the path after the base
abbrev pub relaxed_counter : PlanningTask → List (List Bool) → ℕ
relaxed_counter task path = count_by (in_some (after_base task.goals path)) (base_atoms task path)
