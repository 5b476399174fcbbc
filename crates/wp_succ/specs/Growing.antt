-- A tree that grows: one way from its root is open, and everything off that way is nodes.
use Rattle.std.specs.Prelude.{ℕ, ◌≤◌, Bool, List, [], ◌∷◌, ◌++◌, length, map, All, if◌then◌else◌}
use Rattle.wp_task.specs.Set.{has}
use Rattle.wp_succ.specs.declared.growing.Step.{Step}
use Rattle.wp_succ.specs.declared.growing.Growing.{Growing}
use Rattle.wp_succ.specs.Tree.{among, reached_by_count, AreLinked}

-- the atoms on a way
abbrev pub atoms_on : List Step → List ℕ
atoms_on way = map (λ step. step.atom) way

-- what is reached along a way, of what is reached at its end
abbrev pub reached_along : List Bool → List (List ℕ) → List Step → List ℕ → List ℕ
reached_along s lists [] end = end
reached_along s lists (step ∷ way) end =
    step.acts.items ++ (if has s step.atom then reached_along s lists way end else among lists step.before)

-- the actions that are reached in a state
abbrev pub reached_so_far : List Bool → Growing → List ℕ
reached_so_far s growing = reached_along s (reached_by_count s growing.nodes.items) growing.way.items
    (growing.acts.items ++ among (reached_by_count s growing.nodes.items) (length growing.nodes.items))

-- what lies before a node, or before a step of the way, is there
pub record IsGrowing (growing : Growing) : Type 0 where
  pub linked : AreLinked growing.nodes.items
  pub way : All (λ step. step.before ≤ length growing.nodes.items) growing.way.items
