-- A small task with two atoms that no state has together, and an index that leaves this pair out.
use Rattle.std.specs.Prelude.{◌==◌, ◌+◌, ℕ, [], ◌∷◌}
use Rattle.wp_task.specs.Set.{set_of}
use Rattle.wp_task.specs.Task.{PlanningTask}
use Rattle.wp_tuples.specs.Placing.{Placing}

-- one thing goes between two places, the atoms 1 and 2; atom 0 is always true
abbrev pub shuttle : PlanningTask
shuttle = record {
  atoms = 3;
  init = set_of (0 ∷ 1 ∷ []) 3;
  goals = 2 ∷ [];
  acts =
      record { pre = 1 ∷ []; add = 2 ∷ []; del = 1 ∷ [] }
      ∷ record { pre = 2 ∷ []; add = 1 ∷ []; del = 2 ∷ [] }
      ∷ [];
}

-- the single atoms, and then the pairs that have atom 0
abbrev pub without_both : Placing
without_both = record {
  atoms = 3;
  width = 2;
  len = 5;
  counted = λ p q. p == 0;
  atom_place = λ p. p;
  pair_place = λ p q. q + 2;
}
