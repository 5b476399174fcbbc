-- A certificate of no plan: states, each of them by its atoms in order. It claims that they are closed: that they hold the
-- opening state of a task and all that its actions lead to from them, and that none of them has all goals.
-- Ours: states may come in any order, and more than once.
use Rattle.std.specs.Prelude.{ℕ, ◌≤◌, List, length, map, All}
use Rattle.wp_task.specs.Set.{AreAtoms, set_of}

-- what can be written: so many states, of atoms below the greatest number that a task can have
pub record AreStates (cert : List (List ℕ)) : Type 0 where
  pub few : length cert ≤ 100000000
  pub each : All (AreAtoms 65536) cert
