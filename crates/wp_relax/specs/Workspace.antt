-- For which tasks relaxed plans can be made in a workspace.
use Rattle.std.specs.Prelude.{◌≡◌, ℕ, Bool, List, length}
use Rattle.wp_task.specs.Task.{PlanningTask}

-- for how many atoms and actions there is room
pub record Room : Type 0 where
  pub atoms : ℕ
  pub acts : ℕ

-- the room that a task needs
abbrev pub room_for : PlanningTask → Room
room_for task = record { atoms = task.atoms; acts = length task.acts }

-- there is a place for each atom and for each action in each of the vectors
pub record AreOfOneSize (costs left prices : List ℕ) (wanted added : List Bool) : Type 0 where
  pub priced : length prices ≡ length left
  pub for_wanted : length wanted ≡ length costs
  pub for_added : length added ≡ length costs
