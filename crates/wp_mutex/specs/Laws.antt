-- What holds of possible pairs, whatever the actions are.
use Rattle.std.specs.Prelude.{◌≡◌, ◌↔◌, Bool, List, length}
use Rattle.wp_task.specs.declared.acts.Act.{Act}
use Rattle.wp_task.specs.Task.{PlanningTask, IsReachable}
use Rattle.wp_mutex.specs.PossiblePairs.{more_pairs, possible_pairs, HasRows, HasPairsOf, ArePairsOf, IsClosed}

-- a further round changes nothing
abbrev pub PairsSettle : Type 0
PairsSettle = (acts : List Act) (state : List Bool) → more_pairs acts (possible_pairs acts state) ≡ possible_pairs acts state

-- the set is closed, and within each that is
pub record IsLeastClosed (acts : List Act) (state : List Bool) (pairs : List (List Bool)) : Type 0 where
  pub rows : HasRows (length state) pairs
  pub closed : IsClosed acts state pairs
  pub least : (other : List (List Bool)) → IsClosed acts state other → ArePairsOf pairs other

-- the possible pairs are the least closed set, however it is made
abbrev pub LeastAreClosed : Type 0
LeastAreClosed = (acts : List Act) (state : List Bool) (pairs : List (List Bool)) →
    IsLeastClosed acts state pairs ↔ (pairs ≡ possible_pairs acts state)

-- every two atoms of a reachable state are a possible pair
abbrev pub ReachablePairsArePossible : Type 0
ReachablePairsArePossible = (task : PlanningTask) (state : List Bool) → IsReachable task state →
    HasPairsOf state (possible_pairs task.acts task.init)
