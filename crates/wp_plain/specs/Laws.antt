-- What holds of every search, whatever its task: of its ending, and of the nodes that it has then.
-- The bound is that of iterated width: a node is kept for a tuple that is new (Lipovetzky and Geffner, ECAI 2012); with
-- counters it is that of k-BFWS (AAAI 2017).
use Rattle.std.specs.Prelude.{◌≡◌, ◌⊎◌, ◌+◌, ◌-◌, ◌*◌, ◌/◌, ◌^◌, ◌<◌, ◌≤◌, ◌≢◌, ℕ, Bool, true, false, List, All, length, Contains}
use Rattle.std.specs.List.{list_all, AllPairs}
use Rattle.wp_task.specs.Set.{has, IsIn}
use Rattle.wp_task.specs.Task.{PlanningTask, IsTask, IsReachable, act_at, applies, result_of, is_plan}
use Rattle.wp_task.specs.Novelty.{IsNewAt, tuples_in}
use Rattle.wp_plain.specs.declared.settings.Search.TheVariants.{KBfws, F5}
use Rattle.wp_plain.specs.declared.settings.Settings.{Settings}
use Rattle.wp_plain.specs.declared.ending.Counts.{Counts}
use Rattle.wp_plain.specs.declared.ending.Ending.{Ending}
use Rattle.wp_plain.specs.declared.ending.How.TheVariants.{Found, Emptied, Budget, Words}
use Rattle.wp_plain.specs.Nodes.{Node, generated_in, states_kept}
use Rattle.wp_plain.specs.Pairs.{all_tuples, tuple_count, place_in}
use Rattle.wp_plain.specs.Ranges.{AreInRange}
use Rattle.wp_plain.specs.Run.{run, ending_of}

-- ---- plans
-- what is found is a plan
abbrev pub FoundIsPlan : Type 0
FoundIsPlan = (task : PlanningTask) (settings : Settings) (tuples : ℕ) (plan : List ℕ) →
    (ending_of task settings tuples).how ≡ Found plan → is_plan task plan ≡ true

-- the states hold the opening state, they are closed under the actions, and none of them has all goals
pub record IsClosed (task : PlanningTask) (states : List (List Bool)) : Type 0 where
  pub start : Contains states task.init
  pub closed : (state : List Bool) (a : ℕ) → Contains states state → a < length task.acts →
      applies (act_at task.acts a) state ≡ true → Contains states (result_of (act_at task.acts a) state)
  pub unmet : (state : List Bool) → Contains states state → list_all (has state) task.goals ≡ false

-- where BFWS(f5) is left with no node that waits, the kept states are closed
abbrev pub EmptiedIsClosed : Type 0
EmptiedIsClosed = (task : PlanningTask) (settings : Settings) (tuples : ℕ) → settings.search ≡ F5 →
    (ending_of task settings tuples).how ≡ Emptied → IsClosed task (states_kept (run task settings tuples).1.nodes)

-- where some states are closed there is no plan
abbrev pub ClosedHasNoPlan : Type 0
ClosedHasNoPlan = (task : PlanningTask) (states : List (List Bool)) → IsClosed task states →
    (plan : List ℕ) → is_plan task plan ≡ false

-- so there is none where BFWS(f5) is left with no node that waits
abbrev pub EmptiedHasNoPlan : Type 0
EmptiedHasNoPlan = (task : PlanningTask) (settings : Settings) (tuples : ℕ) → settings.search ≡ F5 →
    (ending_of task settings tuples).how ≡ Emptied → (plan : List ℕ) → is_plan task plan ≡ false

-- ---- bounds
-- each kept node but the root is the first with its counters at which some tuple is true; no two nodes with the same
-- counters are the first at one tuple
pub record AreFirst (width atoms : ℕ) (nodes : List Node) : Type 0 where
  pub kept : (x : Node) → Contains nodes x → x.kept ≡ true → (x.generated.number ≡ 0)
      ⊎ ((tuple : List ℕ) × Contains (tuples_in width atoms) tuple × IsNewAt (generated_in nodes) x.generated tuple)
  pub one : (x y : Node) (tuple : List ℕ) → Contains nodes x → Contains nodes y →
      x.generated.counters ≡ y.generated.counters →
      IsNewAt (generated_in nodes) x.generated tuple → IsNewAt (generated_in nodes) y.generated tuple → x ≡ y

abbrev pub KeptAreFirst : Type 0
KeptAreFirst = (task : PlanningTask) (settings : Settings) (tuples : ℕ) → IsTask task → settings.search ≡ KBfws →
    AreFirst settings.width task.atoms (run task settings tuples).1.nodes

-- some tuples are counted: each tuple of up to `width` atoms that is true at a reachable state is one of them, and they
-- have places, which differ and are below their number
pub record AreCounted (task : PlanningTask) (width tuples : ℕ) (counted : List (List ℕ)) (place : List ℕ → ℕ) : Type 0 where
  pub all : (state : List Bool) (tuple : List ℕ) → IsReachable task state → Contains (tuples_in width task.atoms) tuple →
      All (IsIn state) tuple → Contains counted tuple
  pub below : (tuple : List ℕ) → Contains counted tuple → place tuple < tuples
  pub apart : (x y : List ℕ) → Contains counted x → Contains counted y → place x ≡ place y → x ≡ y

-- all tuples of the task are counted by their places in the list of them
abbrev pub AllAreCounted : Type 0
AllAreCounted = (task : PlanningTask) (width : ℕ) →
    AreCounted task width (tuple_count width task.atoms) (tuples_in width task.atoms) (place_in (tuples_in width task.atoms))

-- k-BFWS expands at most the root, and a node for each pair of counters and each counted tuple
abbrev pub ExpansionsAreFew : Type 0
ExpansionsAreFew = (task : PlanningTask) (settings : Settings) (tuples : ℕ) (counted : List (List ℕ)) (place : List ℕ → ℕ) →
    IsTask task → settings.search ≡ KBfws → AreCounted task settings.width tuples counted place →
    (ending_of task settings tuples).counts.expanded
    ≤ 1 + (ending_of task settings tuples).counts.pairs * tuples

-- #g is at most the number of goals, and #r at most the number of atoms
abbrev pub PairsAreFew : Type 0
PairsAreFew = (task : PlanningTask) (settings : Settings) (tuples : ℕ) → IsTask task →
    (ending_of task settings tuples).counts.pairs ≤ (length task.goals + 1) * (task.atoms + 1)

-- how many tuples there are of one atom, and of one or two
abbrev pub TuplesAreCounted : Type 0
TuplesAreCounted = (atoms : ℕ) →
    (tuple_count 1 atoms ≡ atoms) × (tuple_count 2 atoms ≡ atoms + atoms * (atoms - 1) / 2)

-- ---- endings
-- the budget is spent, and a node waits that has an unmet goal
abbrev pub BudgetIsSpent : Type 0
BudgetIsSpent = (task : PlanningTask) (settings : Settings) (tuples : ℕ) → (ending_of task settings tuples).how ≡ Budget →
    ((ending_of task settings tuples).counts.expanded ≡ settings.budget)
    × ((node : Node) × Contains (run task settings tuples).1.nodes node × (node.waits ≡ true) × (0 < node.generated.counters.0))

-- so many pairs want more words than the limit
abbrev pub WordsAreExceeded : Type 0
WordsAreExceeded = (task : PlanningTask) (settings : Settings) (tuples pairs : ℕ) → (ending_of task settings tuples).how ≡ Words pairs →
    settings.words < pairs * tuples

-- a budget that k-BFWS does not spend
abbrev pub BudgetIsEnough : Type 0
BudgetIsEnough = (task : PlanningTask) (settings : Settings) (tuples : ℕ) (counted : List (List ℕ)) (place : List ℕ → ℕ) →
    IsTask task → settings.search ≡ KBfws → AreCounted task settings.width tuples counted place →
    1 + (ending_of task settings tuples).counts.pairs * tuples ≤ settings.budget →
    (ending_of task settings tuples).how ≡ Budget → ⊥

-- limits that BFWS(f5) does not reach: as many expansions as there are reachable states, and words for all pairs
abbrev pub LimitsAreEnough : Type 0
LimitsAreEnough = (task : PlanningTask) (settings : Settings) (tuples : ℕ) (states : List (List Bool)) → IsTask task → settings.search ≡ F5 →
    ((state : List Bool) → IsReachable task state → Contains states state) → length states ≤ settings.budget →
    (length task.goals + 1) * (task.atoms + 1) * tuples ≤ settings.words →
    ((plan : List ℕ) × ((ending_of task settings tuples).how ≡ Found plan)) ⊎ ((ending_of task settings tuples).how ≡ Emptied)

-- ---- ranges
-- no number of a run reaches 2^63: none of its counts, and no number of a node
pub record AreSmall (counts : Counts) (nodes : List Node) : Type 0 where
  pub expanded : counts.expanded < 2 ^ 63
  pub numbered : counts.numbered < 2 ^ 63
  pub kept : counts.kept < 2 ^ 63
  pub pruned : counts.pruned < 2 ^ 63
  pub repeats : counts.repeats < 2 ^ 63
  pub pairs : counts.pairs < 2 ^ 63
  pub numbers : (x : Node) → Contains nodes x → x.generated.number < 2 ^ 63

abbrev pub NumbersAreSmall : Type 0
NumbersAreSmall = (task : PlanningTask) (settings : Settings) (tuples : ℕ) → IsTask task → AreInRange settings →
    AreSmall (ending_of task settings tuples).counts (run task settings tuples).1.nodes

-- ---- all of it
-- so many states were kept: they are reachable and differ, and where no node waits they are closed
pub record AreStatesKept (task : PlanningTask) (ending : Ending) (states : List (List Bool)) : Type 0 where
  pub count : length states ≡ ending.counts.kept
  pub reachable : (state : List Bool) → Contains states state → IsReachable task state
  pub apart : AllPairs (λ s t. s ≢ t) states
  pub closed : ending.how ≡ Emptied → IsClosed task states

-- what an ending says of its task, where so many tuples are counted
pub record AnswersFor (task : PlanningTask) (settings : Settings) (tuples : ℕ) (ending : Ending) : Type 0 where
  -- what is found is a plan
  pub found : (plan : List ℕ) → ending.how ≡ Found plan → is_plan task plan ≡ true
  -- there is none where BFWS(f5) is left with no node that waits
  pub none : settings.search ≡ F5 → ending.how ≡ Emptied → (plan : List ℕ) → is_plan task plan ≡ false
  -- k-BFWS expands at most the root, and a node for each pair of counters and each counted tuple
  pub few : settings.search ≡ KBfws →
      ending.counts.expanded ≤ 1 + ending.counts.pairs * tuples
  pub pairs : ending.counts.pairs ≤ (length task.goals + 1) * (task.atoms + 1)
  -- a budget above that bound is not spent
  pub unspent : settings.search ≡ KBfws →
      1 + ending.counts.pairs * tuples ≤ settings.budget → ending.how ≡ Budget → ⊥
  -- a budget that ends it is spent, and words that end it are more than their limit
  pub budget : ending.how ≡ Budget → ending.counts.expanded ≡ settings.budget
  pub words : (pairs : ℕ) → ending.how ≡ Words pairs → settings.words < pairs * tuples
  -- what BFWS(f5) has kept
  pub states : settings.search ≡ F5 → (states : List (List Bool)) × AreStatesKept task ending states
  -- BFWS(f5) is decided by a budget for all reachable states and words for all pairs
  pub decided : (states : List (List Bool)) → settings.search ≡ F5 →
      ((state : List Bool) → IsReachable task state → Contains states state) → length states ≤ settings.budget →
      (length task.goals + 1) * (task.atoms + 1) * tuples ≤ settings.words →
      ((plan : List ℕ) × (ending.how ≡ Found plan)) ⊎ (ending.how ≡ Emptied)

-- so each ending answers, where the tuples are counted
abbrev pub EndingsAnswer : Type 0
EndingsAnswer = (task : PlanningTask) (settings : Settings) (tuples : ℕ) (counted : List (List ℕ)) (place : List ℕ → ℕ) →
    IsTask task → AreCounted task settings.width tuples counted place → AnswersFor task settings tuples (ending_of task settings tuples)

-- and so it does where all tuples of the task are counted
abbrev pub EndingsOfAllAnswer : Type 0
EndingsOfAllAnswer = (task : PlanningTask) (settings : Settings) → IsTask task →
    AnswersFor task settings (all_tuples task settings) (ending_of task settings (all_tuples task settings))
