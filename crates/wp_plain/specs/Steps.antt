-- How a search goes from moment to moment of a run, whatever it keeps: a search is known here by the moments that it
-- stands for. A moment that it holds is one that it stands for but for what waits.
use Rattle.std.specs.Prelude.{◌≡◌, ◌==◌, ◌+◌, ◌*◌, ◌≤◌, ℕ, Bool, true, false, List, [], ◌∷◌, length, Option, Some, None, MatchOption}
use Rattle.wp_task.specs.Task.{PlanningTask}
use Rattle.wp_watch.specs.declared.event.Event.{Event}
use Rattle.wp_watch.specs.declared.watch.WatchKind.{WatchKind}
use Rattle.wp_watch.specs.Sums.{born_in, repeats_in}
use Rattle.wp_watch.specs.Places.{Place, AreAfter}
use Rattle.wp_plain.specs.declared.settings.Settings.{Settings}
use Rattle.wp_plain.specs.declared.ending.How.{How}
use Rattle.wp_plain.specs.Nodes.{Node, first_waiting}
use Rattle.wp_plain.specs.Pairs.{pairs_in, exceeds}
use Rattle.wp_plain.specs.Expansion.{borns_of, event_of}
use Rattle.wp_plain.specs.Run.{Moment, Outcome, fresh_at, repeats_at, all_at, nodes_at, run_from, run}
use Rattle.wp_plain.specs.Run.Outcome.{Goes, Ends}
use Rattle.wp_plain.specs.Numbers.{next_of}

-- what a run is asked for: `tuples` is the number of the tuples that are counted
pub record Asked : Type 0 where
  pub task : PlanningTask
  pub settings : Settings
  pub tuples : ℕ

-- its run
abbrev pub end_of : Asked → How × Moment
end_of asked = run asked.task asked.settings asked.tuples

-- ---- moments
-- an expansion has at most 2^20 children
pub record IsBounded (settings : Settings) (m : Moment) : Type 0 where
  pub few : length m.events ≤ settings.budget
  pub nodes : length m.nodes ≤ 1 + 1048576 * length m.events
  pub repeats : repeats_in m.events ≤ 1048576 * length m.events
  pub born : born_in m.events + 1 ≡ length m.nodes

-- the budget is not spent there
abbrev pub IsSpare : Settings → Moment → Type 0
IsSpare settings m = ¬ (length m.events ≡ settings.budget)

-- the node can be expanded there: its pairs are within the limit of words
pub record CanExpand (asked : Asked) (m : Moment) (node : Node) : Type 0 where
  pub bounded : IsBounded asked.settings m
  pub later : IsBounded asked.settings (next_of asked.task asked.settings m node)
  pub few : exceeds asked.settings.words (length (pairs_in (all_at asked.task m node))) asked.tuples ≡ false

-- what is told of its expansion
abbrev pub event_for : Asked → Moment → Node → Event
event_for asked m node =
    event_of node (repeats_at asked.task m node) (borns_of (fresh_at asked.task m node) (nodes_at asked.task asked.settings m node))

-- there is an event where one was asked for
abbrev pub IsEventFor : Asked → Moment → Node → Bool → Option Event → Type 0
IsEventFor asked m node wanted told = MatchOption told (wanted ≡ false) (λ event. event ≡ event_for asked m node)

-- ---- watchers
-- the places are those of some watchers after these events
abbrev pub AreAfterFor : List Event → List Place → Type 0
AreAfterFor events places = (list : List (WatchKind × Option ℕ)) × AreAfter list events places

-- watchers whose places were after the events of a moment are after those of a later one
abbrev pub AreTold : List Event → List Event → List Place → List Place → Type 0
AreTold events more places later = (list : List (WatchKind × Option ℕ)) → AreAfter list events places → AreAfter list more later

-- ---- what a step may ask
-- the search stands for a moment, whose events were told
abbrev pub StandsAtSome : (Moment → Type 0) → Settings → List Place → Type 0
StandsAtSome stands settings places = (m : Moment) × stands m × IsBounded settings m × AreAfterFor m.events places

-- a node was taken at a moment, whose events were told
abbrev pub IsTakenAtSome : (Moment → Node → Type 0) → Settings → List Place → Type 0
IsTakenAtSome taken settings places =
    (m : Moment) × (node : Node) × taken m node × IsBounded settings m × AreAfterFor m.events places

-- the first node was taken, if one waits
abbrev pub HasTakenFirst : (Moment → Type 0) → (Moment → Node → ℕ → Type 0) → Moment → Option ℕ → Type 0
HasTakenFirst holds taken m number = MatchOption number ((first_waiting m.nodes ≡ None) × holds m)
    (λ number. (node : Node) × (first_waiting m.nodes ≡ Some node) × taken m node number)

-- ---- steps
-- a step from a moment: it goes on to a moment that the search then stands for, and is told; or it ends and the moment stays
abbrev pub Steps : (Moment → Type 0) → (Moment → Type 0) → Settings → Outcome → Moment → List Place → List Place → Option How → Type 0
Steps stands holds settings outcome m places later how = MatchOption how
    ((next : Moment) × stands next × IsBounded settings next × (outcome ≡ Goes next) × AreTold m.events next.events places later)
    (λ end. holds m × (outcome ≡ Ends end) × (later ≡ places))

-- the same, from each moment that the search stood for before
abbrev pub StepsFrom : (Moment → Type 0) → (Moment → Type 0) → (Moment → Type 0) → Settings → (Moment → Outcome) → List Place → List Place → Option How → Type 0
StepsFrom stood stands holds settings outcome places later how =
    (m : Moment) → stood m → IsBounded settings m → Steps stands holds settings (outcome m) m places later how

-- the same, where a node was taken
abbrev pub StepsAt : (Moment → Node → Type 0) → (Moment → Type 0) → (Moment → Type 0) → Settings → (Moment → Node → Outcome) → List Place → List Place → Option How → Type 0
StepsAt taken stands holds settings outcome places later how =
    (m : Moment) (node : Node) → taken m node → IsBounded settings m → Steps stands holds settings (outcome m node) m places later how

-- all the steps from each moment that the search stood for before
abbrev pub RunsFrom : (Moment → Type 0) → (Moment → Type 0) → Asked → List Place → List Place → How → Type 0
RunsFrom stood holds asked places later how = (m : Moment) → stood m → IsBounded asked.settings m →
    (end : Moment) × holds end × IsBounded asked.settings end
    × (run_from asked.task asked.settings asked.tuples (asked.settings.budget + 1) m ≡ (how, end))
    × AreTold m.events end.events places later
