-- The search: BFWS(f5) and k-BFWS, one expansion after another, with its endings and counts.
-- Ours: the goal is tested where a node comes first, before the budget; the limit of words is asked of all pairs of an
-- expansion before its children are numbered, and an expansion that exceeds it is not counted.
use Rattle.std.specs.Prelude.{◌≡◌, ◌==◌, ◌+◌, ◌-◌, ℕ, zero, suc, Bool, true, false, List, [], ◌∷◌, ◌++◌, length, map, count_by, slice_set, Option, Some, None}
use Rattle.std.specs.List.{sum_by}
use Rattle.wp_task.specs.Task.{PlanningTask}
use Rattle.wp_task.specs.Novelty.{Generated}
use Rattle.wp_watch.specs.declared.event.Event.{Event}
use Rattle.wp_plain.specs.declared.settings.Settings.{Settings}
use Rattle.wp_plain.specs.declared.ending.Counts.{Counts}
use Rattle.wp_plain.specs.declared.ending.Ending.{Ending}
use Rattle.wp_plain.specs.declared.ending.How.{How}
use Rattle.wp_plain.specs.declared.ending.How.TheVariants.{Found, Emptied, Budget, Words}
use Rattle.wp_plain.specs.Nodes.{Node, Path, Successor, left, path_at, extended, generated_in, states_kept, first_waiting}
use Rattle.wp_plain.specs.Pairs.{pairs_in, exceeds}
use Rattle.wp_plain.specs.Expansion.{successors_of, unseen, path_counters, fresh_of, node_of, root_node, borns_of, event_of}

-- a moment of the search: all numbered nodes by number, the paths to them, and the events so far
pub record Moment : Type 0 where
  pub nodes : List Node
  pub paths : List Path
  pub events : List Event

-- what a step leads to
pub data Outcome : Type 0 where
  Goes : (moment : Moment) → Outcome
  Ends : (how : How) → Outcome

-- the successors of a node that are no repeats, and how many are
abbrev pub fresh_at : PlanningTask → Moment → Node → List Successor
fresh_at task m node = unseen (λ x. x.state) (states_kept m.nodes) (successors_of task.acts node.generated.state)

abbrev pub repeats_at : PlanningTask → Moment → Node → ℕ
repeats_at task m node = length (successors_of task.acts node.generated.state) - length (fresh_at task m node)

-- these as they are generated, with counters by their paths; all nodes with them; and them as nodes among all
abbrev pub children_by : (List (List Bool) → ℕ × ℕ) → PlanningTask → Moment → Node → List Generated
children_by counters task m node =
    fresh_of counters (path_at m.paths node.generated.number).states (length m.nodes) (fresh_at task m node)

abbrev pub all_by : (List (List Bool) → ℕ × ℕ) → PlanningTask → Moment → Node → List Generated
all_by counters task m node = generated_in m.nodes ++ children_by counters task m node

abbrev pub nodes_by : (List (List Bool) → ℕ × ℕ) → PlanningTask → Settings → Moment → Node → List Node
nodes_by counters task settings m node = map (node_of settings (all_by counters task m node)) (children_by counters task m node)

-- the moment after an expansion: the node waits no longer, its fresh children are nodes, and the event is told
abbrev pub expanded : Moment → Node → ℕ → List Successor → List Node → Moment
expanded m node repeats fresh nodes = record {
  nodes = slice_set m.nodes node.generated.number (left node) ++ nodes;
  paths = m.paths ++ map (extended (path_at m.paths node.generated.number)) fresh;
  events = m.events ++ event_of node repeats (borns_of fresh nodes) ∷ [];
}

-- a node is expanded, unless the pairs of all nodes with its children want more words than the limit; `tuples` is the
-- number of the tuples that are counted, which are words for each pair
abbrev pub expand_by : (List (List Bool) → ℕ × ℕ) → PlanningTask → Settings → ℕ → Moment → Node → Outcome
expand_by counters task settings tuples m node =
    elim (exceeds settings.words (length (pairs_in (all_by counters task m node))) tuples) [
      | true ↦ Ends (Words (length (pairs_in (all_by counters task m node))))
      | false ↦ Goes (expanded m node (repeats_at task m node) (fresh_at task m node) (nodes_by counters task settings m node))
    ]

-- all of that with the counters (#g, #r)
abbrev pub children_at : PlanningTask → Moment → Node → List Generated
children_at task m node = children_by (path_counters task) task m node

abbrev pub all_at : PlanningTask → Moment → Node → List Generated
all_at task m node = all_by (path_counters task) task m node

abbrev pub nodes_at : PlanningTask → Settings → Moment → Node → List Node
nodes_at task settings m node = nodes_by (path_counters task) task settings m node

abbrev pub expand : PlanningTask → Settings → ℕ → Moment → Node → Outcome
expand task settings tuples m node = expand_by (path_counters task) task settings tuples m node

-- the goal test, then the budget, then the expansion
abbrev pub look_at : PlanningTask → Settings → ℕ → Moment → Option Node → Outcome
look_at task settings tuples m None = Ends Emptied
look_at task settings tuples m (Some node) = elim (node.generated.counters.0 == 0) [
  | true ↦ Ends (Found (path_at m.paths node.generated.number).acts)
  | false ↦ elim (length m.events == settings.budget) [
    | true ↦ Ends Budget
    | false ↦ expand task settings tuples m node
  ]
]

abbrev pub step : PlanningTask → Settings → ℕ → Moment → Outcome
step task settings tuples m = look_at task settings tuples m (first_waiting m.nodes)

-- at most so many steps; a run within its budget ends by one of them
abbrev pub run_from : PlanningTask → Settings → ℕ → ℕ → Moment → How × Moment
run_from task settings tuples zero m = (Budget, m)
run_from task settings tuples (suc steps) m = elim (step task settings tuples m) [
  | Goes next ↦ run_from task settings tuples steps next
  | Ends how ↦ (how, m)
]

-- the opening moment has the root alone
abbrev pub opening : PlanningTask → Settings → Moment
opening task settings = record {
  nodes = root_node task settings ∷ [];
  paths = record { acts = []; states = task.init ∷ [] } ∷ [];
  events = [];
}

-- the run: its ending, and the moment at which it ends
abbrev pub run : PlanningTask → Settings → ℕ → How × Moment
run task settings tuples = elim (exceeds settings.words 1 tuples) [
  | true ↦ (Words 1, opening task settings)
  | false ↦ run_from task settings tuples (settings.budget + 1) (opening task settings)
]

abbrev pub counts_of : Moment → Counts
counts_of m = record {
  expanded = length m.events;
  numbered = length m.nodes;
  kept = count_by (λ n. n.kept) m.nodes;
  pruned = length m.nodes - count_by (λ n. n.kept) m.nodes;
  repeats = sum_by (λ e. e.repeats) m.events;
  pairs = length (pairs_in (generated_in m.nodes));
}

abbrev pub ending_from : How × Moment → Ending
ending_from end = record { how = end.0; counts = counts_of end.1 }

abbrev pub ending_of : PlanningTask → Settings → ℕ → Ending
ending_of task settings tuples = ending_from (run task settings tuples)

-- the number of workers, and of nodes whose children are evaluated ahead, play no part
abbrev pub WorkersPlayNoPart : Type 0
WorkersPlayNoPart = (task : PlanningTask) (settings : Settings) (tuples workers ahead : ℕ) →
    run task (record settings { workers = workers; ahead = ahead }) tuples ≡ run task settings tuples

-- a step and a run, case by case
pub record IsTaken (task : PlanningTask) (settings : Settings) (tuples : ℕ) : Type 0 where
  pub found : (m : Moment) (node : Node) → node.generated.counters.0 ≡ 0 →
      look_at task settings tuples m (Some node) ≡ Ends (Found (path_at m.paths node.generated.number).acts)
  pub spent : (m : Moment) (node : Node) → ¬ (node.generated.counters.0 ≡ 0) → length m.events ≡ settings.budget →
      look_at task settings tuples m (Some node) ≡ Ends Budget
  pub spare : (m : Moment) (node : Node) → ¬ (node.generated.counters.0 ≡ 0) → ¬ (length m.events ≡ settings.budget) →
      look_at task settings tuples m (Some node) ≡ expand task settings tuples m node
  pub many : (m : Moment) (node : Node) → exceeds settings.words (length (pairs_in (all_at task m node))) tuples ≡ true →
      expand task settings tuples m node ≡ Ends (Words (length (pairs_in (all_at task m node))))
  pub few : (m : Moment) (node : Node) → exceeds settings.words (length (pairs_in (all_at task m node))) tuples ≡ false →
      expand task settings tuples m node
      ≡ Goes (expanded m node (repeats_at task m node) (fresh_at task m node) (nodes_at task settings m node))
  pub goes : (steps : ℕ) (m next : Moment) → step task settings tuples m ≡ Goes next →
      run_from task settings tuples (suc steps) m ≡ run_from task settings tuples steps next
  pub ends : (steps : ℕ) (m : Moment) (how : How) → step task settings tuples m ≡ Ends how →
      run_from task settings tuples (suc steps) m ≡ (how, m)
  pub stops : exceeds settings.words 1 tuples ≡ true → run task settings tuples ≡ (Words 1, opening task settings)
  pub begins : exceeds settings.words 1 tuples ≡ false →
      run task settings tuples ≡ run_from task settings tuples (settings.budget + 1) (opening task settings)

abbrev pub StepsAreTaken : Type 0
StepsAreTaken = (task : PlanningTask) (settings : Settings) (tuples : ℕ) → IsTaken task settings tuples
