-- Numbers of nodes: a node's number is its place.
use Rattle.std.specs.Prelude.{◌≡◌, ◌+◌, ◌<◌, ℕ, List, [], ◌∷◌, ◌++◌, length, slice_index_or, Contains}
use Rattle.wp_task.specs.Task.{PlanningTask}
use Rattle.wp_plain.specs.declared.settings.Settings.{Settings}
use Rattle.wp_plain.specs.Nodes.{Node, generated_in, states_kept}
use Rattle.wp_plain.specs.Run.{Moment, fresh_at, repeats_at, all_at, nodes_at, expanded}

-- the numbers of the nodes are n, n + 1, and so on
abbrev pub CountUp : ℕ → List Node → Type 0
CountUp n [] = Unit {0}
CountUp n (x ∷ xs) = (x.generated.number ≡ n) × CountUp (n + 1) xs

-- each node has its place as its number, and a path
pub record IsNumbered (m : Moment) : Type 0 where
  pub count : length m.paths ≡ length m.nodes
  pub numbers : CountUp 0 m.nodes

-- ---- an expansion of a numbered node
abbrev pub next_of : PlanningTask → Settings → Moment → Node → Moment
next_of task settings m node = expanded m node (repeats_at task m node) (fresh_at task m node) (nodes_at task settings m node)

-- the node has its place, and after its expansion the nodes are numbered again: those before it as they were generated and
-- kept, and one for each child that is no repeat behind them
pub record StaysNumbered (task : PlanningTask) (settings : Settings) (m : Moment) (node : Node) : Type 0 where
  pub place : (none : Node) → slice_index_or m.nodes node.generated.number none ≡ node
  pub numbered : IsNumbered (next_of task settings m node)
  pub generated : generated_in (next_of task settings m node).nodes ≡ all_at task m node
  pub kept : states_kept (next_of task settings m node).nodes ≡ states_kept m.nodes ++ states_kept (nodes_at task settings m node)
  pub children : length (nodes_at task settings m node) ≡ length (fresh_at task m node)

-- a number names one node, and is below their number; an expansion leaves it so
pub record NodesAreNumbered : Type 0 where
  pub below : (m : Moment) (x : Node) → IsNumbered m → Contains m.nodes x → x.generated.number < length m.nodes
  pub one : (m : Moment) (x y : Node) → IsNumbered m → Contains m.nodes x → Contains m.nodes y →
      x.generated.number ≡ y.generated.number → x ≡ y
  pub stays : (task : PlanningTask) (settings : Settings) (m : Moment) (node : Node) → IsNumbered m → Contains m.nodes node →
      StaysNumbered task settings m node
