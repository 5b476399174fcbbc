use Rattle.std.proofs.Common.{◌≡◌, ◌<◌, ◌++◌, List, length, reverse}
use Rattle.wp_task.specs.Task.{PlanningTask}
use Rattle.wp_plain.specs.Nodes.{Path, path_at}
use Rattle.wp_plain.specs.Explored.{lists_of, AreReached}
use Rattle.wp_plain.proofs.paths.plan_to.Given as goal

abbrev pub invariant-loop-link : goal.invariant-loop-link
invariant-loop-link l = record {
  within : l.at < length l.explored.nodes.items;
  left : (task : PlanningTask) (paths : List Path) → AreReached task paths (lists_of l.explored) → (path_at paths l.at).acts ++ reverse l.acts.items ≡ (path_at paths l.place).acts;
}

abbrev pub decreases-loop-link : goal.decreases-loop-link
decreases-loop-link l = l.at
