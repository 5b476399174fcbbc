use Rattle.std.proofs.Common.{◌≡◌, map, take}
use Rattle.wp_task.specs.Task.{act_at, result_of}
use Rattle.wp_relax.specs.Workspace.{room_for}
use Rattle.wp_count.specs.Broods.{child_of}
use Rattle.wp_count.proofs.counters.children_in.Given as goal

abbrev pub invariant-loop-a : goal.invariant-loop-a
invariant-loop-a l = record {
  room : l.work ≡ room_for l.task;
  children : l.children.items ≡ map (λ a. child_of l.task l.mark l.track a (result_of (act_at l.task.acts a) l.state)) (take l.a-index l.a-items);
}
