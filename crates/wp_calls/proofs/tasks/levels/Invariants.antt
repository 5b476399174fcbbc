use Rattle.std.proofs.Common.{◌*◌}
use Rattle.std.specs.List.{All}
use Rattle.wp_task.specs.Task.{IsAct}
use Rattle.wp_calls.proofs.tasks.levels.Given as goal

abbrev pub invariant-loop-i : goal.invariant-loop-i
invariant-loop-i l = All (IsAct (2 * l.n)) l.acts.items
