use Rattle.std.specs.List.{All}
use Rattle.wp_task.specs.Task.{IsAct}
use Rattle.wp_fixtures.proofs.tasks.acts_of.Given as goal

abbrev pub invariant-loop-row : goal.invariant-loop-row
invariant-loop-row l = All (IsAct l.size) l.acts.items
