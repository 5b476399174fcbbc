use Rattle.std.proofs.Common.{ap, ◌∙◌}
use Rattle.wp_task.specs.Task.{act_at, result_of}
use Rattle.wp_task.proofs.task.Task.apply.Goals as goal

pub returns : goal.returns
returns c = c.advance.ensures ∙ ap (result_of (act_at c.args.self.now.acts c.args.a)) c.in_ok-next.ensures
