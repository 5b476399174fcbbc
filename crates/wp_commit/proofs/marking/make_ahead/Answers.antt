use Rattle.std.proofs.Common.{sym, ap, subst}
use Rattle.wp_task.specs.Task.{PlanningTask}
use Rattle.wp_ahead.specs.Jobs.{CanWork, IsWorked}
use Rattle.wp_plain.specs.Steps.{Asked}
use Rattle.wp_commit.proofs.marking.make_ahead.Goals as goal

pub work-requires-clause-job : goal.work-requires-clause-job
work-requires-clause-job g c κs bounds = subst (λ (t : PlanningTask). CanWork t c.args.job.now) (sym (ap (λ (a : Asked). a.task) c.run.view_is)) c.requires

pub returns : goal.returns
returns g c = subst (λ (t : PlanningTask). IsWorked t c.args.job.now c.work.new.job) (ap (λ (a : Asked). a.task) c.run.view_is) c.work.ensures
