use Rattle.wp_app.proofs.GeneratedLaws.{made_not_refused}
use Rattle.wp_app.proofs.generated.made_tasks_are_not_refused.Goals as goal

pub returns : goal.returns
returns c = made_not_refused c.depot_tasks_are_read.ensures
