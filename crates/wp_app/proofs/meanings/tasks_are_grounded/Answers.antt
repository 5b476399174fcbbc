use Rattle.wp_app.proofs.CauseLaws.{tasks}
use Rattle.wp_app.proofs.meanings.tasks_are_grounded.Goals as goal

pub returns : goal.returns
returns c = tasks
