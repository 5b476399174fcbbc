use Rattle.wp_gen.proofs.ReadTasks.{tasks_are_read}
use Rattle.wp_gen.proofs.laws.depot_tasks_are_read.Goals as goal

pub returns : goal.returns
returns c = tasks_are_read c.written_lists_are_read.ensures
