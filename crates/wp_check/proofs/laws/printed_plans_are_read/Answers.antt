use Rattle.wp_check.proofs.PassedPlans.{plans_are_read}
use Rattle.wp_check.proofs.laws.printed_plans_are_read.Goals as goal

pub returns : goal.returns
returns c = plans_are_read c.lists_are_read.ensures
