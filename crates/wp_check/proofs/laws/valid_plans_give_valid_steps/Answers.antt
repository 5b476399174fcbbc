use Rattle.wp_check.proofs.NamingSteps.{valid_plans}
use Rattle.wp_check.proofs.laws.valid_plans_give_valid_steps.Goals as goal

pub returns : goal.returns
returns c = valid_plans c.valid_steps_name_valid_plans.ensures
