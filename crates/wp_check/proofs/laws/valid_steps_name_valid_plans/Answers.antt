use Rattle.wp_check.proofs.ValidLemmas.{valid_steps}
use Rattle.wp_check.proofs.laws.valid_steps_name_valid_plans.Goals as goal

pub returns : goal.returns
returns c = valid_steps
