use Rattle.wp_relax.proofs.Reach.{relaxed_plans_reach}
use Rattle.wp_relax.proofs.laws.relaxed_plans_reach.Goals as goal

pub returns : goal.returns
returns c = relaxed_plans_reach
