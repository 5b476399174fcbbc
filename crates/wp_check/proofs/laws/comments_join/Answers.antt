use Rattle.wp_check.proofs.PassedPlans.{comments_join}
use Rattle.wp_check.proofs.laws.comments_join.Goals as goal

pub returns : goal.returns
returns c = comments_join
