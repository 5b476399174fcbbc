use Rattle.wp_nodes.proofs.PlanLemmas.{plans_follow_links}
use Rattle.wp_nodes.proofs.laws.plans_follow_links.Goals as goal

pub returns : goal.returns
returns c = plans_follow_links
