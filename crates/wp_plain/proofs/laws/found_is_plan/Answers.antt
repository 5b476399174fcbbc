use Rattle.wp_plain.proofs.FoundLemmas.{found_is_plan}
use Rattle.wp_plain.proofs.laws.found_is_plan.Goals as goal

pub returns : goal.returns
returns c = found_is_plan
