use Rattle.wp_plain.proofs.FirstLemmas.{first_is_least}
use Rattle.wp_plain.proofs.first.first_is_least.Goals as goal

pub returns : goal.returns
returns c = first_is_least
