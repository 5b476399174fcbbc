use Rattle.wp_relax.proofs.LeastWanted.{wanted_are_least}
use Rattle.wp_relax.proofs.laws.wanted_are_least.Goals as goal

pub returns : goal.returns
returns c = wanted_are_least
