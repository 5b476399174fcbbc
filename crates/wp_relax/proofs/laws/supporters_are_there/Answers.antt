use Rattle.wp_relax.proofs.SupporterExists.{supporters_are_there}
use Rattle.wp_relax.proofs.laws.supporters_are_there.Goals as goal

pub returns : goal.returns
returns c = supporters_are_there
