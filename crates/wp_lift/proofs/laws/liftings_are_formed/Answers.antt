use Rattle.wp_lift.proofs.FormedLemmas.{made-formed}
use Rattle.wp_lift.proofs.laws.liftings_are_formed.Goals as goal

pub returns : goal.returns
returns c = made-formed
