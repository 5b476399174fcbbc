use Rattle.wp_lift.proofs.NamedLemmas.{liftings_are_named}
use Rattle.wp_lift.proofs.laws.liftings_are_named.Goals as goal

pub returns : goal.returns
returns c = liftings_are_named
