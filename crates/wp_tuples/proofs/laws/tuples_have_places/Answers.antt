use Rattle.wp_tuples.proofs.PlacingLemmas.{tuples_placed}
use Rattle.wp_tuples.proofs.laws.tuples_have_places.Goals as goal

pub returns : goal.returns
returns c = tuples_placed
