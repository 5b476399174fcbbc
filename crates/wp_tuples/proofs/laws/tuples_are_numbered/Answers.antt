use Rattle.wp_tuples.proofs.PlaceLemmas.{are_numbered}
use Rattle.wp_tuples.proofs.laws.tuples_are_numbered.Goals as goal

pub returns : goal.returns
returns c = are_numbered
