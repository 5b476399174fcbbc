use Rattle.wp_plain.proofs.CounterPairs.{pairs_are_listed}
use Rattle.wp_plain.proofs.pairs.pairs_are_listed.Goals as goal

pub returns : goal.returns
returns c = pairs_are_listed
