use Rattle.wp_mutex.proofs.LeastClosed.{pairs_settle}
use Rattle.wp_mutex.proofs.laws.pairs_settle.Goals as goal

pub returns : goal.returns
returns c = pairs_settle
