use Rattle.wp_mutex.proofs.Reached.{reachable_pairs}
use Rattle.wp_mutex.proofs.laws.reachable_pairs_are_possible.Goals as goal

pub returns : goal.returns
returns c = reachable_pairs
