use Rattle.wp_mutex.proofs.LeastClosed.{least_are_closed}
use Rattle.wp_mutex.proofs.laws.least_are_closed.Goals as goal

pub returns : goal.returns
returns c = least_are_closed
