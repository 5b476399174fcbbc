use Rattle.wp_cert.proofs.ReachableLemmas.{closed_are_reachable, none_are_many}
use Rattle.wp_cert.proofs.laws.closed_states_are_reachable.Goals as goal

pub returns : goal.returns
returns c = record { all = closed_are_reachable; many = none_are_many }
