use Rattle.wp_queue.proofs.SetLemmas.{one_list_for_a_set}
use Rattle.wp_queue.proofs.laws.one_list_for_a_set.Goals as goal

pub returns : goal.returns
returns c = one_list_for_a_set
