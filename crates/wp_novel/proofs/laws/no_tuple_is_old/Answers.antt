use Rattle.wp_novel.proofs.OldTupleLemmas.{no_tuple_old}
use Rattle.wp_novel.proofs.laws.no_tuple_is_old.Goals as goal

pub returns : goal.returns
returns c = no_tuple_old
