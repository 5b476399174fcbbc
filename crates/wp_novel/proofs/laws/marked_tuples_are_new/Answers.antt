use Rattle.wp_novel.proofs.MarkedTupleLemmas.{marked_tuples_new}
use Rattle.wp_novel.proofs.laws.marked_tuples_are_new.Goals as goal

pub returns : goal.returns
returns c = marked_tuples_new
