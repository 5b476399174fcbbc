use Rattle.wp_novel.proofs.OldTupleLemmas.{shared_tuples_marked}
use Rattle.wp_novel.proofs.laws.shared_tuples_are_marked.Goals as goal

pub returns : goal.returns
returns c = shared_tuples_marked
