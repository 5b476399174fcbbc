use Rattle.wp_relax.proofs.SupporterLemmas.{supporters_need_less}
use Rattle.wp_relax.proofs.laws.supporters_need_less.Goals as goal

pub returns : goal.returns
returns c = supporters_need_less
