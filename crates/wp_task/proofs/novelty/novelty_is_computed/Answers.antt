use Rattle.wp_task.proofs.NoveltyLemmas.{novelty_is_computed}
use Rattle.wp_task.proofs.novelty.novelty_is_computed.Goals as goal

pub returns : goal.returns
returns c = novelty_is_computed
