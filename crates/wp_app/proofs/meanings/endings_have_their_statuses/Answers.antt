use Rattle.wp_app.proofs.MeaningLaws.{endings_have}
use Rattle.wp_app.proofs.meanings.endings_have_their_statuses.Goals as goal

pub returns : goal.returns
returns c = endings_have
