use Rattle.wp_app.proofs.MeaningLaws.{unreached_answered}
use Rattle.wp_app.proofs.meanings.unreached_goals_are_answered.Goals as goal

pub returns : goal.returns
returns c = unreached_answered
