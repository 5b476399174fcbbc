use Rattle.wp_app.proofs.AnswerLaws.{bounded}
use Rattle.wp_app.proofs.laws.searches_are_bounded.Goals as goal

pub returns : goal.returns
returns c = bounded c.endings_answer.ensures.all
