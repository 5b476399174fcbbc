use Rattle.wp_app.proofs.AnswerLaws.{not_spent, not_reached}
use Rattle.wp_app.proofs.laws.large_limits_are_not_reached.Goals as goal

pub returns-clause-budget : goal.returns-clause-budget
returns-clause-budget c = not_spent c.endings_answer.ensures.all

pub returns-clause-limits : goal.returns-clause-limits
returns-clause-limits c = not_reached c.endings_answer.ensures.all
