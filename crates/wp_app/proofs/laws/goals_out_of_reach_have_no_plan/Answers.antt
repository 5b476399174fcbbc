use Rattle.wp_app.proofs.AnswerLaws.{unreached_no_plan}
use Rattle.wp_app.proofs.laws.goals_out_of_reach_have_no_plan.Goals as goal

pub returns : goal.returns
returns c = unreached_no_plan c.liftings_are_formed.ensures c.unreached_goals_have_no_plan.ensures
