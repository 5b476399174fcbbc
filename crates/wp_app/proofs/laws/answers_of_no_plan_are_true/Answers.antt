use Rattle.wp_app.proofs.StatusLaws.{no_plan_answers}
use Rattle.wp_app.proofs.laws.answers_of_no_plan_are_true.Goals as goal

pub returns : goal.returns
returns c = no_plan_answers c.goals_out_of_reach_have_no_plan.ensures c.emptied_searches_have_no_plan.ensures
