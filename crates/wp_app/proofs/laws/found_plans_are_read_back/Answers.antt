use Rattle.wp_app.proofs.AnswerLaws.{found_read_back}
use Rattle.wp_app.proofs.laws.found_plans_are_read_back.Goals as goal

pub returns : goal.returns
returns c = found_read_back c.found_is_plan.ensures c.liftings_are_formed.ensures c.plans_are_valid.ensures c.plans_of_texts_are_read_back.ensures c.comments_join.ensures
