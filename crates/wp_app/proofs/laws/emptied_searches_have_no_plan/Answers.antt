use Rattle.wp_app.proofs.AnswerLaws.{emptied_no_plan}
use Rattle.wp_app.proofs.laws.emptied_searches_have_no_plan.Goals as goal

pub returns : goal.returns
returns c = emptied_no_plan c.emptied_has_no_plan.ensures.none c.liftings_are_formed.ensures c.plans_are_valid.ensures c.valid_plans_are_numbered.ensures
