use Rattle.wp_app.proofs.MeaningLaws.{no_plan}
use Rattle.wp_app.proofs.meanings.no_plan_is_true.Goals as goal

pub returns : goal.returns
returns c =
    no_plan c.endings_have_their_statuses.ensures c.unreached_goals_are_answered.ensures c.answers_are_of_their_commands.ensures
    c.liftings_are_formed.ensures c.emptied_has_no_plan.ensures.none c.plans_are_valid.ensures c.valid_plans_are_numbered.ensures c.unreached_goals_have_no_plan.ensures
