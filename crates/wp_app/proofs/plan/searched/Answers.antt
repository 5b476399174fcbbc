use Rattle.wp_app.proofs.PlanLemmas.{found_below}
use Rattle.wp_app.proofs.plan.searched.Goals as goal

pub ending_reply-requires-clause-plan : goal.ending_reply-requires-clause-plan
ending_reply-requires-clause-plan g c =
    found_below c.found_is_plan.ensures c.args.grounded.now.task c.args.settings.now c.in_ok-ending.ending c.in_ok-ending.ensures.ending
