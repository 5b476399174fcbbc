use Rattle.std.proofs.lemmas.Result.{err_from_is_err_and}
use Rattle.wp_app.specs.Output.{whole}
use Rattle.wp_app.specs.Table.{answer_to_plan}
use Rattle.wp_app.proofs.PlanLemmas.{after_texts, shows}
use Rattle.wp_app.proofs.StepLemmas.{stops, goes_on_to}
use Rattle.wp_app.proofs.plan.plan_files.Goals as goal

pub returns-in_err-texts-clause-follows : goal.returns-in_err-texts-clause-follows
unfolding answer_to_plan
returns-in_err-texts-clause-follows g c list after =
    let p = err_from_is_err_and c.from_residual.result c.from_residual.ensures.1 in
    rw (p.1, p.2) (stops _ c.in_err-texts.ensures.follows)

pub returns-clause-follows : goal.returns-clause-follows
unfolding answer_to_plan
returns-clause-follows g c list after =
    goes_on_to (after_texts (whole c.args.closed) c.args.settings.now list) c.in_ok-texts.ensures.follows
    (shows _ (whole c.args.closed) c.args.settings.now list _ c.planned.result c.whole-shown.ensures (c.planned.ensures.meets list after))
