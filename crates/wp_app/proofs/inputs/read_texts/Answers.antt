use Rattle.std.proofs.lemmas.Result.{err_from_is_err_and}
use Rattle.wp_app.specs.Table.{texts_step}
use Rattle.wp_app.proofs.StepLemmas.{stops, goes_on, goes_on_unread}
use Rattle.wp_app.proofs.inputs.read_texts.Goals as goal

pub returns-in_err-domain_text-clause-follows : goal.returns-in_err-domain_text-clause-follows
unfolding texts_step
returns-in_err-domain_text-clause-follows g c =
    let p = err_from_is_err_and c.from_residual.result c.from_residual.ensures.1 in
    rw (p.1, p.2) (stops _ c.in_err-domain_text.ensures.follows)

pub returns-in_err-problem_text-clause-follows : goal.returns-in_err-problem_text-clause-follows
unfolding texts_step
returns-in_err-problem_text-clause-follows g c =
    let p = err_from_is_err_and c.from_residual-in_err-problem_text.result c.from_residual-in_err-problem_text.ensures.1 in
    rw (p.1, p.2)
    (goes_on _ c.in_ok-domain_text.ensures.follows c.in_ok-domain_text.ensures.same c.in_ok-domain_text.ensures.later
    (goes_on_unread _ c.in_ok-domain_record.ensures
    (stops _ c.in_err-problem_text.ensures.follows)))
