use Rattle.std.proofs.lemmas.Result.{err_from_is_err_and}
use Rattle.wp_app.specs.Table.{answer_to_audit}
use Rattle.wp_app.proofs.StepLemmas.{stops, goes_on, goes_on_to}
use Rattle.wp_app.proofs.audit.audit_files.Goals as goal

pub returns-in_err-texts-clause-follows : goal.returns-in_err-texts-clause-follows
unfolding answer_to_audit
returns-in_err-texts-clause-follows g c =
    let p = err_from_is_err_and c.from_residual.result c.from_residual.ensures.1 in
    rw (p.1, p.2) (stops _ c.in_err-texts.ensures.follows)

pub returns-in_err-cert-clause-follows : goal.returns-in_err-cert-clause-follows
unfolding answer_to_audit
returns-in_err-cert-clause-follows g c =
    let p = err_from_is_err_and c.from_residual-in_err-cert.result c.from_residual-in_err-cert.ensures.1 in
    rw (p.1, p.2)
    (goes_on _ c.in_ok-texts.ensures.follows c.in_ok-texts.ensures.same c.in_ok-texts.ensures.later
    (stops _ c.in_err-cert.ensures.follows))

pub returns-clause-follows : goal.returns-clause-follows
unfolding answer_to_audit
returns-clause-follows g c =
    goes_on _ c.in_ok-texts.ensures.follows c.in_ok-texts.ensures.same c.in_ok-texts.ensures.later
    (goes_on_to _ c.in_ok-cert.ensures.follows c.audited.ensures.meets)
