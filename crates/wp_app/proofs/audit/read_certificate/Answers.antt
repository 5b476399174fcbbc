use Rattle.std.proofs.lemmas.Result.{err_from_is_err_and}
use Rattle.wp_app.proofs.StepLemmas.{stops, goes_on_to}
use Rattle.wp_app.proofs.audit.read_certificate.Goals as goal

pub returns-in_err-cert_text-clause-follows : goal.returns-in_err-cert_text-clause-follows
returns-in_err-cert_text-clause-follows g c =
    let p = err_from_is_err_and c.from_residual.result c.from_residual.ensures.1 in
    rw (p.1, p.2) (stops _ c.in_err-cert_text.ensures.follows)

pub returns-clause-follows : goal.returns-clause-follows
returns-clause-follows g c = goes_on_to _ c.in_ok-cert_text.ensures.follows c.cert_of.ensures
