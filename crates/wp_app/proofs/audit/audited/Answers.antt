use Rattle.std.proofs.lemmas.Result.{err_from_is_err_and}
use Rattle.wp_app.proofs.ReadLemmas.{meets_memory}
use Rattle.wp_app.proofs.StepLemmas.{meets_next, meets_stop}
use Rattle.wp_app.proofs.audit.audited.Goals as goal

pub returns-in_err-grounded-clause-meets : goal.returns-in_err-grounded-clause-meets
returns-in_err-grounded-clause-meets c =
    let p = err_from_is_err_and c.from_residual-in_err-grounded.result c.from_residual-in_err-grounded.ensures.1 in
    rw (p.1, p.2) (meets_next _ c.in_ok-lifted.ensures (meets_stop _ c.in_err-grounded.ensures.meets))

pub returns-in_err-reply_on-clause-meets : goal.returns-in_err-reply_on-clause-meets
returns-in_err-reply_on-clause-meets c =
    let p = err_from_is_err_and c.from_residual-in_err-reply_on.result c.from_residual-in_err-reply_on.ensures.1 in
    rw (p.1, p.2) (meets_memory _)
