use Rattle.std.proofs.Common.{◌∙◌, sym}
use Rattle.wp_cert.specs.Audits.{states_of}
use Rattle.wp_cert.proofs.FoundLemmas.{no_start, with_start}
use Rattle.wp_cert.proofs.auditing.audit_native.Goals as goal

pub returns-then-not-has_start-clause-value : goal.returns-then-not-has_start-clause-value
returns-then-not-has_start-clause-value c =
    sym (no_start c.args.task.now c.in_ok-found.found.keys (states_of c.args.task.now.atoms c.args.states.now) c.in_ok-found.ensures
    (sym c.has_start.ensures ∙ c.if-not-has_start.true))

pub returns-clause-value : goal.returns-clause-value
returns-clause-value c =
    c.in_ok-audit.ensures.value
    ∙ sym (with_start c.args.task.now c.in_ok-found.found.keys (states_of c.args.task.now.atoms c.args.states.now) c.in_ok-found.ensures
    (sym c.has_start.ensures ∙ c.if-not-has_start.false))
