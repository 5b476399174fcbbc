use Rattle.wp_app.proofs.AuditLaws.{done_audits, invalid_audits, no_plan}
use Rattle.wp_app.proofs.meanings.audits_are_true.Goals as goal

pub returns-clause-done : goal.returns-clause-done
returns-clause-done c = done_audits

pub returns-clause-invalid : goal.returns-clause-invalid
returns-clause-invalid c = invalid_audits

pub returns-clause-none : goal.returns-clause-none
returns-clause-none c = no_plan c.yes_has_no_plan.ensures.valid c.liftings_are_formed.ensures
