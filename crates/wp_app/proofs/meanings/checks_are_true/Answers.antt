use Rattle.wp_app.proofs.MeaningLaws.{done_checks, invalid_checks}
use Rattle.wp_app.proofs.meanings.checks_are_true.Goals as goal

pub returns-clause-done : goal.returns-clause-done
returns-clause-done c = done_checks c.valid_steps_name_valid_plans.ensures

pub returns-clause-invalid : goal.returns-clause-invalid
returns-clause-invalid c = invalid_checks
