use Rattle.wp_app.proofs.CauseLaws.{limits, refusals}
use Rattle.wp_app.proofs.meanings.refusals_have_their_causes.Goals as goal

pub returns-clause-refusals : goal.returns-clause-refusals
returns-clause-refusals c = refusals

pub returns-clause-limits : goal.returns-clause-limits
returns-clause-limits c = limits
