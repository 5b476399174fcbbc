use Rattle.wp_ahead.proofs.JobLemmas.{jobs_work}
use Rattle.wp_ahead.proofs.laws.jobs_can_be_worked.Goals as goal

pub returns : goal.returns
returns c = jobs_work
