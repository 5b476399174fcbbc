use Rattle.wp_novel.proofs.WorkLemmas.{work_is_out}
use Rattle.wp_novel.proofs.laws.worked_jobs_are_out.Goals as goal

pub returns : goal.returns
returns c = work_is_out
