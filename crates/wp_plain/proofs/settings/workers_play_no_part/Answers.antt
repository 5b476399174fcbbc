use Rattle.wp_plain.proofs.WorkerLemmas.{workers_play_no_part}
use Rattle.wp_plain.proofs.settings.workers_play_no_part.Goals as goal

pub returns : goal.returns
returns c = workers_play_no_part
