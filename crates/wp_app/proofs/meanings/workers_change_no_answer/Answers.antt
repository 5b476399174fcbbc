use Rattle.wp_app.proofs.WordLaws.{any_workers}
use Rattle.wp_app.proofs.meanings.workers_change_no_answer.Goals as goal

pub returns : goal.returns
returns c = any_workers c.workers_play_no_part.ensures
