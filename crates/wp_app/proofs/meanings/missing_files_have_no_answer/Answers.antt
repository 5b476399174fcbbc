use Rattle.wp_app.proofs.MissingLaws.{no_answers}
use Rattle.wp_app.proofs.meanings.missing_files_have_no_answer.Goals as goal

pub returns : goal.returns
returns c = no_answers
