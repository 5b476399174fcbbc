use Rattle.wp_app.proofs.WordLaws.{no_part}
use Rattle.wp_app.proofs.meanings.plain_plays_no_part.Goals as goal

pub returns : goal.returns
returns c = no_part
