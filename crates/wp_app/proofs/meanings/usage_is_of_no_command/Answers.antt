use Rattle.wp_app.proofs.WordLaws.{usage}
use Rattle.wp_app.proofs.meanings.usage_is_of_no_command.Goals as goal

pub returns : goal.returns
returns c = usage
