use Rattle.wp_app.proofs.MeaningLaws.{of_their_commands}
use Rattle.wp_app.proofs.meanings.answers_are_of_their_commands.Goals as goal

pub returns : goal.returns
returns c = of_their_commands
