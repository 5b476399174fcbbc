use Rattle.wp_lex.proofs.Runs.{words_are_runs}
use Rattle.wp_lex.proofs.laws.words_are_runs.Goals as goal

pub returns : goal.returns
returns c = words_are_runs
