use Rattle.wp_lex.proofs.First.{faults_are_first}
use Rattle.wp_lex.proofs.laws.faults_are_first.Goals as goal

pub returns : goal.returns
returns c = faults_are_first
