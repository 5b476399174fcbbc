use Rattle.wp_lex.proofs.Spelling.{lists_are_read}
use Rattle.wp_lex.proofs.laws.lists_are_read.Goals as goal

pub returns : goal.returns
returns c = lists_are_read
