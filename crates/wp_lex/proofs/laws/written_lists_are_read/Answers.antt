use Rattle.wp_lex.proofs.WrittenLists.{written_lists_are_read}
use Rattle.wp_lex.proofs.laws.written_lists_are_read.Goals as goal

pub returns : goal.returns
returns c = written_lists_are_read
