use Rattle.wp_lex.proofs.Balance.{texts_are_lists}
use Rattle.wp_lex.proofs.laws.texts_are_lists.Goals as goal

pub returns : goal.returns
returns c = texts_are_lists
