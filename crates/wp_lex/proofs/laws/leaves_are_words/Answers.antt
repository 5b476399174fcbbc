use Rattle.wp_lex.proofs.LeafWords.{leaves_are_words}
use Rattle.wp_lex.proofs.laws.leaves_are_words.Goals as goal

pub returns : goal.returns
returns c = leaves_are_words
