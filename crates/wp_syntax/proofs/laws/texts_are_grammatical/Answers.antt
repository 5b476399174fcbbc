use Rattle.wp_syntax.proofs.GrammaticalLemmas.{texts_grammatical}
use Rattle.wp_syntax.proofs.laws.texts_are_grammatical.Goals as goal

pub returns : goal.returns
returns c = texts_grammatical
