use Rattle.wp_syntax.proofs.GrammaticalLemmas.{phrases_grammatical}
use Rattle.wp_syntax.proofs.laws.phrases_are_grammatical.Goals as goal

pub returns : goal.returns
returns c = phrases_grammatical
