use Rattle.wp_lex.proofs.Rise.{texts_rise}
use Rattle.wp_lex.proofs.laws.texts_rise.Goals as goal

pub returns : goal.returns
returns c = texts_rise
