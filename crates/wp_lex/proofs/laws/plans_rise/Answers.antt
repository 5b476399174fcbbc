use Rattle.wp_lex.proofs.Rise.{plans_rise}
use Rattle.wp_lex.proofs.laws.plans_rise.Goals as goal

pub returns : goal.returns
returns c = plans_rise
