use Rattle.wp_lex.proofs.Balance.{plans_are_lists}
use Rattle.wp_lex.proofs.laws.plans_are_lists.Goals as goal

pub returns : goal.returns
returns c = plans_are_lists
