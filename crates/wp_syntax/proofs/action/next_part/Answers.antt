use Rattle.std.proofs.Common.{ap}
use Rattle.wp_lex.specs.Node.{tree_of}
use Rattle.wp_syntax.proofs.PartSteps.{parts_step}
use Rattle.wp_syntax.proofs.action.next_part.Goals as goal

pub returns-clause-read : goal.returns-clause-read
returns-clause-read c =
    parts_step _ _ _ _ _ _ _ _ (ap tree_of c.in-Word.is) c.in-Some.ensures.trees c.in_ok-valued_part.ensures
