use Rattle.std.proofs.Common.{sym, subst}
use Rattle.wp_lex.specs.Lists.{IsOneList}
use Rattle.wp_lex.proofs.Balance.{texts_are_lists}
use Rattle.wp_lex.proofs.tree.read_tree.Goals as goal

pub invariant_of-result : goal.invariant_of-result
invariant_of-result c =
    subst IsOneList (sym c.in_ok-items.ensures.1) (texts_are_lists c.args.bytes.now c.in_ok-items.ensures.0)
