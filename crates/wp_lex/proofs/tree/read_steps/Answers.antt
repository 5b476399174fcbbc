use Rattle.std.proofs.Common.{sym, subst}
use Rattle.std.proofs.lemmas.Result.{err_from_is_err_and}
use Rattle.wp_lex.specs.Lists.{AreLists}
use Rattle.wp_lex.proofs.Balance.{plans_are_lists}
use Rattle.wp_lex.proofs.PlanFaults.{IsPlanFault-from_Explains}
use Rattle.wp_lex.proofs.tree.read_steps.Goals as goal

pub invariant_of-result : goal.invariant_of-result
invariant_of-result c =
    subst AreLists (sym c.in_ok-items.ensures.1) (plans_are_lists c.args.bytes.now c.in_ok-items.ensures.0)

pub returns-in_err-items-clause-kinds : goal.returns-in_err-items-clause-kinds
returns-in_err-items-clause-kinds c =
    let p = err_from_is_err_and c.from_residual.result c.from_residual.ensures.1 in
    rw (p.1, p.2) (IsPlanFault-from_Explains c.in_err-items.field-0.0 c.args.bytes.now c.in_err-items.ensures)
