use Rattle.std.proofs.Common.{rules}
use Rattle.std.proofs.lemmas.Result.{err_from_is_err_and}
use Rattle.wp_lift.proofs.SchemaLemmas.{effects-fail}
use Rattle.wp_lift.proofs.lifting.schema_of.Goals as goal

pub returns-in_err-effects : goal.returns-in_err-effects
returns-in_err-effects c =
    let p = err_from_is_err_and c.from_residual-in_err-effects.result c.from_residual-in_err-effects.ensures.1 in
    rw (p.1, p.2) (effects-fail c.args.types.now c.args.preds.now c.args.objects.now c.in_ok-params.params c.args.action.now _ _ _
    (search rules)
    (rw c.as_slice-3.ensures at c.in_ok-wanted.ensures)
    (rw c.as_slice-4.ensures at c.in_ok-conds.ensures)
    (rw c.as_slice-5.ensures at c.in_err-effects.ensures))
