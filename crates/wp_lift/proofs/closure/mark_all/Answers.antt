use Rattle.std.proofs.Common.{map}
use Rattle.wp_syntax.specs.declared.records.Name.{Name}
use Rattle.wp_syntax.specs.declared.records.Typed.{Typed}
use Rattle.wp_lift.specs.Typing.{type_number}
use Rattle.wp_lift.specs.Rows.{marked}
use Rattle.wp_lift.proofs.ClosureLemmas.{fold-step}
use Rattle.wp_lift.proofs.closure.mark_all.Goals as goal

pub loop-typed-preserved : goal.loop-typed-preserved
loop-typed-preserved c =
    fold-step marked (λ (typed : Typed). map (λ (kind : Name). (type_number c.args.types.now typed.name.text, type_number c.args.types.now kind.text)) typed.kinds)
    c.args.declared.now c.loop-typed.typed-index c.typed-item.result _ _ _ c.loop-typed-test.true c.typed-item.is c.loop-typed.invariant
    (rw (c.type_number-below.ensures, c.as_slice.ensures) at c.mark_kinds.ensures)
