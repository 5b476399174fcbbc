use Rattle.std.proofs.Common.{◌≡◌, map, fold, take}
use Rattle.wp_syntax.specs.declared.records.Name.{Name}
use Rattle.wp_lift.specs.Typing.{type_number}
use Rattle.wp_lift.specs.Rows.{marked}
use Rattle.wp_lift.proofs.closure.mark_kinds.Given as goal

abbrev pub invariant-loop-kind : goal.invariant-loop-kind
invariant-loop-kind l =
    l.rows.items ≡ fold marked l.initial.rows.items (map (λ (kind : Name). (l.below, type_number l.types kind.text)) (take l.kind-index l.kinds))
