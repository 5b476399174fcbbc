use Rattle.std.proofs.Common.{◌≡◌, drop}
use Rattle.wp_lift.specs.Walk.{each, behind}
use Rattle.wp_lift.specs.Typing.{kind_of}
use Rattle.wp_lift.proofs.typing.each_kind.Given as goal

abbrev pub invariant-loop-kind : goal.invariant-loop-kind
invariant-loop-kind l = behind l.numbers.items (each (kind_of l.part l.types) (drop l.kind-index l.kinds)) ≡ each (kind_of l.part l.types) l.kinds
