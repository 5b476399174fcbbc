use Rattle.std.proofs.Common.{◌≡◌, drop}
use Rattle.wp_lift.specs.Walk.{each, behind}
use Rattle.wp_lift.specs.Lifting.{slot_of, naming_of}
use Rattle.wp_lift.proofs.scope.slots_of.Given as goal

abbrev pub invariant-loop-term : goal.invariant-loop-term
invariant-loop-term l = behind l.slots.items (each (slot_of (naming_of l.scope)) (drop l.term-index l.terms)) ≡ each (slot_of (naming_of l.scope)) l.terms
