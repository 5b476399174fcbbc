use Rattle.std.proofs.Common.{◌≡◌, drop}
use Rattle.wp_lift.specs.Walk.{each_after}
use Rattle.wp_lift.specs.Lifting.{object_of}
use Rattle.wp_lift.proofs.objects.objects_from.Given as goal

abbrev pub invariant-loop-typed : goal.invariant-loop-typed
invariant-loop-typed l = each_after (object_of l.part l.types) l.known (drop l.typed-index l.declared) ≡ each_after (object_of l.part l.types) l.initial.known l.declared
