use Rattle.std.proofs.Common.{◌≡◌, fold, take}
use Rattle.wp_lift.specs.Typing.{pairs_of}
use Rattle.wp_lift.specs.Rows.{marked}
use Rattle.wp_lift.proofs.closure.mark_all.Given as goal

abbrev pub invariant-loop-typed : goal.invariant-loop-typed
invariant-loop-typed l = l.rows.items ≡ fold marked l.initial.rows.items (pairs_of l.types (take l.typed-index l.declared))
