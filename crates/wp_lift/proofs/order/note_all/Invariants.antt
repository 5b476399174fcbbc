use Rattle.std.proofs.Common.{◌≡◌, length}
use Rattle.wp_lift.specs.Rows.{IsListing}
use Rattle.wp_lift.proofs.order.note_all.Given as goal

abbrev pub invariant-loop-a : goal.invariant-loop-a
invariant-loop-a l = (l.count ≡ length l.listed) × IsListing l.order.items l.listed
