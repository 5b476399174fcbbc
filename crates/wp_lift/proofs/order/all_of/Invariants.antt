use Rattle.std.proofs.Common.{◌≡◌, ◌<◌, ℕ, true, length}
use Rattle.wp_lift.specs.Typing.{is_flagged}
use Rattle.wp_lift.specs.Rows.{IsListing}
use Rattle.wp_lift.proofs.order.all_of.Given as goal

abbrev pub invariant-loop-a : goal.invariant-loop-a
invariant-loop-a l =
    (l.count ≡ length l.listed) × IsListing l.order.items l.listed × ((b : ℕ) → b < l.a → is_flagged l.listed b ≡ true)
