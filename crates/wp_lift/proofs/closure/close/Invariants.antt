use Rattle.std.proofs.Common.{◌≡◌, ◌<◌, ℕ, true, get_or}
use Rattle.wp_lift.specs.Typing.{is_flagged}
use Rattle.wp_lift.proofs.SearchLemmas.{IsClosing}
use Rattle.wp_lift.proofs.closure.close.Given as goal

abbrev pub invariant-loop-a : goal.invariant-loop-a
invariant-loop-a l =
    IsClosing l.count l.fn.rows.items l.rows.items l.closed
    × ((k : ℕ) → k < l.a-index → is_flagged l.closed (get_or l.order k 0) ≡ true)
