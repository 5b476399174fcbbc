use Rattle.wp_lift.proofs.SearchLemmas.{IsSearch, unseen}
use Rattle.wp_lift.proofs.closure.search_from.Given as goal

abbrev pub invariant-loop-b : goal.invariant-loop-b
invariant-loop-b l = IsSearch l.rows l.a l.found l.seen

abbrev pub decreases-loop-b : goal.decreases-loop-b
decreases-loop-b l = unseen l.seen
