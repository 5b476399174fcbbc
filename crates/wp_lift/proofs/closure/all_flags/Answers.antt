use Rattle.wp_lift.proofs.ClosureLemmas.{range-more}
use Rattle.wp_lift.proofs.closure.all_flags.Goals as goal

pub loop-a-preserved : goal.loop-a-preserved
loop-a-preserved c = rw c.in_ok-push.ensures (range-more _ c.loop-a.a _ _ c.loop-a.invariant c.in_ok-row.ensures)
