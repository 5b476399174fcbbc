use Rattle.std.proofs.Common.{arith}
use Rattle.wp_lift.proofs.OrderLemmas.{listing-order}
use Rattle.wp_lift.proofs.order.all_of.Goals as goal

pub returns : goal.returns
returns c =
    listing-order c.args.count c.loop-a.order.items c.loop-a.listed c.loop-a.invariant.1 c.loop-a.invariant.0
    (λ a h. c.loop-a.invariant.2 a (omega arith))
