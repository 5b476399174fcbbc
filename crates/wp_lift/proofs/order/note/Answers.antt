use Rattle.std.proofs.Common.{arith}
use Rattle.wp_lift.proofs.OrderLemmas.{listing-more}
use Rattle.wp_lift.proofs.order.note.Goals as goal

pub returns-clause-listing : goal.returns-clause-listing
returns-clause-listing c =
    rw (c.set.ensures, c.in_ok-push.ensures)
    (listing-more c.args.order.now.items c.args.listed.now c.args.a c.requires.listing (omega arith))
