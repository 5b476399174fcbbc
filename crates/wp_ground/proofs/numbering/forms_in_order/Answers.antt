use Rattle.wp_ground.proofs.NumberLemmas.{in-order}
use Rattle.wp_ground.proofs.numbering.forms_in_order.Goals as goal

pub returns-clause-value : goal.returns-clause-value
returns-clause-value c =
    (in-order c.args.lifted.now c.args.reached.now c.in_ok-atoms.atoms.items c.sort_unstable.new.self.items c.dedup.new.self.items c.requires
    c.in_ok-atoms.ensures c.sort_unstable.ensures.permutation c.sort_unstable.ensures.sorted c.dedup.ensures.filtered).0

pub returns-clause-rising : goal.returns-clause-rising
returns-clause-rising c =
    (in-order c.args.lifted.now c.args.reached.now c.in_ok-atoms.atoms.items c.sort_unstable.new.self.items c.dedup.new.self.items c.requires
    c.in_ok-atoms.ensures c.sort_unstable.ensures.permutation c.sort_unstable.ensures.sorted c.dedup.ensures.filtered).1
