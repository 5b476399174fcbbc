use Rattle.std.specs.BTreeSet.{contains}
use Rattle.std.specs.Ordering.{nat_cmp}
use Rattle.wp_ahead.proofs.FrontLemmas.{set_next}
use Rattle.wp_ahead.proofs.front.set_of.Goals as goal

pub loop-number-preserved : goal.loop-number-preserved
loop-number-preserved c = λ n.
    set_next c.args.numbers.now c.loop-number.number-index n (contains nat_cmp c.loop-number.set n) (contains nat_cmp c.insert.new.self n)
    c.loop-number-test.true (c.loop-number.invariant n) (c.in_ok-insert.ensures.updates.0 n)
