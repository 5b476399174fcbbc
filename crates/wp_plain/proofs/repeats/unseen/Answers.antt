use Rattle.std.proofs.Common.{◌++◌, map, sym, ap, ◌∙◌}
use Rattle.std.specs.Vec.Iter.{into_iter_items}
use Rattle.wp_plain.specs.Nodes.{states_kept}
use Rattle.wp_plain.specs.Expansion.{unseen}
use Rattle.wp_plain.proofs.UnseenLemmas.{unseen-next}
use Rattle.wp_plain.proofs.repeats.unseen.Goals as goal

pub loop-child-preserved : goal.loop-child-preserved
loop-child-preserved c =
    let kept = states_kept c.args.nodes.now in
    let fresh = c.loop-child.fresh.items in
    unseen-next (λ x. x.state) kept fresh c.push_unseen.new.fresh.items c.in-Some.child (into_iter_items c.next.new.self) c.in_ok-push_unseen.ensures
    ∙ (ap (λ xs. fresh ++ unseen (λ x. x.state) (kept ++ map (λ x. x.state) fresh) xs) (sym c.in-Some.ensures.steps.0)
    ∙ c.loop-child.invariant)
