use Rattle.std.proofs.Common.{◌≡◌, ◌∷◌, ◌∙◌}
use Rattle.std.specs.Vec.Iter.{into_iter_items}
use Rattle.wp_commit.specs.MadeChildren.{child_as}
use Rattle.wp_commit.proofs.EvaluationLemmas.{map-next}
use Rattle.wp_commit.proofs.made.children_as.Goals as goal

pub loop-next-preserved : goal.loop-next-preserved
loop-next-preserved c =
    let before = into_iter_items c.loop-next.next-iterator in
    let left = into_iter_items c.next.new.self in
    let steps : before ≡ c.in-Some.next ∷ left = c.in-Some.ensures.steps.0 in
    map-next child_as c.loop-next.children.items c.push.new.self.items c.in-Some.next c.put_together.result before left steps
    c.in_ok-push.ensures.items c.put_together.ensures
    ∙ c.loop-next.invariant
