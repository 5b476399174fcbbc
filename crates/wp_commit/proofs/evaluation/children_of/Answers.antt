use Rattle.std.proofs.Common.{ℕ, ◌≡◌, ◌∷◌, suc, ◌∙◌, subst, arith, length}
use Rattle.std.specs.List.{All}
use Rattle.std.specs.Vec.Iter.{into_iter_items}
use Rattle.wp_count.specs.declared.brood.Child.{Child}
use Rattle.wp_count.specs.Broods.{child_of}
use Rattle.wp_commit.specs.declared.unseen.Reached.{Reached}
use Rattle.wp_commit.proofs.EvaluationLemmas.{map-next}
use Rattle.wp_commit.proofs.evaluation.children_of.Goals as goal

pub loop-next-preserved : goal.loop-next-preserved
loop-next-preserved c =
    let task = c.args.task.now in
    let child : Reached ℕ → Child = λ x. child_of task c.args.mark.now c.args.track.now x.rest x.state in
    let held = c.loop-next.invariant in
    let before = into_iter_items c.loop-next.next-iterator in
    let left = into_iter_items c.next.new.self in
    let steps : before ≡ c.in-Some.next ∷ left = c.in-Some.ensures.steps.0 in
    record {
      room = c.evaluate.ensures.room ∙ held.room;
      sizes = λ k d within. subst (All (λ (x : Reached ℕ). length x.state ≡ task.atoms)) steps held.sizes (suc k) d (omega arith);
      children = map-next child c.loop-next.children.items c.push.new.self.items c.in-Some.next c.in_ok-child.child before left steps
          c.in_ok-push.ensures.items
          c.in_ok-child.ensures.value
          ∙ held.children;
    }
