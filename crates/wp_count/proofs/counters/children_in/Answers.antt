use Rattle.std.proofs.Common.{◌≡◌, ◌++◌, ◌∷◌, [], ℕ, length, map, take, sym, ap, ◌∙◌, arith}
use Rattle.std.proofs.Math.Seq.{take-length}
use Rattle.std.proofs.lemmas.List.{map_more}
use Rattle.wp_task.specs.Task.{act_at, result_of}
use Rattle.wp_count.specs.declared.brood.Child.{Child}
use Rattle.wp_count.specs.Broods.{child_of}
use Rattle.wp_count.proofs.counters.children_in.Goals as goal

pub loop-a-preserved : goal.loop-a-preserved
loop-a-preserved c =
    let items = c.as_slice-a-items.result.now in
    let next : ℕ → Child = λ a. child_of c.args.task.now c.args.mark.now c.args.track.now a (result_of (act_at c.args.task.now.acts a) c.args.state.now) in
    record {
      room = c.child_of.ensures.room ∙ c.loop-a.invariant.room;
      children = c.in_ok-push.ensures.items
          ∙ ((λ j. c.loop-a.invariant.children j ++ c.in_ok-child.ensures.value j ∷ [])
          ∙ sym (map_more next items c.loop-a.a-index 0 c.loop-a-test.true));
    }

pub returns : goal.returns
returns c =
    let items = c.as_slice-a-items.result.now in
    let next : ℕ → Child = λ a. child_of c.args.task.now c.args.mark.now c.args.track.now a (result_of (act_at c.args.task.now.acts a) c.args.state.now) in
    let all : c.loop-a.a-index ≡ length items = omega arith in
    c.of_vec.ensures
    ∙ (c.loop-a.invariant.children
    ∙ (ap (λ n. map next (take n items)) all ∙ ap (map next) (take-length items ∙ c.as_slice-a-items.ensures)))
