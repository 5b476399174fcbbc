use Rattle.std.proofs.Common.{◌≡◌, ◌≤◌, Bool, List, ℕ, length, ap, ◌∙◌, arith}
use Rattle.std.specs.List.{range_with_len}
use Rattle.std.proofs.lemmas.List.{length-map}
use Rattle.std.proofs.lemmas.List.FromFn.{length-range_with_len}
use Rattle.std.proofs.lemmas.List.Sums.{count_by-le-length, length-filter}
use Rattle.wp_task.specs.declared.acts.Act.{Act}
use Rattle.wp_task.specs.Task.{act_at, applies, applicable_in, result_of}
use Rattle.wp_count.specs.Broods.{EvaluatedNode, child_of}
use Rattle.wp_count.proofs.counters.brood_of.Goals as goal

few_apply : (acts : List Act) (state : List Bool) → length (applicable_in acts state) ≤ length acts
few_apply acts state =
    let numbers = range_with_len 0 (length acts) in
    let test = λ (a : ℕ). applies (act_at acts a) state in
    omega (arith, length-filter test numbers, count_by-le-length test numbers, length-range_with_len 0 (length acts))

pub returns-clause-few : goal.returns-clause-few
returns-clause-few g c =
    let acts = c.args.task.now.acts in
    let state = c.args.state.now in
    let child = λ (a : ℕ). child_of c.args.task.now c.args.mark.now c.args.track.now a (result_of (act_at acts a) state) in
    let same : length c.of.result.children ≡ length (applicable_in acts state) =
    ap (λ (b : EvaluatedNode). length b.children) c.of.ensures
    ∙ (ap length c.in_ok-children.ensures
    ∙ (length-map c.in_ok-acts.acts child ∙ ap length c.in_ok-acts.ensures.value)) in
    omega (arith, same, few_apply acts state)
