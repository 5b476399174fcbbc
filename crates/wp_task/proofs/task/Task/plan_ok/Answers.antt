use Rattle.std.proofs.Common.{◌≡◌, ◌<◌, true, length, get_or, ap, ◌∙◌, arith, rules}
use Rattle.wp_task.specs.Task.{act_at, applies, result_of, has_goals}
use Rattle.wp_task.proofs.PlanLemmas.{plan_goes, length-result_of}
use Rattle.wp_task.proofs.task.Task.plan_ok.Goals as goal

pub loop-a-preserved : goal.loop-a-preserved
loop-a-preserved c =
    let task = c.args.self.now in
    let plan = c.as_slice-a-items.result.now in
    let a = get_or plan c.loop-a.a-index 0 in
    let within : a < length task.acts = omega (arith, c.act_count.ensures.value) in
    let passes : applies (act_at task.acts a) c.loop-a.state ≡ true = search rules in
    let next : c.in_ok-state-2.state ≡ result_of (act_at task.acts a) c.loop-a.state = c.in_ok-state-2.ensures in
    record {
      size = ap length next ∙ (length-result_of (act_at task.acts a) c.loop-a.state ∙ c.loop-a.invariant.size);
      left = ap (has_goals task.goals) (plan_goes task.acts c.loop-a.state c.in_ok-state-2.state plan c.loop-a.a-index c.loop-a-test.true within passes next)
          ∙ c.loop-a.invariant.left;
    }
