use Rattle.std.proofs.Common.{◌≡◌, List, Bool, length, ap, ◌∙◌, subst}
use Rattle.std.specs.Prelude.{IfOk}
use Rattle.wp_task.specs.Task.{act_at}
use Rattle.wp_task.proofs.PlanLemmas.{length-result_of}
use Rattle.wp_count.specs.Broods.{child_of}
use Rattle.wp_count.proofs.counters.child_of.Goals as goal

pub evaluate-requires-clause-size : goal.evaluate-requires-clause-size
evaluate-requires-clause-size c =
    ap length c.in_ok-next.ensures
    ∙ (length-result_of (act_at c.args.task.now.acts c.args.a) c.args.state.now ∙ c.requires.size)

pub returns-clause-value : goal.returns-clause-value
returns-clause-value c =
    subst (λ (next : List Bool). IfOk c.evaluate.result (λ child. child ≡ child_of c.args.task.now c.args.mark.now c.args.track.now c.args.a next))
    c.in_ok-next.ensures c.evaluate.ensures.value
