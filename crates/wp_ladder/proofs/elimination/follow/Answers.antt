use Rattle.std.proofs.Common.{◌≡◌, true, false, length, get_or, ap, ◌∙◌, rules}
use Rattle.wp_task.specs.Task.{act_at, applies}
use Rattle.wp_task.proofs.PlanLemmas.{length-result_of}
use Rattle.wp_ladder.proofs.StepLemmas.{followed_taken, followed_passed}
use Rattle.wp_ladder.proofs.elimination.follow.Goals as goal
use Rattle.wp_ladder.proofs.elimination.follow.Goals.{then-applies+in_ok-push, else-applies}

pub loop-a-preserved : goal.loop-a-preserved
loop-a-preserved c =
    let acts = c.args.task.now.acts in
    let start = c.args.state.now in
    let steps = c.args.steps.now in
    let place = c.loop-a.a-index in
    elim c.if-applies.branch [
      | then-applies+in_ok-push w ↦
          let passes : applies (act_at acts (get_or steps place 0)) c.loop-a.state ≡ true = search rules in
          followed_taken acts start steps place c.loop-a.state c.loop-a.taken.items c.loop-a.invariant c.loop-a-test.true
          c.if-applies.state c.if-applies.taken.items passes
          (w.state-is ∙ w.advance.ensures) ((λ j. (w.taken-is j).items) ∙ w.in_ok-push.ensures.items)
      | else-applies w ↦
          let fails : applies (act_at acts (get_or steps place 0)) c.loop-a.state ≡ false = search rules in
          followed_passed acts start steps place c.loop-a.state c.loop-a.taken.items c.loop-a.invariant c.loop-a-test.true
          c.if-applies.state c.if-applies.taken.items fails w.state-is (λ j. (w.taken-is j).items)
    ]

pub returns-in_err-push-clause-size : goal.returns-in_err-push-clause-size
returns-in_err-push-clause-size c =
    ap length c.advance.ensures
    ∙ (length-result_of (act_at c.args.task.now.acts (get_or c.args.steps.now c.loop-a.a-index 0)) c.loop-a.state ∙ c.loop-a.invariant.size)
