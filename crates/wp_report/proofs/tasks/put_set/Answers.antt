use Rattle.std.proofs.Common.{[], ◌∷◌, ◌++◌, List, ℕ, cond, ◌∙◌, ap}
use Rattle.wp_task.specs.Set.{has}
use Rattle.wp_report.specs.Tasks.{numbers_text}
use Rattle.wp_report.proofs.LineLemmas.{members_more}
use Rattle.wp_report.proofs.tasks.put_set.Goals as goal

pub loop-p-preserved : goal.loop-p-preserved
loop-p-preserved c =
    c.in_ok-put_member.ensures
    ∙ ap (λ (out : List ℕ). out ++ numbers_text (cond (has c.args.set.now c.loop-p.p) (c.loop-p.p ∷ []) [])) c.loop-p.invariant
    ∙ members_more c.args.out.now.items c.args.set.now c.loop-p.p
