use Rattle.std.proofs.Common.{◌++◌, List, ℕ, ◌∙◌, ap}
use Rattle.wp_task.specs.declared.acts.Act.{Act}
use Rattle.wp_task.specs.Task.{act_at}
use Rattle.wp_report.specs.Tasks.{act_line}
use Rattle.wp_report.proofs.LineLemmas.{lines_more}
use Rattle.wp_report.proofs.tasks.put_acts.Goals as goal

pub loop-a-preserved : goal.loop-a-preserved
loop-a-preserved c =
    let line = λ (a : ℕ). act_line c.args.names.now a (act_at c.args.task.now.acts a) in
    c.in_ok-put_act_line.ensures
    ∙ ap (λ (act : Act). c.loop-a.out.items ++ act_line c.args.names.now c.loop-a.a act) c.act.ensures.value
    ∙ ap (λ (out : List ℕ). out ++ line c.loop-a.a) c.loop-a.invariant
    ∙ lines_more line c.args.out.now.items c.loop-a.a
