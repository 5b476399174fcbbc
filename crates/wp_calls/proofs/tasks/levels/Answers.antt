use Rattle.std.proofs.Common.{◌*◌, ℕ, subst, sym}
use Rattle.std.specs.List.{All}
use Rattle.std.proofs.lemmas.List.Elements.{All-push}
use Rattle.wp_task.specs.Task.{IsAct}
use Rattle.wp_calls.proofs.tasks.levels.Goals as goal

pub loop-i-preserved : goal.loop-i-preserved
loop-i-preserved c =
    subst (All (IsAct (2 * c.args.n))) (sym c.in_ok-push.ensures.items)
    (All-push (IsAct (2 * c.args.n)) c.loop-i.acts.items c.in_ok-act.act c.loop-i.invariant c.in_ok-act.ensures)

pub task_of-requires : goal.task_of-requires
task_of-requires c = subst (All (IsAct (2 * c.args.n))) (sym c.of_vec.ensures) c.loop-i.invariant
