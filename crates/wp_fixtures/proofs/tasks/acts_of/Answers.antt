use Rattle.std.proofs.Common.{subst, sym}
use Rattle.std.specs.List.{All}
use Rattle.std.proofs.lemmas.List.Elements.{All-push}
use Rattle.wp_task.specs.Task.{IsAct}
use Rattle.wp_fixtures.proofs.tasks.acts_of.Goals as goal

pub loop-row-preserved : goal.loop-row-preserved
loop-row-preserved c =
    subst (All (IsAct c.args.size)) (sym c.in_ok-push.ensures.items)
    (All-push (IsAct c.args.size) c.loop-row.acts.items c.in_ok-act.act c.loop-row.invariant c.in_ok-act.ensures.fits)

pub returns : goal.returns
returns c = subst (All (IsAct c.args.size)) (sym c.of_vec.ensures) c.loop-row.invariant
