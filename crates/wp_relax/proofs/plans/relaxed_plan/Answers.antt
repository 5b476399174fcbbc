use Rattle.std.proofs.Common.{length, ap, ◌∙◌}
use Rattle.wp_relax.proofs.FlagLemmas.{length-wanted_after}
use Rattle.wp_relax.proofs.plans.relaxed_plan.Goals as goal

pub supporters_in_order-requires-clause-flags : goal.supporters_in_order-requires-clause-flags
supporters_in_order-requires-clause-flags c =
    ap length (c.deref.ensures.value ∙ c.in_ok-wanted.ensures)
    ∙ (length-wanted_after c.args.task.now.acts c.args.task.now.goals c.args.s.now c.supporters.result.now (length c.args.s.now)
    ∙ c.requires)
