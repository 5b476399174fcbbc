use Rattle.std.proofs.Common.{◌++◌, ◌∷◌, [], cond, sym, ◌∙◌}
use Rattle.wp_task.specs.Set.{has}
use Rattle.wp_task.proofs.AddersLemmas.{filter-range_more}
use Rattle.wp_relax.proofs.plans.numbers_of.Goals as goal

pub loop-p-preserved : goal.loop-p-preserved
loop-p-preserved c =
    c.in_ok-push_if.ensures
    ∙ ((λ j. c.loop-p.invariant j ++ cond (has c.args.flags.now c.loop-p.p) (c.loop-p.p ∷ []) [])
    ∙ sym (filter-range_more (has c.args.flags.now) c.loop-p.p))
