use Rattle.std.proofs.Common.{◌&&◌, ◌||◌, None, get_or, sym, ◌∙◌}
use Rattle.wp_task.specs.Set.{has}
use Rattle.wp_relax.specs.RelaxedPlan.{is_for}
use Rattle.wp_relax.proofs.FlagLemmas.{list_any-range_more}
use Rattle.wp_relax.proofs.plans.supporting.Goals as goal

pub loop-p-preserved : goal.loop-p-preserved
loop-p-preserved c =
    let supporters = c.args.costs.now.supporters in
    let wanted = c.args.wanted.now in
    let p = c.loop-p.p in
    record {
      size = c.mark_supporter.ensures.size ∙ c.loop-p.invariant.size;
      set = λ a. c.mark_supporter.ensures.set a
          ∙ ((λ j. c.loop-p.invariant.set a j || (is_for (c.supporter.ensures j) a && has wanted p))
          ∙ sym (list_any-range_more (λ k. is_for (get_or supporters k None) a && has wanted k) p));
    }
