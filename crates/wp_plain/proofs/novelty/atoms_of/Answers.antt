use Rattle.std.proofs.Common.{◌++◌, ◌∷◌, [], Bool, cond, sym, ap, ◌∙◌}
use Rattle.wp_task.specs.Set.{has}
use Rattle.wp_task.proofs.AddersLemmas.{filter-range_more}
use Rattle.wp_plain.proofs.novelty.atoms_of.Goals as goal

pub loop-p-preserved : goal.loop-p-preserved
loop-p-preserved c =
    c.in_ok-push_if.ensures ∙ ap (λ (b : Bool). c.loop-p.atoms.items ++ cond b (c.loop-p.p ∷ []) []) c.has.ensures
    ∙ ((λ j. c.loop-p.invariant j ++ cond (has c.args.state.now c.loop-p.p) (c.loop-p.p ∷ []) [])
    ∙ sym (filter-range_more (has c.args.state.now) c.loop-p.p))
