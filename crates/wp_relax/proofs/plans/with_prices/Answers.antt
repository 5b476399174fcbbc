use Rattle.std.proofs.Common.{◌++◌, ◌∷◌, [], ℕ, cond, sym, ap, ◌∙◌}
use Rattle.wp_task.specs.Set.{has}
use Rattle.wp_task.specs.Task.{act_at}
use Rattle.wp_relax.specs.AdditiveCost.{price_of}
use Rattle.wp_relax.proofs.PlanLemmas.{map-filter_more}
use Rattle.wp_relax.proofs.plans.with_prices.Goals as goal

pub loop-a-preserved : goal.loop-a-preserved
loop-a-preserved c =
    let set = c.args.set.now in
    let a = c.loop-a.a in
    let key : ℕ → ℕ × ℕ = λ b. (price_of c.args.costs.now.costs (act_at c.args.task.now.acts b), b) in
    c.in_ok-push_price_if.ensures
    ∙ (ap (λ l. l ++ cond (has set a) (key a ∷ []) []) c.loop-a.invariant ∙ sym (map-filter_more key (has set) a))
