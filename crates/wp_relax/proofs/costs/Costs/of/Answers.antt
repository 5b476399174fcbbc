use Rattle.std.proofs.Common.{length, ap, sym, ◌∙◌, subst}
use Rattle.std.proofs.lemmas.List.FromFn.{length-map-range_with_len}
use Rattle.wp_relax.specs.AdditiveCost.{costs_of, supporter_of}
use Rattle.wp_relax.specs.RelaxedPlan.{AreActs}
use Rattle.wp_relax.proofs.CostLemmas.{length-costs_of, costs_of-bounded}
use Rattle.wp_relax.proofs.SupporterLemmas.{supporters_are_acts}
use Rattle.wp_relax.proofs.costs.Costs.of.Goals as goal

pub invariant_of-result : goal.invariant_of-result
invariant_of-result c =
    let acts = c.args.task.now.acts in
    let state = c.args.s.now in
    ap length (c.into_tables-costs.ensures.supporters ∙ c.in_ok-settle.ensures.supporters)
    ∙ (length-map-range_with_len (supporter_of acts state (costs_of acts state)) 0 (length state)
    ∙ sym (length-costs_of acts state c.into_tables-costs.result.0.items (c.into_tables-costs.ensures.costs ∙ c.in_ok-settle.ensures.costs)))

pub returns-clause-size : goal.returns-clause-size
returns-clause-size c =
    length-costs_of c.args.task.now.acts c.args.s.now c.into_tables-costs.result.0.items (c.into_tables-costs.ensures.costs ∙ c.in_ok-settle.ensures.costs) ∙ c.requires

pub returns-clause-bounded : goal.returns-clause-bounded
returns-clause-bounded c =
    costs_of-bounded c.args.task.now.acts c.args.s.now c.into_tables-costs.result.0.items (c.into_tables-costs.ensures.costs ∙ c.in_ok-settle.ensures.costs)

pub returns-clause-numbers : goal.returns-clause-numbers
returns-clause-numbers c =
    let acts = c.args.task.now.acts in
    let state = c.args.s.now in
    subst (AreActs (length acts)) (sym (c.into_tables-costs.ensures.supporters ∙ c.in_ok-settle.ensures.supporters))
    (supporters_are_acts acts state (costs_of acts state))
