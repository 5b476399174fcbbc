use Rattle.std.proofs.Common.{◌<◌, length, sym, subst, arith, ℕ, ◌∙◌}
use Rattle.std.proofs.lemmas.List.{get_or_default}
use Rattle.wp_ground.specs.Sweeps.{with_schema}
use Rattle.wp_ground.specs.Steps.{step_at}
use Rattle.wp_ground.specs.Tasks.{act_of}
use Rattle.wp_ground.proofs.ActLemmas.{acts-more}
use Rattle.wp_ground.proofs.acts.acts_of.Goals as goal

pub act_of-requires : goal.act_of-requires
act_of-requires c =
    let within : c.loop-place.place < length c.args.steps.now = omega (arith, c.loop-place-test.true, c.len-place-end.ensures) in
    subst (λ (schema : ℕ). schema < length c.args.lifted.now.schemas) (sym c.schema.ensures) (c.requires c.loop-place.place _ within)

pub loop-place-preserved : goal.loop-place-preserved
loop-place-preserved c =
    let steps = c.args.steps.now in
    let place = c.loop-place.place in
    let within : place < length steps = omega (arith, c.loop-place-test.true, c.len-place-end.ensures) in
    acts-more (act_of c.args.lifted.now c.args.atoms.now) steps place (step_at steps place) c.in_ok-act.act
    c.loop-place.acts.items c.push.new.self.items within (get_or_default steps place _ _ within)
    (c.in_ok-act.ensures ∙ (λ i. act_of c.args.lifted.now c.args.atoms.now (with_schema (c.schema.ensures i) (c.args-in-loop-place.ensures i))))
    c.loop-place.invariant c.in_ok-push.ensures.items
