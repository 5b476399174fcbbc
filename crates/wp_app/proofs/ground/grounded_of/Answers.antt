use Rattle.std.proofs.Common.{rules, ◌≢◌}
use Rattle.wp_ground.specs.declared.grounding.GroundError.TheVariants as refusals
use Rattle.wp_app.specs.Output.{grounded_step}
use Rattle.wp_app.proofs.GroundLemmas.{grounded_named, meets_task, meets_refusal, told}
use Rattle.wp_app.proofs.ground.grounded_of.Goals as goal

pub returns-in-Ok-clause-meets : goal.returns-in-Ok-clause-meets
unfolding grounded_step
returns-in-Ok-clause-meets c = meets_task _ _ c.in-Ok.grounded c.in-Ok.ensures.0 c.in-Ok.ensures.1

pub returns-in-Ok-clause-named : goal.returns-in-Ok-clause-named
returns-in-Ok-clause-named c = grounded_named c.args.lifted.now c.in-Ok.grounded c.in-Ok.ensures.1

pub returns-in_ok-ground_error_text-in-Err-clause-meets : goal.returns-in_ok-ground_error_text-in-Err-clause-meets
unfolding grounded_step
returns-in_ok-ground_error_text-in-Err-clause-meets c =
    let cause : c.in-Err.error ≢ refusals.Memory = search rules in
    meets_refusal _ _ c.in-Err.error _ _ _ (told c.in-Err.error c.args.lifted.now c.in-Err.ensures cause)
    c.status_of.ensures.value c.in_ok-ground_error_text-in-Err.ensures c.ended.ensures
