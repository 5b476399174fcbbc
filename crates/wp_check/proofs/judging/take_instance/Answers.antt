use Rattle.std.proofs.Common.{sym, ◌∙◌, ap}
use Rattle.std.specs.Prelude.{option_map}
use Rattle.wp_lift.specs.Problem.{Instance}
use Rattle.wp_lift.specs.Worlds.{among, after, first_false}
use Rattle.wp_check.specs.declared.cause.Why.TheVariants.{Condition}
use Rattle.wp_check.proofs.StepLemmas.{fault_of_named, instance_named}
use Rattle.wp_check.proofs.judging.take_instance.Goals as goal

pub returns-in-Some : goal.returns-in-Some
returns-in-Some c =
    fault_of_named _ (among c.args.world.now) _ _ _ c.requires.named
    ∙ (ap (λ (one : Instance). option_map Condition (first_false c.args.lifted.now one (among c.args.world.now))) (sym (instance_named _ _ _ _ c.requires.named))
    ∙ ap (option_map Condition) (sym c.in_ok-place.ensures.value ∙ c.in-Some.is))

pub returns : goal.returns
returns c = (
  fault_of_named _ (among c.args.world.now) _ _ _ c.requires.named
      ∙ (ap (λ (one : Instance). option_map Condition (first_false c.args.lifted.now one (among c.args.world.now))) (sym (instance_named _ _ _ _ c.requires.named))
      ∙ ap (option_map Condition) (sym c.in_ok-place.ensures.value ∙ c.in_default.is)),
  c.in_ok-after.ensures ∙ ap (λ (one : Instance). after c.args.lifted.now one (among c.args.world.now)) (instance_named _ _ _ _ c.requires.named),
)
