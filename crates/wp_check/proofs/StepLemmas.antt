-- The step of a plan whose name, number of arguments and arguments are as they should be.
use Rattle.std.proofs.Common.{◌≡◌, ℕ, Bool, true, Option, Some, unwrap_or, List, length, sym, ◌∙◌, ap, eq-eqb}
use Rattle.std.specs.Prelude.{option_map, ◌==◌}
use Rattle.wp_lift.specs.declared.atoms.GroundAtom.{GroundAtom}
use Rattle.wp_lift.specs.Problem.{Lifting, Instance, schema_at}
use Rattle.wp_lift.specs.Worlds.{first_false}
use Rattle.wp_check.specs.declared.step.Step.{Step}
use Rattle.wp_check.specs.declared.cause.Why.{Why}
use Rattle.wp_check.specs.declared.cause.Why.TheVariants.{Arguments, Condition}
use Rattle.wp_check.specs.Verdicts.{IsNamed, fault_of_step, fault_of_schema, fault_of_instance, if_counted, or_else, instance_of}

pub instance_named : (lifted : Lifting) (step : Step) (schema : ℕ) (args : List ℕ) → IsNamed lifted step schema args
    → (let one : Instance = record { schema = schema; args = args } in one) ≡ instance_of lifted step
instance_named lifted step schema args h = λ i. record { schema = unwrap_or (sym h.schema_is i) 0; args = h.args_are i }

pub fault_of_named : (lifted : Lifting) (world : GroundAtom → Bool) (step : Step) (schema : ℕ) (args : List ℕ) → IsNamed lifted step schema args
    → fault_of_step lifted world step ≡ option_map Condition (first_false lifted (instance_of lifted step) world)
fault_of_named lifted world step schema args h =
    let same : (length step.args == (schema_at lifted schema).arity) ≡ true = eq-eqb _ _ h.count in
    ap (λ (found : Option ℕ). fault_of_schema lifted world found step) h.schema_is
    ∙ (ap (λ (b : Bool). if_counted b (fault_of_instance lifted world schema step) (Some (Arguments (length step.args) (schema_at lifted schema).arity))) same
    ∙ ap (λ (fault : Option Why). or_else fault (option_map Condition (first_false lifted (instance_of lifted step) world))) h.objects)
