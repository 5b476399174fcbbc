-- The verdict on the steps of a plan: the first step that is bad, with its first cause; else the first goal atom that does not
-- hold in the last world; else that the plan is valid. Valid plans are those of PDDL 2.1, level 1.
use Rattle.std.specs.Prelude.{ℕ, ◌≡◌, ◌+◌, ◌==◌, Bool, true, false, unwrap_or, Option, None, Some, option_map, List, [], ◌∷◌, length, map}
use Rattle.wp_lift.specs.declared.atoms.GroundAtom.{GroundAtom}
use Rattle.wp_lift.specs.Problem.{Lifting, Instance, schema_at, fits}
use Rattle.wp_lift.specs.Worlds.{among, after, first_false, unmet_goal}
use Rattle.wp_lift.specs.Names.{object_named, schema_named}
use Rattle.wp_check.specs.declared.step.Step.{Step}
use Rattle.wp_check.specs.declared.cause.Why.{Why}
use Rattle.wp_check.specs.declared.cause.Why.TheVariants.{UnknownAction, Arguments, UnknownObject, Misfit, Condition}
use Rattle.wp_check.specs.declared.cause.Stop.{Stop}
use Rattle.wp_check.specs.declared.cause.Stop.TheVariants as stops
use Rattle.wp_check.specs.declared.cause.Verdict.{Verdict}
use Rattle.wp_check.specs.declared.cause.Verdict.TheVariants.{Valid, Bad, GoalUnmet}

-- the schema and the objects that a step names; a name that is not declared stands for the first
abbrev pub instance_of : Lifting → Step → Instance
instance_of lifted step = record {
  schema = unwrap_or (schema_named lifted step.name) 0;
  args = map (λ (word : List ℕ). unwrap_or (object_named lifted word) 0) step.args;
}

-- of an argument: an object that is unknown comes before a type that does not fit
abbrev pub fault_of_object : Lifting → ℕ → ℕ → Option ℕ → Option Why
fault_of_object lifted schema place None = Some (UnknownObject place)
fault_of_object lifted schema place (Some object) = elim (fits lifted schema place object) [ true ↦ None | false ↦ Some (Misfit place) ]

-- the first that there is
abbrev pub or_else : Option Why → Option Why → Option Why
or_else None other = other
or_else (Some why) other = Some why

-- of the arguments from a place on, from the left
abbrev pub fault_of_args : Lifting → ℕ → ℕ → List (List ℕ) → Option Why
fault_of_args lifted schema place [] = None
fault_of_args lifted schema place (word ∷ words) =
    or_else (fault_of_object lifted schema place (object_named lifted word)) (fault_of_args lifted schema (place + 1) words)

-- of a step with as many arguments as parameters
abbrev pub fault_of_instance : Lifting → (GroundAtom → Bool) → ℕ → Step → Option Why
fault_of_instance lifted world schema step =
    or_else (fault_of_args lifted schema 0 step.args) (option_map Condition (first_false lifted (instance_of lifted step) world))

-- by whether there are as many arguments as parameters
abbrev pub if_counted : Bool → Option Why → Option Why → Option Why
if_counted true fault other = fault
if_counted false fault other = other

abbrev pub fault_of_schema : Lifting → (GroundAtom → Bool) → Option ℕ → Step → Option Why
fault_of_schema lifted world None step = Some UnknownAction
fault_of_schema lifted world (Some schema) step =
    if_counted (length step.args == (schema_at lifted schema).arity) (fault_of_instance lifted world schema step)
    (Some (Arguments (length step.args) (schema_at lifted schema).arity))

-- the first cause for which a step is bad in a world
abbrev pub fault_of_step : Lifting → (GroundAtom → Bool) → Step → Option Why
fault_of_step lifted world step = fault_of_schema lifted world (schema_named lifted step.name) step

abbrev pub verdict_at_end : Option ℕ → Verdict
verdict_at_end None = Valid
verdict_at_end (Some place) = GoalUnmet place

-- from a world on, with the number of the next step
abbrev pub verdict_from : Lifting → (GroundAtom → Bool) → ℕ → List Step → Verdict
verdict_from lifted world number [] = verdict_at_end (unmet_goal lifted world)
verdict_from lifted world number (step ∷ steps) = elim (fault_of_step lifted world step) [
  | Some why ↦ Bad number why
  | None ↦ verdict_from lifted (after lifted (instance_of lifted step) world) (number + 1) steps
]

unfoldable pub verdict_of : Lifting → List Step → Verdict
verdict_of lifted steps = verdict_from lifted (among lifted.opening) 1 steps

-- what stops a step is want of memory, or the cause for which the step is bad
abbrev pub Stops : Stop → Option Why → Type 0
Stops stops.Memory fault = Unit {0}
Stops (stops.Bad why) fault = fault ≡ Some why

-- the schema and the objects that a step names, where there is nothing wrong with these names
pub record IsNamed (lifted : Lifting) (step : Step) (schema : ℕ) (args : List ℕ) : Type 0 where
  pub schema_is : schema_named lifted step.name ≡ Some schema
  pub count : length step.args ≡ (schema_at lifted schema).arity
  pub objects : fault_of_args lifted schema 0 step.args ≡ None
  pub args_are : args ≡ map (λ (word : List ℕ). unwrap_or (object_named lifted word) 0) step.args
