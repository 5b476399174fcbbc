-- Laws of verdicts, which hold of all lifted problems and all steps.
use Rattle.std.specs.Prelude.{◌≡◌, ◌↔◌, true, Some, List, map}
use Rattle.std.specs.List.{AllZip}
use Rattle.wp_lift.specs.Problem.{Lifting, Instance}
use Rattle.wp_lift.specs.Worlds.{is_valid}
use Rattle.wp_lift.specs.Names.{object_named, schema_named}
use Rattle.wp_check.specs.declared.step.Step.{Step}
use Rattle.wp_check.specs.declared.cause.Verdict.TheVariants.{Valid}
use Rattle.wp_check.specs.Verdicts.{verdict_of}

-- the words of the step are the names of the instance's schema and objects
pub record Names (lifted : Lifting) (step : Step) (named : Instance) : Type 0 where
  pub schema : schema_named lifted step.name ≡ Some named.schema
  pub objects : map (object_named lifted) step.args ≡ map Some named.args

-- steps are valid exactly where they name the instances of a valid plan
abbrev pub ValidStepsNameValidPlans : Type 0
ValidStepsNameValidPlans =
    (lifted : Lifting) (steps : List Step)
    → (verdict_of lifted steps ≡ Valid) ↔ ((plan : List Instance) × AllZip (Names lifted) steps plan × (is_valid lifted plan ≡ true))
