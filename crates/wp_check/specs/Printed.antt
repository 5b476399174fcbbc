-- Plans of a lifted problem as steps: a step has the names of its instance's schema and objects.
use Rattle.std.specs.Prelude.{◌≡◌, ℕ, true, List, [], ◌++◌, map, slice_index_or, Ok}
use Rattle.wp_lex.specs.Trees.{trees_of}
use Rattle.wp_lex.specs.Items.{items_of}
use Rattle.wp_syntax.specs.declared.records.Domain.{Domain}
use Rattle.wp_syntax.specs.declared.records.Problem.{Problem}
use Rattle.wp_syntax.specs.Reading.{fine as read_fine}
use Rattle.wp_syntax.specs.Domains.{domain_of}
use Rattle.wp_syntax.specs.Problems.{problem_of}
use Rattle.wp_lift.specs.Walk.{fine as lifted_fine}
use Rattle.wp_lift.specs.Lifting.{lifting_of}
use Rattle.wp_lift.specs.Problem.{Lifting, Instance, schema_at}
use Rattle.wp_lift.specs.Worlds.{is_valid}
use Rattle.wp_lift.specs.Named.{HasWords, HasDistinctNames}
use Rattle.wp_check.specs.declared.step.Step.{Step}
use Rattle.wp_check.specs.declared.cause.Verdict.TheVariants.{Valid}
use Rattle.wp_check.specs.PlanFile.{plan_of}
use Rattle.wp_check.specs.PlanText.{steps_text, AreComments}
use Rattle.wp_check.specs.Verdicts.{verdict_of}

-- the step that names an instance
abbrev pub naming_step : Lifting → Instance → Step
naming_step lifted one = record {
  name = (schema_at lifted one.schema).name;
  args = map (λ (object : ℕ). slice_index_or lifted.objects object []) one.args;
}

abbrev pub naming_steps : Lifting → List Instance → List Step
naming_steps lifted plan = map (naming_step lifted) plan

-- the steps of a valid plan are valid, where names tell objects and schemas apart
abbrev pub ValidPlansGiveValidSteps : Type 0
ValidPlansGiveValidSteps =
    (lifted : Lifting) (plan : List Instance) → HasDistinctNames lifted → is_valid lifted plan ≡ true
    → verdict_of lifted (naming_steps lifted plan) ≡ Valid

-- the text of a valid plan, with comments behind it, is read as the plan's steps, and these are valid
pub record IsReadBack (lifted : Lifting) (plan : List Instance) (comments : List ℕ) : Type 0 where
  pub read : plan_of (steps_text (naming_steps lifted plan) ++ comments) ≡ Ok (naming_steps lifted plan)
  pub valid : verdict_of lifted (naming_steps lifted plan) ≡ Valid

abbrev pub ValidPlansAreReadBack : Type 0
ValidPlansAreReadBack =
    (lifted : Lifting) (plan : List Instance) (comments : List ℕ) → HasWords lifted → HasDistinctNames lifted
    → is_valid lifted plan ≡ true → AreComments comments → IsReadBack lifted plan comments

-- so it is of what is read and lifted from texts without a fault
abbrev pub PlansOfTextsAreReadBack : Type 0
PlansOfTextsAreReadBack =
    (domain_text problem_text : List ℕ) (domain : Domain) (problem : Problem) (lifted : Lifting) (plan : List Instance)
    (comments : List ℕ)
    → domain_of (trees_of (items_of domain_text)) ≡ read_fine domain
    → problem_of (trees_of (items_of problem_text)) ≡ read_fine problem
    → lifting_of domain problem ≡ lifted_fine lifted
    → is_valid lifted plan ≡ true → AreComments comments → IsReadBack lifted plan comments
