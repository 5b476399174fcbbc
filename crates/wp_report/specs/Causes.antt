-- What a verdict names is there: the step, and its argument or the condition that the cause is about.
use Rattle.std.specs.Prelude.{ℕ, ◌-◌, ◌<◌, ◌≤◌, List, length}
use Rattle.wp_lift.specs.Problem.{Lifting, schema_at}
use Rattle.wp_check.specs.declared.step.Step.{Step}
use Rattle.wp_check.specs.declared.cause.Why.{Why}
use Rattle.wp_check.specs.declared.cause.Why.TheVariants.{UnknownAction, Arguments, UnknownObject, Misfit, Condition}
use Rattle.wp_check.specs.Verdicts.{instance_of}
use Rattle.wp_report.specs.Verdicts.{step_at}

abbrev pub IsAbout : Lifting → Step → Why → Type 0
IsAbout lifted step UnknownAction = Unit {0}
IsAbout lifted step (Arguments given wanted) = Unit {0}
IsAbout lifted step (UnknownObject place) = place < length step.args
IsAbout lifted step (Misfit place) = place < length step.args
IsAbout lifted step (Condition place) = place < length (schema_at lifted (instance_of lifted step).schema).conds

pub record IsBadStep (lifted : Lifting) (steps : List Step) (number : ℕ) (why : Why) : Type 0 where
  pub from_one : 1 ≤ number
  pub within : number ≤ length steps
  pub about : IsAbout lifted (step_at steps (number - 1)) why
