-- What a verdict names is there.
use Rattle.std.proofs.Common.{◌≡◌, ℕ, suc, ◌+◌, ◌-◌, ◌<◌, ◌≤◌, ◌==◌, not, Bool, true, false, ◌⊎◌, Option, None, Some, List, [], ◌∷◌, length, refl, ◌∙◌, ap, subst, inl, inr, ⊎_elim, zero-add, arith}
use Rattle.std.specs.Prelude.{option_map}
use Rattle.std.proofs.lemmas.Bool.{cases_lt}
use Rattle.std.proofs.lemmas.List.{get_or_past}
use Rattle.std.proofs.lemmas.List.Quantifiers.{position-Some}
use Rattle.wp_lift.specs.declared.atoms.GroundAtom.{GroundAtom}
use Rattle.wp_lift.specs.declared.schemas.Schema.{Schema}
use Rattle.wp_lift.specs.declared.schemas.SlotCond.{SlotCond}
use Rattle.wp_lift.specs.declared.schemas.SlotCond.TheVariants.{Atom}
use Rattle.wp_lift.specs.Problem.{Lifting, schema_at, fits}
use Rattle.wp_lift.specs.Worlds.{among, holds, first_false, unmet_goal, after}
use Rattle.wp_lift.specs.Names.{object_named, schema_named}
use Rattle.wp_check.specs.declared.step.Step.{Step}
use Rattle.wp_check.specs.declared.cause.Why.{Why}
use Rattle.wp_check.specs.declared.cause.Why.TheVariants.{UnknownAction, Arguments, UnknownObject, Misfit, Condition}
use Rattle.wp_check.specs.declared.cause.Verdict.{Verdict}
use Rattle.wp_check.specs.declared.cause.Verdict.TheVariants.{Bad, GoalUnmet}
use Rattle.wp_check.specs.Verdicts.{instance_of, fault_of_object, or_else, fault_of_args, fault_of_instance, if_counted, fault_of_schema, fault_of_step, verdict_at_end, verdict_from, verdict_of}
use Rattle.wp_report.specs.Verdicts.{step_at}
use Rattle.wp_report.specs.Causes.{IsAbout, IsBadStep}

-- ---- arguments
-- the cause is about an argument at a place below this one
abbrev IsArgBelow : ℕ → Why → Type 0
IsArgBelow end UnknownAction = ⊥
IsArgBelow end (Arguments given wanted) = ⊥
IsArgBelow end (UnknownObject place) = place < end
IsArgBelow end (Misfit place) = place < end
IsArgBelow end (Condition place) = ⊥

misfit_below : (fit : Bool) (place end : ℕ) (why : Why) → place < end
    → (elim fit as (λ _. Option Why) [ true ↦ None | false ↦ Some (Misfit place) ]) ≡ Some why → IsArgBelow end why
misfit_below true place end why below e = cc
misfit_below false place end why below e = let same : Misfit place ≡ why = cc in subst (λ (w : Why). IsArgBelow end w) same below

object_below : (lifted : Lifting) (schema place end : ℕ) (found : Option ℕ) (why : Why) → place < end
    → fault_of_object lifted schema place found ≡ Some why → IsArgBelow end why
object_below lifted schema place end None why below e =
    let same : UnknownObject place ≡ why = cc in subst (λ (w : Why). IsArgBelow end w) same below
object_below lifted schema place end (Some object) why below e = misfit_below (fits lifted schema place object) place end why below e

either : (first other : Option Why) (why : Why) → or_else first other ≡ Some why → (first ≡ Some why) ⊎ (other ≡ Some why)
either None other why e = inr e
either (Some one) other why e = inl e

args_below : (lifted : Lifting) (schema place : ℕ) (words : List (List ℕ)) (why : Why)
    → fault_of_args lifted schema place words ≡ Some why → IsArgBelow (place + length words) why
args_below lifted schema place [] why e = cc
args_below lifted schema place (word ∷ words) why e =
    let end = place + length (word ∷ words) in
    let here : place < end = omega arith in
    let next : place + 1 + length words ≡ end = omega arith in
    ⊎_elim
    (λ (first : fault_of_object lifted schema place (object_named lifted word) ≡ Some why).
    object_below lifted schema place end (object_named lifted word) why here first)
    (λ (later : fault_of_args lifted schema (place + 1) words ≡ Some why).
    subst (λ (n : ℕ). IsArgBelow n why) next (args_below lifted schema (place + 1) words why later))
    (either (fault_of_object lifted schema place (object_named lifted word)) (fault_of_args lifted schema (place + 1) words) why e)

-- ---- a step
about_arg : (lifted : Lifting) (step : Step) (why : Why) → IsArgBelow (length step.args) why → IsAbout lifted step why
about_arg lifted step UnknownAction below = tt
about_arg lifted step (Arguments given wanted) below = tt
about_arg lifted step (UnknownObject place) below = below
about_arg lifted step (Misfit place) below = below
about_arg lifted step (Condition place) below = absurd below

at_condition : (found : Option ℕ) (why : Why) → option_map Condition found ≡ Some why → (place : ℕ) × (found ≡ Some place) × (Condition place ≡ why)
at_condition None why e = cc
at_condition (Some place) why e = let same : Condition place ≡ why = cc in (place, refl, same)

about_condition : (lifted : Lifting) (world : GroundAtom → Bool) (step : Step) (why : Why)
    → option_map Condition (first_false lifted (instance_of lifted step) world) ≡ Some why → IsAbout lifted step why
about_condition lifted world step why e =
    let at = at_condition (first_false lifted (instance_of lifted step) world) why e in
    let test = λ (cond : SlotCond). not (holds (instance_of lifted step).args world cond) in
    let there = position-Some test (schema_at lifted (instance_of lifted step).schema).conds at.0 (Atom (record { pred = 0; slots = [] })) at.1 in
    subst (λ (w : Why). IsAbout lifted step w) at.2 there.0

about_instance : (lifted : Lifting) (world : GroundAtom → Bool) (schema : ℕ) (step : Step) (why : Why)
    → fault_of_instance lifted world schema step ≡ Some why → IsAbout lifted step why
about_instance lifted world schema step why e =
    let condition = option_map Condition (first_false lifted (instance_of lifted step) world) in
    ⊎_elim
    (λ (args : fault_of_args lifted schema 0 step.args ≡ Some why).
    about_arg lifted step why (subst (λ (n : ℕ). IsArgBelow n why) (zero-add (length step.args)) (args_below lifted schema 0 step.args why args)))
    (λ (unmet : condition ≡ Some why). about_condition lifted world step why unmet)
    (either (fault_of_args lifted schema 0 step.args) condition why e)

counted : (equal : Bool) (fault other : Option Why) (why : Why) → if_counted equal fault other ≡ Some why
    → (fault ≡ Some why) ⊎ (other ≡ Some why)
counted true fault other why e = inl e
counted false fault other why e = inr e

about_schema : (lifted : Lifting) (world : GroundAtom → Bool) (found : Option ℕ) (step : Step) (why : Why)
    → fault_of_schema lifted world found step ≡ Some why → IsAbout lifted step why
about_schema lifted world None step why e =
    let same : UnknownAction ≡ why = cc in subst (λ (w : Why). IsAbout lifted step w) same tt
about_schema lifted world (Some schema) step why e =
    let arity = (schema_at lifted schema).arity in
    let miscounted = Arguments (length step.args) arity in
    ⊎_elim
    (λ (fault : fault_of_instance lifted world schema step ≡ Some why). about_instance lifted world schema step why fault)
    (λ (other : Some miscounted ≡ Some why).
    let same : miscounted ≡ why = cc in subst (λ (w : Why). IsAbout lifted step w) same tt)
    (counted (length step.args == arity) (fault_of_instance lifted world schema step) (Some miscounted) why e)

-- ---- the steps
-- counted from a number on, the step of number n is there
record IsBadFrom (lifted : Lifting) (steps : List Step) (number n : ℕ) (why : Why) : Type 0 where
  place : ℕ
  counts : n ≡ number + place
  within : place < length steps
  about : IsAbout lifted (step_at steps place) why

not_at_end : (found : Option ℕ) (n : ℕ) (why : Why) → verdict_at_end found ≡ Bad n why → ⊥
not_at_end None n why e = cc
not_at_end (Some place) n why e = cc

bad_from : (lifted : Lifting) (world : GroundAtom → Bool) (number : ℕ) (steps : List Step) (n : ℕ) (why : Why)
    → verdict_from lifted world number steps ≡ Bad n why → IsBadFrom lifted steps number n why
bad_from lifted world number [] n why e = absurd (not_at_end (unmet_goal lifted world) n why e)
bad_from lifted world number (step ∷ steps) n why e =
    elim (fault_of_step lifted world step) as (λ (fault : Option Why).
    fault_of_step lifted world step ≡ fault
    → (elim fault as (λ _. Verdict) [ Some one ↦ Bad number one | None ↦ verdict_from lifted (after lifted (instance_of lifted step) world) (number + 1) steps ]) ≡ Bad n why
    → IsBadFrom lifted (step ∷ steps) number n why) [
      | Some one ↦ λ is e.
          let same_number : number ≡ n = cc in
          let same : one ≡ why = cc in record {
            place = 0;
            counts = omega arith;
            within = omega arith;
            about = about_schema lifted world (schema_named lifted step.name) step why (is ∙ ap Some same);
          }
      | None ↦ λ is e.
          let later = bad_from lifted (after lifted (instance_of lifted step) world) (number + 1) steps n why e in record {
            place = suc later.place;
            counts = omega arith;
            within = omega arith;
            about = later.about;
          }
    ] refl e

pub bad_there : (lifted : Lifting) (steps : List Step) (number : ℕ) (why : Why) → verdict_of lifted steps ≡ Bad number why
    → IsBadStep lifted steps number why
unfolding verdict_of
bad_there lifted steps number why e =
    let at = bad_from lifted (among lifted.opening) 1 steps number why e in
    let place : at.place ≡ number - 1 = omega arith in record {
      from_one = omega arith;
      within = omega arith;
      about = subst (λ (k : ℕ). IsAbout lifted (step_at steps k) why) place at.about;
    }

-- ---- the goal
unmet : (found : Option ℕ) (place : ℕ) → verdict_at_end found ≡ GoalUnmet place → found ≡ Some place
unmet None place e = cc
unmet (Some one) place e = let same : one ≡ place = cc in ap Some same

goal_from : (lifted : Lifting) (world : GroundAtom → Bool) (number : ℕ) (steps : List Step) (place : ℕ)
    → verdict_from lifted world number steps ≡ GoalUnmet place → place < length lifted.goals
goal_from lifted world number [] place e =
    let none : GroundAtom = record { pred = 0; args = [] } in
    (position-Some (λ (goal : GroundAtom). not (world goal)) lifted.goals place none (unmet (unmet_goal lifted world) place e)).0
goal_from lifted world number (step ∷ steps) place e =
    elim (fault_of_step lifted world step) as (λ (fault : Option Why).
    (elim fault as (λ _. Verdict) [ Some one ↦ Bad number one | None ↦ verdict_from lifted (after lifted (instance_of lifted step) world) (number + 1) steps ]) ≡ GoalUnmet place
    → place < length lifted.goals) [
      | Some one ↦ λ e. cc
      | None ↦ λ e. goal_from lifted (after lifted (instance_of lifted step) world) (number + 1) steps place e
    ] e

pub goal_there : (lifted : Lifting) (steps : List Step) (place : ℕ) → verdict_of lifted steps ≡ GoalUnmet place
    → place < length lifted.goals
unfolding verdict_of
goal_there lifted steps place e = goal_from lifted (among lifted.opening) 1 steps place e

-- ---- the conditions
-- a schema with a condition is there
pub schema_there : (lifted : Lifting) (s place : ℕ) → place < length (schema_at lifted s).conds → s < length lifted.schemas
schema_there lifted s place within =
    ⊎_elim
    (λ (there : s < length lifted.schemas). there)
    (λ (past : length lifted.schemas ≤ s).
    let none : Schema = record { name = []; arity = 0; conds = []; effects = [] } in
    let same : length (schema_at lifted s).conds ≡ 0 = ap (λ (one : Schema). length one.conds) (get_or_past lifted.schemas s none past) in
    absurd (omega arith))
    (cases_lt s (length lifted.schemas))
