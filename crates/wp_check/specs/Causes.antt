-- Verdicts in the words of plans: which steps apply, which cause for which a step is bad is its first, and what a verdict says of
-- the steps before.
use Rattle.std.specs.Prelude.{ℕ, ◌≡◌, ◌≢◌, ◌↔◌, ◌+◌, ◌<◌, Bool, true, false, None, Some, List, [], ◌∷◌, ◌++◌, length, slice_index_or}
use Rattle.wp_lift.specs.declared.atoms.GroundAtom.{GroundAtom}
use Rattle.wp_lift.specs.Problem.{Lifting, Instance, schema_at, fits}
use Rattle.wp_lift.specs.Worlds.{among, after, holds, all_hold, is_instance}
use Rattle.wp_lift.specs.Names.{object_named, schema_named}
use Rattle.wp_check.specs.declared.step.Step.{Step}
use Rattle.wp_check.specs.declared.cause.Why.{Why}
use Rattle.wp_check.specs.declared.cause.Why.TheVariants.{UnknownAction, Arguments, UnknownObject, Misfit, Condition}
use Rattle.wp_check.specs.declared.cause.Verdict.TheVariants.{Bad, GoalUnmet}
use Rattle.wp_check.specs.Verdicts.{verdict_of}
use Rattle.wp_check.specs.Laws.{Names}

-- the first of a list that does not pass the test stands at the place
pub record IsFirstFalse {X : Type 0} (test : X → Bool) (xs : List X) (place : ℕ) : Type 0 where
  pub there : place < length xs
  pub fails : (d : X) → test (slice_index_or xs place d) ≡ false
  pub others : (q : ℕ) (d : X) → q < place → test (slice_index_or xs q d) ≡ true

-- the step names an instance that is applicable in the world
pub record Applies (lifted : Lifting) (world : GroundAtom → Bool) (step : Step) (named : Instance) : Type 0 where
  pub names : Names lifted step named
  pub instance_there : is_instance lifted named ≡ true
  pub conditions : all_hold lifted named world ≡ true

-- the word is the name of an object that fits the parameter at the place
abbrev pub IsFitting : Lifting → ℕ → ℕ → List ℕ → Type 0
IsFitting lifted schema place word = (object : ℕ) × (object_named lifted word ≡ Some object) × (fits lifted schema place object ≡ true)

-- the step has the name of a schema and an argument for each of its parameters, and those before the place name fitting objects
pub record FitsUpTo (lifted : Lifting) (step : Step) (schema place : ℕ) : Type 0 where
  pub named : schema_named lifted step.name ≡ Some schema
  pub counted : length step.args ≡ (schema_at lifted schema).arity
  pub there : place < length step.args
  pub before : (q : ℕ) → q < place → IsFitting lifted schema q (slice_index_or step.args q [])

-- the first cause for which the step is bad in the world: its name; the number of its arguments; the first argument that names no
-- object, or one of a wrong type; the first condition that does not hold
abbrev pub IsFirstCause : Lifting → (GroundAtom → Bool) → Step → Why → Type 0
IsFirstCause lifted world step UnknownAction = schema_named lifted step.name ≡ None
IsFirstCause lifted world step (Arguments given wanted) =
    (schema : ℕ) × (schema_named lifted step.name ≡ Some schema) × (given ≡ length step.args) × (wanted ≡ (schema_at lifted schema).arity)
    × (given ≢ wanted)
IsFirstCause lifted world step (UnknownObject place) =
    (schema : ℕ) × FitsUpTo lifted step schema place × (object_named lifted (slice_index_or step.args place []) ≡ None)
IsFirstCause lifted world step (Misfit place) =
    (schema : ℕ) × FitsUpTo lifted step schema place
    × ((object : ℕ) × (object_named lifted (slice_index_or step.args place []) ≡ Some object) × (fits lifted schema place object ≡ false))
IsFirstCause lifted world step (Condition place) =
    (named : Instance) × Names lifted step named × (is_instance lifted named ≡ true)
    × IsFirstFalse (holds named.args world) (schema_at lifted named.schema).conds place

-- from a world on the steps apply in turn, and the other world is the last
abbrev pub LeadTo : Lifting → (GroundAtom → Bool) → List Step → (GroundAtom → Bool) → Type 0
LeadTo lifted world [] last = world ≡ last
LeadTo lifted world (step ∷ steps) last = (named : Instance) × Applies lifted world step named × LeadTo lifted (after lifted named world) steps last

-- the steps before that of the number, from 1, apply in turn, and the cause is its first in the world after them
pub record IsFirstBad (lifted : Lifting) (steps : List Step) (number : ℕ) (why : Why) : Type 0 where
  pub front : List Step
  pub step : Step
  pub rest : List Step
  pub world : GroundAtom → Bool
  pub split : steps ≡ front ++ step ∷ rest
  pub numbered : number ≡ length front + 1
  pub leads : LeadTo lifted (among lifted.opening) front world
  pub cause : IsFirstCause lifted world step why

-- all steps apply in turn, and the goal atom at the place is the first that is not in the world after them
pub record IsFirstUnmet (lifted : Lifting) (steps : List Step) (place : ℕ) : Type 0 where
  pub world : GroundAtom → Bool
  pub leads : LeadTo lifted (among lifted.opening) steps world
  pub first : IsFirstFalse world lifted.goals place

abbrev pub VerdictsNameTheFirstCause : Type 0
VerdictsNameTheFirstCause =
    (lifted : Lifting) (steps : List Step) (number : ℕ) (why : Why) → (verdict_of lifted steps ≡ Bad number why) ↔ IsFirstBad lifted steps number why

abbrev pub VerdictsNameTheFirstGoal : Type 0
VerdictsNameTheFirstGoal =
    (lifted : Lifting) (steps : List Step) (place : ℕ) → (verdict_of lifted steps ≡ GoalUnmet place) ↔ IsFirstUnmet lifted steps place
