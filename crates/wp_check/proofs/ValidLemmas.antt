-- Steps without a fault name instances that apply, and such instances have no fault.
use Rattle.std.proofs.Common.{◌≡◌, ℕ, ◌+◌, ◌<◌, ◌==◌, ◌&&◌, not, Bool, true, false, cond, Option, None, Some, unwrap_or, List, [], ◌∷◌, length, map, refl, sym, ◌∙◌, ap, subst}
use Rattle.std.specs.Prelude.{option_map}
use Rattle.std.specs.List.{AllZip, list_all, position, position_from}
use Rattle.std.proofs.lemmas.Bool.{and_parts, and_from, lt-ltb, eqb-true, eq-eqb}
use Rattle.std.proofs.lemmas.List.{length-map}
use Rattle.std.proofs.lemmas.Iterator.Adapters.{position_from-zero}
use Rattle.std.proofs.lemmas.List.Quantifiers.{position-Some}
use Rattle.wp_lift.specs.declared.atoms.GroundAtom.{GroundAtom}
use Rattle.wp_lift.specs.declared.schemas.Schema.{Schema}
use Rattle.wp_lift.specs.Problem.{Lifting, Instance, schema_at, fits, all_fit}
use Rattle.wp_lift.specs.Worlds.{among, is_same_args, holds, all_hold, first_false, unmet_goal, after, is_instance, is_valid_from}
use Rattle.wp_lift.specs.Names.{object_named, schema_named}
use Rattle.wp_check.specs.declared.step.Step.{Step}
use Rattle.wp_check.specs.declared.cause.Why.{Why}
use Rattle.wp_check.specs.declared.cause.Why.TheVariants.{Arguments, Condition, Misfit}
use Rattle.wp_check.specs.declared.cause.Verdict.{Verdict}
use Rattle.wp_check.specs.declared.cause.Verdict.TheVariants.{Valid, Bad}
use Rattle.wp_check.specs.Verdicts.{instance_of, fault_of_object, or_else, fault_of_args, fault_of_instance, if_counted, fault_of_schema, fault_of_step, verdict_at_end, verdict_from, verdict_of}
use Rattle.wp_check.specs.Laws.{Names, ValidStepsNameValidPlans}
use Rattle.wp_check.specs.Causes.{Applies}

-- ---- the first that fails
all_from : {X : Type 0} (p : X → Bool) (n : ℕ) (xs : List X) → position_from (λ x. not (p x)) n xs ≡ None → list_all p xs ≡ true
all_from p n [] e = refl
all_from p n (x ∷ xs) e =
    elim (p x) as (λ t. cond (not t) (Some n) (position_from (λ x. not (p x)) (n + 1) xs) ≡ None → (t && list_all p xs) ≡ true) [
      | true ↦ λ e. all_from p (n + 1) xs e
      | false ↦ λ e. cc
    ] e

none_from : {X : Type 0} (p : X → Bool) (n : ℕ) (xs : List X) → list_all p xs ≡ true → position_from (λ x. not (p x)) n xs ≡ None
none_from p n [] e = refl
none_from p n (x ∷ xs) e =
    elim (p x) as (λ t. (t && list_all p xs) ≡ true → cond (not t) (Some n) (position_from (λ x. not (p x)) (n + 1) xs) ≡ None) [
      | true ↦ λ e. none_from p (n + 1) xs e
      | false ↦ λ e. cc
    ] e

pub all_pass : {X : Type 0} (p : X → Bool) (xs : List X) → position (λ x. not (p x)) xs ≡ None → list_all p xs ≡ true
all_pass p xs e = all_from p 0 xs (sym (position_from-zero (λ x. not (p x)) xs) ∙ e)

pub none_fails : {X : Type 0} (p : X → Bool) (xs : List X) → list_all p xs ≡ true → position (λ x. not (p x)) xs ≡ None
none_fails p xs e = position_from-zero (λ x. not (p x)) xs ∙ none_from p 0 xs e

-- ---- arguments
pub or_none : (first other : Option Why) → or_else first other ≡ None → (first ≡ None) × (other ≡ None)
or_none None other e = (refl, e)
or_none (Some why) other e = cc

pub object_there : (lifted : Lifting) (schema place : ℕ) (found : Option ℕ) → fault_of_object lifted schema place found ≡ None
    → (found ≡ Some (unwrap_or found 0)) × (fits lifted schema place (unwrap_or found 0) ≡ true)
object_there lifted schema place None e = cc
object_there lifted schema place (Some object) e = (
  refl,
  elim (fits lifted schema place object) as (λ t. (elim t as (λ _. Option Why) [ true ↦ None | false ↦ Some (Misfit place) ]) ≡ None → t ≡ true) [
    | true ↦ λ e. refl
    | false ↦ λ e. cc
  ] e,
)

pub object_fits : (lifted : Lifting) (schema place object : ℕ) → fits lifted schema place object ≡ true → fault_of_object lifted schema place (Some object) ≡ None
object_fits lifted schema place object e =
    ap (λ (t : Bool). elim t as (λ _. Option Why) [ true ↦ None | false ↦ Some (Misfit place) ]) e

abbrev objects_of : Lifting → List (List ℕ) → List ℕ
objects_of lifted words = map (λ (word : List ℕ). unwrap_or (object_named lifted word) 0) words

args_there : (lifted : Lifting) (schema place : ℕ) (words : List (List ℕ)) → fault_of_args lifted schema place words ≡ None
    → (map (object_named lifted) words ≡ map Some (objects_of lifted words)) × (all_fit lifted schema place (objects_of lifted words) ≡ true)
args_there lifted schema place [] e = (refl, refl)
args_there lifted schema place (word ∷ words) e =
    let faults = or_none (fault_of_object lifted schema place (object_named lifted word)) (fault_of_args lifted schema (place + 1) words) e in
    let here = object_there lifted schema place (object_named lifted word) faults.0 in
    let rest = args_there lifted schema (place + 1) words faults.1 in
    ((λ i. here.0 i ∷ rest.0 i), and_from (fits lifted schema place (unwrap_or (object_named lifted word) 0)) (all_fit lifted schema (place + 1) (objects_of lifted words)) here.1 rest.1)

head_of : (xs : List (Option ℕ)) → Option ℕ
head_of [] = None
head_of (x ∷ xs) = x

tail_of : (xs : List (Option ℕ)) → List (Option ℕ)
tail_of [] = []
tail_of (x ∷ xs) = xs

pub args_fit : (lifted : Lifting) (schema place : ℕ) (words : List (List ℕ)) (args : List ℕ) → map (object_named lifted) words ≡ map Some args
    → all_fit lifted schema place args ≡ true → (fault_of_args lifted schema place words ≡ None) × (objects_of lifted words ≡ args)
unfolding head_of tail_of
args_fit lifted schema place [] [] e h = (refl, refl)
args_fit lifted schema place [] (object ∷ args) e h = cc
args_fit lifted schema place (word ∷ words) [] e h = cc
args_fit lifted schema place (word ∷ words) (object ∷ args) e h =
    let named : object_named lifted word ≡ Some object = ap head_of e in
    let parts = and_parts (fits lifted schema place object) (all_fit lifted schema (place + 1) args) h in
    let rest = args_fit lifted schema (place + 1) words args (ap tail_of e) parts.1 in (
      ap (λ (found : Option ℕ). or_else (fault_of_object lifted schema place found) (fault_of_args lifted schema (place + 1) words)) named
          ∙ ap (λ (fault : Option Why). or_else fault (fault_of_args lifted schema (place + 1) words)) (object_fits lifted schema place object parts.0)
          ∙ rest.0,
      λ i. unwrap_or (named i) 0 ∷ rest.1 i,
    )

-- ---- a step
counted_none : (b : Bool) (fault : Option Why) (why : Why) → if_counted b fault (Some why) ≡ None → (b ≡ true) × (fault ≡ None)
counted_none true fault why e = (refl, e)
counted_none false fault why e = cc

no_condition : (found : Option ℕ) → option_map Condition found ≡ None → found ≡ None
no_condition None e = refl
no_condition (Some place) e = cc

schema_there : (lifted : Lifting) (name : List ℕ) (schema : ℕ) → schema_named lifted name ≡ Some schema → schema < length lifted.schemas
schema_there lifted name schema e =
    let name_of = λ (schema : Schema). schema.name in
    let names = map name_of lifted.schemas in
    subst (λ n. schema < n) (length-map lifted.schemas name_of) (position-Some (is_same_args name) names schema [] e).0

-- a name, a number of arguments and arguments with which nothing is wrong
pub named_by : (lifted : Lifting) (step : Step) (schema : ℕ) → schema_named lifted step.name ≡ Some schema → (length step.args == (schema_at lifted schema).arity) ≡ true
    → fault_of_args lifted schema 0 step.args ≡ None
    → Names lifted step (instance_of lifted step) × (is_instance lifted (instance_of lifted step) ≡ true)
named_by lifted step schema s counted fine =
    let arity = (schema_at lifted schema).arity in
    let args = objects_of lifted step.args in
    let named : Instance = record { schema = schema; args = args } in
    let same : named ≡ instance_of lifted step = λ i. record { schema = unwrap_or (sym s i) 0; args = args } in
    let objects = args_there lifted schema 0 step.args fine in
    let count : length args ≡ arity = length-map step.args (λ (word : List ℕ). unwrap_or (object_named lifted word) 0) ∙ eqb-true (length step.args) arity counted in
    let there : is_instance lifted named ≡ true =
    and_from _ _ (lt-ltb schema (length lifted.schemas) (schema_there lifted step.name schema s))
    (and_from _ _ (eq-eqb (length args) arity count) objects.1) in (
      record { schema = s ∙ ap (λ (one : Instance). Some one.schema) same; objects = objects.0 },
      ap (is_instance lifted) (sym same) ∙ there,
    )

pub applies_by : (lifted : Lifting) (world : GroundAtom → Bool) (step : Step) (found : Option ℕ) → schema_named lifted step.name ≡ found
    → fault_of_schema lifted world found step ≡ None → Applies lifted world step (instance_of lifted step)
applies_by lifted world step None s e = cc
applies_by lifted world step (Some schema) s e =
    let arity = (schema_at lifted schema).arity in
    let counted = counted_none (length step.args == arity) (fault_of_instance lifted world schema step) (Arguments (length step.args) arity) e in
    let faults = or_none (fault_of_args lifted schema 0 step.args) (option_map Condition (first_false lifted (instance_of lifted step) world)) counted.1 in
    let named = named_by lifted step schema s counted.0 faults.0 in
    record {
      names = named.0;
      instance_there = named.1;
      conditions = all_pass (holds (objects_of lifted step.args) world) (schema_at lifted (instance_of lifted step).schema).conds (no_condition _ faults.1);
    }

pub no_fault : (lifted : Lifting) (world : GroundAtom → Bool) (step : Step) (named : Instance) → Applies lifted world step named
    → (fault_of_step lifted world step ≡ None) × (instance_of lifted step ≡ named)
no_fault lifted world step named h =
    let schema = named.schema in
    let arity = (schema_at lifted schema).arity in
    let there = and_parts _ _ h.instance_there in
    let counted = and_parts (length named.args == arity) (all_fit lifted schema 0 named.args) there.1 in
    let objects = args_fit lifted schema 0 step.args named.args h.names.objects counted.1 in
    let same : instance_of lifted step ≡ named = λ i. record { schema = unwrap_or (h.names.schema i) 0; args = objects.1 i } in
    let count : length step.args ≡ arity =
    sym (length-map step.args (λ (word : List ℕ). unwrap_or (object_named lifted word) 0)) ∙ ap length objects.1 ∙ eqb-true (length named.args) arity counted.0 in
    let holding : first_false lifted (instance_of lifted step) world ≡ None =
    ap (λ (one : Instance). first_false lifted one world) same ∙ none_fails (holds named.args world) (schema_at lifted schema).conds h.conditions in (
      ap (λ (found : Option ℕ). fault_of_schema lifted world found step) h.names.schema
          ∙ ap (λ (b : Bool). if_counted b (fault_of_instance lifted world schema step) (Some (Arguments (length step.args) arity))) (eq-eqb (length step.args) arity count)
          ∙ ap (λ (fault : Option Why). or_else fault (option_map Condition (first_false lifted (instance_of lifted step) world))) objects.0
          ∙ ap (option_map Condition) holding,
      same,
    )

-- ---- all steps
NamesValid : Lifting → (GroundAtom → Bool) → List Step → Type 0
NamesValid lifted world steps = (plan : List Instance) × AllZip (Names lifted) steps plan × (is_valid_from lifted world plan ≡ true)

end_none : (found : Option ℕ) → verdict_at_end found ≡ Valid → found ≡ None
end_none None e = refl
end_none (Some place) e = cc

goes_on : (fault : Option Why) (number : ℕ) (rest : Verdict) → (elim fault as (λ _. Verdict) [ Some why ↦ Bad number why | None ↦ rest ]) ≡ Valid
    → (fault ≡ None) × (rest ≡ Valid)
goes_on None number rest e = (refl, e)
goes_on (Some why) number rest e = cc

valid_names : (lifted : Lifting) (world : GroundAtom → Bool) (number : ℕ) (steps : List Step) → verdict_from lifted world number steps ≡ Valid
    → NamesValid lifted world steps
unfolding NamesValid
valid_names lifted world number [] e = ([], tt, all_pass world lifted.goals (end_none (unmet_goal lifted world) e))
valid_names lifted world number (step ∷ steps) e =
    let named = instance_of lifted step in
    let goes = goes_on (fault_of_step lifted world step) number (verdict_from lifted (after lifted named world) (number + 1) steps) e in
    let here = applies_by lifted world step (schema_named lifted step.name) refl goes.0 in
    let rest = valid_names lifted (after lifted named world) (number + 1) steps goes.1 in (
      named ∷ rest.0,
      (here.names, rest.1),
      and_from (is_instance lifted named) (all_hold lifted named world && is_valid_from lifted (after lifted named world) rest.0) here.instance_there
          (and_from (all_hold lifted named world) (is_valid_from lifted (after lifted named world) rest.0) here.conditions rest.2),
    )

names_valid : (lifted : Lifting) (world : GroundAtom → Bool) (number : ℕ) (steps : List Step) (plan : List Instance) → AllZip (Names lifted) steps plan
    → is_valid_from lifted world plan ≡ true → verdict_from lifted world number steps ≡ Valid
names_valid lifted world number [] [] h e = ap verdict_at_end (none_fails world lifted.goals e)
names_valid lifted world number [] (named ∷ plan) h e = absurd h
names_valid lifted world number (step ∷ steps) [] h e = absurd h
names_valid lifted world number (step ∷ steps) (named ∷ plan) h e =
    let there = and_parts (is_instance lifted named) (all_hold lifted named world && is_valid_from lifted (after lifted named world) plan) e in
    let held = and_parts (all_hold lifted named world) (is_valid_from lifted (after lifted named world) plan) there.1 in
    let fine = no_fault lifted world step named (record { names = h.0; instance_there = there.0; conditions = held.0 }) in
    ap (λ (fault : Option Why). elim fault as (λ _. Verdict) [
      | Some why ↦ Bad number why
      | None ↦ verdict_from lifted (after lifted (instance_of lifted step) world) (number + 1) steps
    ]) fine.0
    ∙ ap (λ (one : Instance). verdict_from lifted (after lifted one world) (number + 1) steps) fine.1
    ∙ names_valid lifted (after lifted named world) (number + 1) steps plan h.1 held.1

pub valid_steps : ValidStepsNameValidPlans
unfolding verdict_of NamesValid
valid_steps lifted steps = (
  valid_names lifted (among lifted.opening) 1 steps,
  λ named. names_valid lifted (among lifted.opening) 1 steps named.0 named.1 named.2,
)
