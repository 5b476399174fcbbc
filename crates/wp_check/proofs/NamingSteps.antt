-- Steps made of the names of instances name these instances.
use Rattle.std.proofs.Common.{◌≡◌, ℕ, ◌+◌, ◌<◌, ◌==◌, ◌&&◌, not, Bool, true, cond, None, Some, List, [], ◌∷◌, length, map, get_or, ltb, refl, sym, ◌∙◌, ap, arith, inl, inr}
use Rattle.std.specs.Prelude.{All}
use Rattle.std.specs.List.{AllZip, AllByRecursion, IsDistinct, list_any, position_or_len}
use Rattle.std.proofs.lemmas.Bool.{and_parts, cases_lt, lt-ltb, ltb-true, false≢true}
use Rattle.std.proofs.lemmas.Cmp.{nat_list_eq_equiv}
use Rattle.std.proofs.lemmas.List.{length-map, get_or-map}
use Rattle.std.proofs.lemmas.List.Elements.{All-nil, All-cons, All-get_or}
use Rattle.std.proofs.lemmas.List.Sums.{prefix_len_is}
use Rattle.std.proofs.lemmas.Map.Keys.{apart_from_distinct}
use Rattle.std.proofs.Math.ListN.{get_or-eq_default}
use Rattle.wp_lex.specs.Words.{IsWord}
use Rattle.wp_lift.specs.declared.atoms.GroundAtom.{GroundAtom}
use Rattle.wp_lift.specs.declared.schemas.Schema.{Schema}
use Rattle.wp_lift.specs.Problem.{Lifting, Instance, schema_at, is_subtype, wanted_at, fits, all_fit}
use Rattle.wp_lift.specs.Worlds.{is_same_args, after, all_hold, among, is_instance, is_valid, is_valid_from}
use Rattle.wp_lift.specs.Names.{number_of, object_named, schema_named}
use Rattle.wp_lift.specs.Named.{HasWords, HasDistinctNames}
use Rattle.wp_check.specs.declared.cause.Verdict.TheVariants.{Valid}
use Rattle.wp_check.specs.PlanText.{IsOfWords}
use Rattle.wp_check.specs.Laws.{Names, ValidStepsNameValidPlans}
use Rattle.wp_check.specs.Printed.{naming_step, naming_steps}
use Rattle.wp_check.specs.Verdicts.{verdict_of}

-- a name of distinct ones has the number of its place
number_of-at : (names : List (List ℕ)) (i : ℕ) → IsDistinct is_same_args names → i < length names
    → number_of (get_or names i []) names ≡ Some i
number_of-at names i distinct h =
    let name : List ℕ = get_or names i [] in
    let place : position_or_len (is_same_args name) names ≡ i =
    prefix_len_is (λ other. not (is_same_args name other)) names i [] (omega arith)
    (λ k lt. ap not (nat_list_eq_equiv.symm name (get_or names k []) ∙ apart_from_distinct is_same_args names k i [] distinct lt h))
    (λ lt. ap not (nat_list_eq_equiv.refl name)) in
    (λ j. cond (ltb (place j) (length names)) (Some (place j)) None)
    ∙ ap (λ (b : Bool). cond b (Some i) None) (lt-ltb i (length names) h)

-- an object that fits has types
fits-known : (lifted : Lifting) (schema place object : ℕ) → fits lifted schema place object ≡ true → object < length lifted.kinds
fits-known lifted schema place object h =
    elim (cases_lt object (length lifted.kinds)) [
      | inl lt ↦ lt
      | inr ge ↦
          let none : get_or lifted.kinds object [] ≡ [] = get_or-eq_default lifted.kinds [] ge in
          absurd (false≢true (sym (ap (λ (kinds : List ℕ). list_any (λ kind. list_any (λ above. is_subtype lifted kind above) (wanted_at lifted schema place)) kinds) none) ∙ h))
    ]

all_fit-known : (lifted : Lifting) (schema place : ℕ) (args : List ℕ) → all_fit lifted schema place args ≡ true
    → AllByRecursion (λ object. object < length lifted.kinds) args
all_fit-known lifted schema place [] h = tt
all_fit-known lifted schema place (object ∷ args) h =
    let parts = and_parts (fits lifted schema place object) (all_fit lifted schema (place + 1) args) h in
    (fits-known lifted schema place object parts.0, all_fit-known lifted schema (place + 1) args parts.1)

-- what an instance names is there
record IsThere (lifted : Lifting) (one : Instance) : Type 0 where
  schema : one.schema < length lifted.schemas
  objects : AllByRecursion (λ object. object < length lifted.kinds) one.args

instance-there : (lifted : Lifting) (one : Instance) → is_instance lifted one ≡ true → IsThere lifted one
instance-there lifted one h =
    let parts = and_parts (ltb one.schema (length lifted.schemas)) _ h in
    let counted = and_parts (length one.args == (schema_at lifted one.schema).arity) (all_fit lifted one.schema 0 one.args) parts.1 in
    record {
      schema = ltb-true one.schema (length lifted.schemas) parts.0;
      objects = all_fit-known lifted one.schema 0 one.args counted.1;
    }

abbrev name_of : Schema → List ℕ
name_of schema = schema.name

abbrev object_name : Lifting → ℕ → List ℕ
object_name lifted object = get_or lifted.objects object []

schema-named : (lifted : Lifting) (schema : ℕ) → HasDistinctNames lifted → schema < length lifted.schemas
    → schema_named lifted (schema_at lifted schema).name ≡ Some schema
schema-named lifted schema names h =
    let count : length (map name_of lifted.schemas) ≡ length lifted.schemas = length-map lifted.schemas name_of in
    let lt : schema < length (map name_of lifted.schemas) = omega arith in
    ap (λ (name : List ℕ). number_of name (map name_of lifted.schemas))
    (sym (get_or-map name_of lifted.schemas schema (let none : Schema = record { name = []; arity = 0; conds = []; effects = [] } in none) [] h))
    ∙ number_of-at (map name_of lifted.schemas) schema names.schemas lt

objects-named : (lifted : Lifting) (args : List ℕ) → HasDistinctNames lifted
    → AllByRecursion (λ object. object < length lifted.kinds) args
    → map (object_named lifted) (map (object_name lifted) args) ≡ map Some args
objects-named lifted [] names all = refl
objects-named lifted (object ∷ args) names (lt, all) =
    let typed = names.typed in
    let there : object < length lifted.objects = omega arith in
    λ j. number_of-at lifted.objects object names.objects there j ∷ objects-named lifted args names all j

step-names : (lifted : Lifting) (one : Instance) → HasDistinctNames lifted → is_instance lifted one ≡ true
    → Names lifted (naming_step lifted one) one
step-names lifted one names h =
    let there = instance-there lifted one h in record {
      schema = schema-named lifted one.schema names there.schema;
      objects = objects-named lifted one.args names there.objects;
    }

-- a step of a valid plan is an instance, and the rest is a valid plan
first-valid : (lifted : Lifting) (world : GroundAtom → Bool) (one : Instance) (plan : List Instance)
    → is_valid_from lifted world (one ∷ plan) ≡ true
    → (is_instance lifted one ≡ true) × (is_valid_from lifted (after lifted one world) plan ≡ true)
first-valid lifted world one plan h =
    let parts = and_parts (is_instance lifted one) (all_hold lifted one world && is_valid_from lifted (after lifted one world) plan) h in
    (parts.0, (and_parts (all_hold lifted one world) (is_valid_from lifted (after lifted one world) plan) parts.1).1)

steps-name : (lifted : Lifting) (world : GroundAtom → Bool) (plan : List Instance) → HasDistinctNames lifted
    → is_valid_from lifted world plan ≡ true → AllZip (Names lifted) (naming_steps lifted plan) plan
steps-name lifted world [] names h = tt
steps-name lifted world (one ∷ plan) names h =
    let first = first-valid lifted world one plan h in
    (step-names lifted one names first.0, steps-name lifted (after lifted one world) plan names first.1)

pub valid_plans : ValidStepsNameValidPlans → (lifted : Lifting) (plan : List Instance) → HasDistinctNames lifted
    → is_valid lifted plan ≡ true → verdict_of lifted (naming_steps lifted plan) ≡ Valid
valid_plans law lifted plan names h =
    (law lifted (naming_steps lifted plan)).1 (plan, steps-name lifted (among lifted.opening) plan names h, h)

-- ---- the words of such steps
args-words : (lifted : Lifting) (args : List ℕ) → HasWords lifted → HasDistinctNames lifted
    → AllByRecursion (λ object. object < length lifted.kinds) args → All IsWord (map (object_name lifted) args)
args-words lifted [] words names all = All-nil IsWord
args-words lifted (object ∷ args) words names (lt, all) =
    let typed = names.typed in
    let there : object < length lifted.objects = omega arith in
    All-cons IsWord (object_name lifted object) (map (object_name lifted) args)
    (All-get_or IsWord lifted.objects object [] there words.objects) (args-words lifted args words names all)

step-words : (lifted : Lifting) (one : Instance) → HasWords lifted → HasDistinctNames lifted → is_instance lifted one ≡ true
    → IsOfWords (naming_step lifted one)
step-words lifted one words names h =
    let there = instance-there lifted one h in record {
      name =
          All-get_or (λ (schema : Schema). IsWord schema.name) lifted.schemas one.schema
          (record { name = []; arity = 0; conds = []; effects = [] }) there.schema words.schemas;
      args = args-words lifted one.args words names there.objects;
    }

pub steps-words : (lifted : Lifting) (world : GroundAtom → Bool) (plan : List Instance) → HasWords lifted → HasDistinctNames lifted
    → is_valid_from lifted world plan ≡ true → All IsOfWords (naming_steps lifted plan)
steps-words lifted world [] words names h = All-nil IsOfWords
steps-words lifted world (one ∷ plan) words names h =
    let first = first-valid lifted world one plan h in
    All-cons IsOfWords (naming_step lifted one) (naming_steps lifted plan) (step-words lifted one words names first.0)
    (steps-words lifted (after lifted one world) plan words names first.1)
