-- The numbers of types in a lifted problem are those of types.
use Rattle.std.proofs.Common.{ℕ, ◌<◌, ◌≤◌, Bool, true, false, List, [], ◌∷◌, ◌++◌, length, map, get_or, Option, None, Some, is_none, sym, subst, arith, length-append, codes, ⊎_elim, if◌then◌else◌}
use Rattle.std.specs.List.{All, AllByRecursion}
use Rattle.std.proofs.lemmas.Bool.{cases_lt}
use Rattle.std.proofs.lemmas.List.{get_or_past}
use Rattle.std.proofs.lemmas.List.Elements.{All-from_recursion, All-nil, All-push, All-set, All-append}
use Rattle.wp_syntax.specs.declared.error.Part.{Part}
use Rattle.wp_syntax.specs.declared.error.Part.TheVariants as parts
use Rattle.wp_syntax.specs.declared.records.Name.{Name}
use Rattle.wp_syntax.specs.declared.records.Typed.{Typed}
use Rattle.wp_syntax.specs.declared.records.ActionText.{ActionText}
use Rattle.wp_lift.specs.declared.schemas.Pred.{Pred}
use Rattle.wp_lift.specs.declared.objects.Known.{Known}
use Rattle.wp_lift.specs.declared.lifting.TypedSchema.{TypedSchema}
use Rattle.wp_lift.specs.Names.{number_of}
use Rattle.wp_lift.specs.Walk.{Walk, each, each_after}
use Rattle.wp_lift.specs.Typing.{noted_name, type_of_word, type_number, types_of, words_of, kind_numbers, kinds_of}
use Rattle.wp_lift.specs.Lifting.{with_kinds, object_of, objects_of, schema_of}
use Rattle.wp_lift.proofs.SubtypeLemmas.{type_below}

-- numbers below a count, and lists of them
pub Below : ℕ → List ℕ → Type 0
Below n kinds = All (λ (kind : ℕ). kind < n) kinds

pub at-place : {A : Type 0} (P : A → Type 0) (xs : List A) (d : A) → All P xs → P d → (i : ℕ) → P (get_or xs i d)
at-place P xs d all none i = ⊎_elim
    (λ (within : i < length xs). all i d within)
    (λ (past : length xs ≤ i). subst P (sym (get_or_past xs i d past)) none)
    (cases_lt i (length xs))

each_all : {A B : Type 0} (one : A → Walk B) (P : B → Type 0) → ((x : A) → P (one x).value) → (xs : List A) → AllByRecursion P (each one xs).value
each_all one P holds [] = tt
each_all one P holds (x ∷ xs) = (holds x, each_all one P holds xs)

after_all : {A S : Type 0} (one : S → A → Walk S) (P : S → Type 0) → ((state : S) (x : A) → P state → P (one state x).value)
    → (state : S) (xs : List A) → P state → P (each_after one state xs).value
after_all one P keeps state [] h = h
after_all one P keeps state (x ∷ xs) h = after_all one P keeps (one state x).value xs (keeps state x h)

-- there is always a type
noted_there : (types : List (List ℕ)) (name : List ℕ) → 0 < length types → 0 < length (noted_name types name)
noted_there types name h = elim (is_none (number_of name types)) as (λ (t : Bool). 0 < length (if t then types ++ name ∷ [] else types)) [
  | true ↦ omega (arith, length-append types (name ∷ []))
  | false ↦ h
]

pub types-there : (part : Part) (declared : List Typed) → 0 < length (types_of part declared).value
unfolding types_of
types-there part declared =
    after_all (type_of_word part) (λ (types : List (List ℕ)). 0 < length types) (λ types word h. noted_there types word.text h)
    (codes "object" ∷ []) (words_of declared) (omega arith)

-- the types of a kind
numbers_below : (types : List (List ℕ)) (kinds : List Name) → 0 < length types
    → AllByRecursion (λ (kind : ℕ). kind < length types) (map (λ (name : Name). type_number types name.text) kinds)
numbers_below types [] h = tt
numbers_below types (kind ∷ kinds) h = (type_below types kind.text h, numbers_below types kinds h)

kinds_below_by : (types : List (List ℕ)) (kinds : List Name) → 0 < length types → AllByRecursion (λ (kind : ℕ). kind < length types) (kind_numbers types kinds)
kinds_below_by types [] h = (h, tt)
kinds_below_by types (kind ∷ kinds) h = numbers_below types (kind ∷ kinds) h

kinds_below : (part : Part) (types : List (List ℕ)) (kinds : List Name) → 0 < length types → Below (length types) (kinds_of part types kinds).value
unfolding Below
kinds_below part types kinds h = All-from_recursion (λ (kind : ℕ). kind < length types) (kind_numbers types kinds) (kinds_below_by types kinds h)

-- of objects
AreBelow : ℕ → Known → Type 0
AreBelow n known = All (Below n) known.kinds

with_kinds_below : (n : ℕ) (found : Option ℕ) (known : Known) (name kinds : List ℕ) → AreBelow n known → Below n kinds → AreBelow n (with_kinds found known name kinds)
unfolding AreBelow Below
with_kinds_below n None known name kinds h k = All-push (λ (list : List ℕ). All (λ (kind : ℕ). kind < n) list) known.kinds kinds h k
with_kinds_below n (Some number) known name kinds h k =
    let each : List ℕ → Type 0 = λ list. All (λ (kind : ℕ). kind < n) list in
    All-set each known.kinds number (get_or known.kinds number [] ++ kinds)
    (All-append (λ (kind : ℕ). kind < n) (get_or known.kinds number []) kinds (at-place each known.kinds [] h (All-nil (λ (kind : ℕ). kind < n)) number) k)
    h

object_below : (part : Part) (types : List (List ℕ)) → 0 < length types → (known : Known) (typed : Typed) → AreBelow (length types) known
    → AreBelow (length types) (object_of part types known typed).value
unfolding object_of
object_below part types there known typed h =
    with_kinds_below (length types) (number_of typed.name.text known.names) known typed.name.text (kinds_of part types typed.kinds).value h
    (kinds_below part types typed.kinds there)

pub objects-below : (types : List (List ℕ)) (constants objects : List Typed) → 0 < length types
    → All (All (λ (kind : ℕ). kind < length types)) (objects_of types constants objects).value.kinds
unfolding objects_of AreBelow Below
objects-below types constants objects there =
    after_all (object_of parts.Problem types) (AreBelow (length types)) (object_below parts.Problem types there) _ objects
    (after_all (object_of parts.Domain types) (AreBelow (length types)) (object_below parts.Domain types there) (record { names = []; kinds = [] }) constants
    (All-nil (All (λ (kind : ℕ). kind < length types))))

-- of parameters
WantsBelow : ℕ → TypedSchema → Type 0
WantsBelow n typed = All (Below n) typed.wanted

schema_below : (types : List (List ℕ)) (preds : List Pred) (objects : List (List ℕ)) → 0 < length types → (action : ActionText)
    → WantsBelow (length types) (schema_of types preds objects action).value
unfolding schema_of WantsBelow
schema_below types preds objects there action =
    All-from_recursion (Below (length types)) _
    (each_all (λ (param : Typed). kinds_of parts.Domain types param.kinds) (Below (length types)) (λ param. kinds_below parts.Domain types param.kinds there) action.params)

wanted_below : (n : ℕ) (schemas : List TypedSchema) → AllByRecursion (WantsBelow n) schemas
    → AllByRecursion (All (All (λ (kind : ℕ). kind < n))) (map (λ (typed : TypedSchema). typed.wanted) schemas)
unfolding WantsBelow Below
wanted_below n [] h = tt
wanted_below n (typed ∷ schemas) h = (h.0, wanted_below n schemas h.1)

pub schemas-below : (types : List (List ℕ)) (preds : List Pred) (objects : List (List ℕ)) (actions : List ActionText) → 0 < length types
    → All (All (All (λ (kind : ℕ). kind < length types))) (map (λ (typed : TypedSchema). typed.wanted) (each (schema_of types preds objects) actions).value)
schemas-below types preds objects actions there =
    All-from_recursion (All (All (λ (kind : ℕ). kind < length types))) _
    (wanted_below (length types) (each (schema_of types preds objects) actions).value
    (each_all (schema_of types preds objects) (WantsBelow (length types)) (schema_below types preds objects there) actions))
