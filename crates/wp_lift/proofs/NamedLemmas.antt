-- The names of a lifting are those of its records, each object's once.
use Rattle.std.proofs.Common.{◌≡◌, ℕ, ◌+◌, ◌||◌, Bool, true, false, cond, List, [], ◌∷◌, ◌++◌, length, map, Option, None, Some, refl, sym, ap, subst, ◌∙◌, arith, length-append, length-set}
use Rattle.std.specs.Prelude.{All}
use Rattle.std.specs.List.{IsDistinct, list_any, position_from, slice_index_or}
use Rattle.std.proofs.lemmas.Cmp.{nat_list_eq_equiv}
use Rattle.std.proofs.lemmas.List.Elements.{All-nil, All-cons, All-head, All-tail, All-push, All-map}
use Rattle.std.proofs.lemmas.Map.Keys.{IsDistinct-push}
use Rattle.wp_syntax.specs.declared.error.Part.{Part}
use Rattle.wp_syntax.specs.declared.error.Part.TheVariants as parts
use Rattle.wp_syntax.specs.declared.records.Typed.{Typed}
use Rattle.wp_syntax.specs.declared.records.ActionText.{ActionText}
use Rattle.wp_syntax.specs.declared.records.Domain.{Domain}
use Rattle.wp_syntax.specs.declared.records.Problem.{Problem}
use Rattle.wp_syntax.specs.Laws.{IsWord, IsTypedByWords, IsNamedDomain, IsNamedProblem}
use Rattle.wp_lift.specs.declared.schemas.Pred.{Pred}
use Rattle.wp_lift.specs.declared.schemas.Schema.{Schema}
use Rattle.wp_lift.specs.declared.objects.Known.{Known}
use Rattle.wp_lift.specs.declared.lifting.TypedSchema.{TypedSchema}
use Rattle.wp_lift.specs.Worlds.{is_same_args}
use Rattle.wp_lift.specs.Names.{number_of}
use Rattle.wp_lift.specs.Walk.{each, each_after}
use Rattle.wp_lift.specs.Typing.{types_of, kinds_of}
use Rattle.wp_lift.specs.Lifting.{with_kinds, object_of, schema_of, pred_of, objects_of, lifting_of}
use Rattle.wp_lift.specs.Named.{HasWords, HasDistinctNames}
use Rattle.wp_lift.proofs.PlaceLemmas.{from-zero}

-- a name that has no number is not there
none_passes : {X : Type 0} (p : X → Bool) (n : ℕ) (xs : List X) → position_from p n xs ≡ None → list_any p xs ≡ false
none_passes p n [] e = refl
none_passes p n (x ∷ xs) e =
    elim (p x) as (λ b. cond b (Some n) (position_from p (n + 1) xs) ≡ None → (b || list_any p xs) ≡ false) [
      | true ↦ λ e. cc
      | false ↦ λ e. none_passes p (n + 1) xs e
    ] e

unknown : (name : List ℕ) (names : List (List ℕ)) → number_of name names ≡ None → list_any (is_same_args name) names ≡ false
unknown name names e = none_passes (is_same_args name) 0 names (from-zero (is_same_args name) names ∙ e)

record IsKnown (known : Known) : Type 0 where
  words : All IsWord known.names
  distinct : IsDistinct is_same_args known.names
  typed : length known.kinds ≡ length known.names

one_more : (found : Option ℕ) (known : Known) (name kinds : List ℕ) → number_of name known.names ≡ found → IsWord name
    → IsKnown known → IsKnown (with_kinds found known name kinds)
one_more None known name kinds e word is = record {
  words = All-push IsWord known.names name is.words word;
  distinct = IsDistinct-push nat_list_eq_equiv known.names name is.distinct (unknown name known.names e);
  typed = omega (arith, length-append known.kinds (kinds ∷ []), length-append known.names (name ∷ []), is.typed);
}
one_more (Some number) known name kinds e word is = record {
  words = is.words;
  distinct = is.distinct;
  typed = length-set known.kinds number (slice_index_or known.kinds number [] ++ kinds) ∙ is.typed;
}

objects_known : (part : Part) (types : List (List ℕ)) (known : Known) (objects : List Typed) → All IsTypedByWords objects
    → IsKnown known → IsKnown (each_after (object_of part types) known objects).value
unfolding object_of
objects_known part types known [] words is = is
objects_known part types known (typed ∷ objects) words is =
    objects_known part types (object_of part types known typed).value objects (All-tail IsTypedByWords typed objects words)
    (one_more (number_of typed.name.text known.names) known typed.name.text (kinds_of part types typed.kinds).value refl
    (All-head IsTypedByWords typed objects words).name is)

none_known : IsKnown (record { names = []; kinds = [] })
unfolding IsDistinct
none_known = record { words = All-nil IsWord; distinct = tt; typed = refl }

all_known : (types : List (List ℕ)) (constants objects : List Typed) → All IsTypedByWords constants → All IsTypedByWords objects
    → IsKnown (objects_of types constants objects).value
unfolding objects_of
all_known types constants objects first second =
    objects_known parts.Problem types (each_after (object_of parts.Domain types) (record { names = []; kinds = [] }) constants).value
    objects second
    (objects_known parts.Domain types (record { names = []; kinds = [] }) constants first none_known)

-- schemas have the names of their actions
abbrev schemas_in : List TypedSchema → List Schema
schemas_in schemas = map (λ (typed : TypedSchema). typed.schema) schemas

schema_names : (types : List (List ℕ)) (preds : List Pred) (objects : List (List ℕ)) (actions : List ActionText)
    → map (λ (schema : Schema). schema.name) (schemas_in (each (schema_of types preds objects) actions).value)
    ≡ map (λ (action : ActionText). action.name.text) actions
unfolding schema_of
schema_names types preds objects [] = refl
schema_names types preds objects (action ∷ actions) =
    ap (λ names. action.name.text ∷ names) (schema_names types preds objects actions)

schema_words : (types : List (List ℕ)) (preds : List Pred) (objects : List (List ℕ)) (actions : List ActionText)
    → All (λ (action : ActionText). IsWord action.name.text) actions
    → All (λ (schema : Schema). IsWord schema.name) (schemas_in (each (schema_of types preds objects) actions).value)
unfolding schema_of
schema_words types preds objects [] words = All-nil (λ (schema : Schema). IsWord schema.name)
schema_words types preds objects (action ∷ actions) words =
    All-cons (λ (schema : Schema). IsWord schema.name) (schema_of types preds objects action).value.schema
    (schemas_in (each (schema_of types preds objects) actions).value)
    (All-head (λ (action : ActionText). IsWord action.name.text) action actions words)
    (schema_words types preds objects actions (All-tail (λ (action : ActionText). IsWord action.name.text) action actions words))

pub liftings_are_named : (domain : Domain) (problem : Problem) → IsNamedDomain domain → IsNamedProblem problem
    → HasWords (lifting_of domain problem).value × HasDistinctNames (lifting_of domain problem).value
unfolding lifting_of
liftings_are_named domain problem named objects =
    let types = (types_of parts.Domain domain.types).value in
    let known = (objects_of types domain.constants problem.objects).value in
    let preds = map pred_of domain.preds in
    let is = all_known types domain.constants problem.objects named.constants objects in
    let names = schema_names types preds known.names domain.actions in (
      record {
        objects = is.words;
        preds = All-map (λ (pred : Pred). IsWord pred.name) pred_of domain.preds named.preds;
        schemas = schema_words types preds known.names domain.actions named.actions;
      },
      record {
        objects = is.distinct;
        schemas = subst (IsDistinct is_same_args) (sym names) named.distinct;
        typed = is.typed;
      },
    )
