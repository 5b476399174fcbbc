-- The lifted problem of a domain and a problem, with the faults of names in the order of the walk: types; constants, then
-- objects; of each action its parameters' kinds, its conditions, its effects; `:init`; `:goal`. Of an atom come its predicate,
-- the number of its terms, then each term from the left.
use Rattle.std.specs.Prelude.{ℕ, ◌==◌, not, Bool, true, false, Option, None, Some, List, [], ◌∷◌, ◌++◌, length, map, slice_index, slice_index_or, slice_set, if◌then◌else◌}
use Rattle.wp_syntax.specs.declared.error.Part.{Part}
use Rattle.wp_syntax.specs.declared.error.Part.TheVariants as parts
use Rattle.wp_syntax.specs.declared.error.PddlKind.TheVariants.{TooMany, UnknownPredicate, UnknownObject, UnknownVariable, Arity}
use Rattle.wp_syntax.specs.declared.records.Name.{Name}
use Rattle.wp_syntax.specs.declared.records.Typed.{Typed}
use Rattle.wp_syntax.specs.declared.records.AtomText.{AtomText}
use Rattle.wp_syntax.specs.declared.records.Cond.{Cond}
use Rattle.wp_syntax.specs.declared.records.Cond.TheVariants as texts
use Rattle.wp_syntax.specs.declared.records.Effect.{Effect}
use Rattle.wp_syntax.specs.declared.records.PredText.{PredText}
use Rattle.wp_syntax.specs.declared.records.ActionText.{ActionText}
use Rattle.wp_syntax.specs.declared.records.InitItem.{InitItem}
use Rattle.wp_syntax.specs.declared.records.Domain.{Domain}
use Rattle.wp_syntax.specs.declared.records.Problem.{Problem}
use Rattle.wp_lift.specs.declared.atoms.GroundAtom.{GroundAtom}
use Rattle.wp_lift.specs.declared.schemas.Pred.{Pred}
use Rattle.wp_lift.specs.declared.schemas.Slot.{Slot}
use Rattle.wp_lift.specs.declared.schemas.Slot.TheVariants.{Param, Object}
use Rattle.wp_lift.specs.declared.schemas.SlotAtom.{SlotAtom}
use Rattle.wp_lift.specs.declared.schemas.SlotCond.{SlotCond}
use Rattle.wp_lift.specs.declared.schemas.SlotCond.TheVariants as conds
use Rattle.wp_lift.specs.declared.schemas.SlotEffect.{SlotEffect}
use Rattle.wp_lift.specs.declared.objects.Known.{Known}
use Rattle.wp_lift.specs.declared.lifting.TypedSchema.{TypedSchema}
use Rattle.wp_lift.specs.declared.scope.Scope.{Scope}
use Rattle.wp_lift.specs.Problem.{Lifting}
use Rattle.wp_lift.specs.Worlds.{grounded}
use Rattle.wp_lift.specs.Names.{number_of}
use Rattle.wp_lift.specs.Walk.{Walk, fine, wrong, wrong_if, each, each_after, ◌>>◌, ◌>>=◌}
use Rattle.wp_lift.specs.Typing.{types_of, kinds_of, subtypes_of, is_one_too_many, most_objects}

-- an object that is declared again keeps its place and has all its types
abbrev pub with_kinds : Option ℕ → Known → List ℕ → List ℕ → Known
with_kinds None known name kinds = record { names = known.names ++ name ∷ []; kinds = known.kinds ++ kinds ∷ [] }
with_kinds (Some number) known name kinds =
    record { names = known.names; kinds = slice_set known.kinds number (slice_index_or known.kinds number [] ++ kinds) }

abbrev pub with_object : Known → List ℕ → List ℕ → Known
with_object known name kinds = with_kinds (number_of name known.names) known name kinds

unfoldable pub object_of : Part → List (List ℕ) → Known → Typed → Walk Known
object_of part types known typed =
    wrong_if (is_one_too_many most_objects known.names typed.name.text) part (TooMany most_objects) typed.name.at >> (do
      kinds ← kinds_of part types typed.kinds
      fine (with_object known typed.name.text kinds))

-- what the names of an atom may stand for
pub record Naming : Type 0 where
  pub part : Part
  pub preds : List Pred
  pub objects : List (List ℕ)
  pub params : List (List ℕ)

abbrev pub naming_of : Scope → Naming
naming_of scope = record { part = scope.part; preds = scope.preds.now; objects = scope.objects.now; params = scope.params.now }

abbrev pub is_variable : List ℕ → Bool
is_variable word = slice_index word 0 == 63

abbrev pub param_by : Part → ℕ → Option ℕ → Walk Slot
param_by part at None = wrong part UnknownVariable at >> fine (Param 0)
param_by part at (Some place) = fine (Param place)

abbrev pub object_by : Part → ℕ → Option ℕ → Walk Slot
object_by part at None = wrong part UnknownObject at >> fine (Object 0)
object_by part at (Some number) = fine (Object number)

unfoldable pub slot_of : Naming → Name → Walk Slot
slot_of naming term = elim (is_variable term.text) [
  | true ↦ param_by naming.part term.at (number_of term.text naming.params)
  | false ↦ object_by naming.part term.at (number_of term.text naming.objects)
]

abbrev pub pred_named : List Pred → List ℕ → Option ℕ
pred_named preds name = number_of name (map (λ (pred : Pred). pred.name) preds)

abbrev pub arity_of : List Pred → ℕ → ℕ
arity_of preds number = (slice_index_or preds number (let none : Pred = record { name = []; arity = 0 } in none)).arity

abbrev pub atom_by : Naming → AtomText → Option ℕ → Walk SlotAtom
atom_by naming atom None = wrong naming.part UnknownPredicate atom.pred.at >> fine (record { pred = 0; slots = [] })
atom_by naming atom (Some pred) =
    wrong_if (not (length atom.args == arity_of naming.preds pred)) naming.part Arity atom.pred.at >> (do
      slots ← each (slot_of naming) atom.args
      fine (record { pred = pred; slots = slots }))

unfoldable pub atom_of : Naming → AtomText → Walk SlotAtom
atom_of naming atom = atom_by naming atom (pred_named naming.preds atom.pred.text)

unfoldable pub cond_of : Naming → Cond → Walk SlotCond
cond_of naming (texts.Atom atom) = do
  atom ← atom_of naming atom
  fine (conds.Atom atom)
cond_of naming (texts.Same a b at) = do
  first ← slot_of naming a
  second ← slot_of naming b
  fine (conds.Same first second)
cond_of naming (texts.Differ a b at) = do
  first ← slot_of naming a
  second ← slot_of naming b
  fine (conds.Differ first second)

unfoldable pub effect_of : Naming → Effect → Walk SlotEffect
effect_of naming effect = do
  atom ← atom_of naming effect.atom
  fine (record { add = effect.add; atom = atom })

abbrev pub names_of : List Typed → List (List ℕ)
names_of typed = map (λ (one : Typed). one.name.text) typed

unfoldable pub schema_of : List (List ℕ) → List Pred → List (List ℕ) → ActionText → Walk TypedSchema
schema_of types preds objects action =
    let naming : Naming = record { part = parts.Domain; preds = preds; objects = objects; params = names_of action.params } in do
      wanted ← each (λ (param : Typed). kinds_of parts.Domain types param.kinds) action.params
      conds ← each (cond_of naming) action.pre
      effects ← each (effect_of naming) action.effects
      fine (record {
        schema = record { name = action.name.text; arity = length action.params; conds = conds; effects = effects };
        wanted = wanted;
      })

-- an atom of `:init` or `:goal`, where no variable stands for anything
unfoldable pub ground_atom_of : Naming → AtomText → Walk GroundAtom
ground_atom_of naming atom = do
  atom ← atom_of naming atom
  fine (grounded [] atom)

-- `not` states nothing, and its atom has to be one all the same
unfoldable pub stated_after : Naming → List GroundAtom → InitItem → Walk (List GroundAtom)
stated_after naming atoms item = do
  atom ← ground_atom_of naming item.atom
  fine (if item.stated then atoms ++ atom ∷ [] else atoms)

abbrev pub pred_of : PredText → Pred
pred_of text = record { name = text.name.text; arity = length text.params }

unfoldable pub objects_of : List (List ℕ) → List Typed → List Typed → Walk Known
objects_of types constants objects = do
  known ← each_after (object_of parts.Domain types) (record { names = []; kinds = [] }) constants
  each_after (object_of parts.Problem types) known objects

unfoldable pub lifting_of : Domain → Problem → Walk Lifting
lifting_of domain problem = do
  types ← types_of parts.Domain domain.types
  known ← objects_of types domain.constants problem.objects
  schemas ← each (schema_of types (map pred_of domain.preds) known.names) domain.actions
  opening ← each_after (stated_after (let naming : Naming = record { part = parts.Problem; preds = map pred_of domain.preds; objects = known.names; params = [] } in naming)) [] problem.init
  goals ← each (ground_atom_of (record { part = parts.Problem; preds = map pred_of domain.preds; objects = known.names; params = [] })) problem.goal
  fine (record {
    objects = known.names;
    kinds = known.kinds;
    preds = map pred_of domain.preds;
    schemas = map (λ (typed : TypedSchema). typed.schema) schemas;
    wanted = map (λ (typed : TypedSchema). typed.wanted) schemas;
    subtypes = subtypes_of types domain.types;
    opening = opening;
    goals = goals;
  })
