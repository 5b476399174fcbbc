-- Where the walk through a domain and a problem meets no fault, the lifted problem is well formed.
use Rattle.std.proofs.Common.{◌≡◌, ℕ, suc, ◌<◌, ◌≤◌, ◌==◌, ◌&&◌, not, Bool, true, false, List, [], ◌∷◌, ◌++◌, length, map, get_or, Option, Some, None, is_none, leb, IfSome, refl, sym, ◌∙◌, ap, subst, arith, length-append, if◌then◌else◌}
use Rattle.std.specs.List.{All, AllByRecursion, AllZip}
use Rattle.std.proofs.lemmas.Bool.{leb-false, not-false}
use Rattle.std.proofs.lemmas.List.{length-map}
use Rattle.std.proofs.lemmas.List.Elements.{All-from_recursion, All-map, All-nil, All-push}
use Rattle.std.proofs.lemmas.Bool.Decides.{Decides-eqb}
use Rattle.std.proofs.Math.ListN.{length-set}
use Rattle.wp_syntax.specs.declared.error.Part.{Part}
use Rattle.wp_syntax.specs.declared.error.Part.TheVariants as parts
use Rattle.wp_syntax.specs.declared.error.PddlKind.TheVariants.{TooMany, Arity}
use Rattle.wp_syntax.specs.declared.records.Name.{Name}
use Rattle.wp_syntax.specs.declared.records.Typed.{Typed}
use Rattle.wp_syntax.specs.declared.records.AtomText.{AtomText}
use Rattle.wp_syntax.specs.declared.records.Cond.{Cond}
use Rattle.wp_syntax.specs.declared.records.Cond.TheVariants as texts
use Rattle.wp_syntax.specs.declared.records.Effect.{Effect}
use Rattle.wp_syntax.specs.declared.records.ActionText.{ActionText}
use Rattle.wp_syntax.specs.declared.records.InitItem.{InitItem}
use Rattle.wp_syntax.specs.declared.records.Domain.{Domain}
use Rattle.wp_syntax.specs.declared.records.Problem.{Problem}
use Rattle.wp_lift.specs.declared.atoms.GroundAtom.{GroundAtom}
use Rattle.wp_lift.specs.declared.schemas.Pred.{Pred}
use Rattle.wp_lift.specs.declared.schemas.Slot.{Slot}
use Rattle.wp_lift.specs.declared.schemas.Slot.TheVariants as slots
use Rattle.wp_lift.specs.declared.schemas.SlotEffect.{SlotEffect}
use Rattle.wp_lift.specs.declared.objects.Known.{Known}
use Rattle.wp_lift.specs.declared.lifting.TypedSchema.{TypedSchema}
use Rattle.wp_syntax.proofs.FaultLemmas.{none_in_both, not_faulty}
use Rattle.wp_lift.specs.Problem.{Lifting}
use Rattle.wp_lift.specs.Worlds.{object_in}
use Rattle.wp_lift.specs.Names.{number_of}
use Rattle.wp_lift.specs.Walk.{Walk, fine, wrong_if, each, each_after}
use Rattle.wp_lift.specs.Typing.{types_of, kinds_of, is_one_too_many, most_objects}
use Rattle.wp_lift.specs.Lifting.{Naming, is_variable, param_by, object_by, slot_of, pred_named, arity_of, atom_by, atom_of, cond_of, effect_of, names_of, schema_of, ground_atom_of, stated_after, with_kinds, object_of, objects_of, lifting_of}
use Rattle.wp_lift.specs.Formed.{IsSlot, IsSlotAtom, IsSlotCond, IsSchema, IsAtom, IsTyped, IsFormed}
use Rattle.wp_lift.proofs.SubtypeLemmas.{subtypes_length}
use Rattle.wp_lift.proofs.KindLemmas.{types-there, objects-below, schemas-below}
use Rattle.wp_lift.proofs.PlaceLemmas.{position-in}

-- ---- walks without faults
each_passes : {A B : Type 0} (one : A → Walk B) (P : B → Type 0) → ((x : A) → (one x).faults ≡ [] → P (one x).value)
    → (xs : List A) → (each one xs).faults ≡ [] → AllByRecursion P (each one xs).value
each_passes one P passes [] e = tt
each_passes one P passes (x ∷ xs) e =
    let here = none_in_both (one x).faults ((each one xs).faults ++ []) e in
    let there = none_in_both (each one xs).faults [] here.1 in
    (passes x here.0, each_passes one P passes xs there.0)

each_length : {A B : Type 0} (one : A → Walk B) (xs : List A) → length (each one xs).value ≡ length xs
each_length one [] = refl
each_length one (x ∷ xs) = ap suc (each_length one xs)

after_passes : {A S : Type 0} (one : S → A → Walk S) (P : S → Type 0) → ((state : S) (x : A) → P state → (one state x).faults ≡ [] → P (one state x).value)
    → (state : S) (xs : List A) → P state → (each_after one state xs).faults ≡ [] → P (each_after one state xs).value
after_passes one P keeps state [] h e = h
after_passes one P keeps state (x ∷ xs) h e =
    let parts = none_in_both (one state x).faults (each_after one (one state x).value xs).faults e in
    after_passes one P keeps (one state x).value xs (keeps state x h parts.0) parts.1

-- ---- atoms
abbrev naming_in : Lifting → Part → List (List ℕ) → Naming
naming_in lifted part params = record { part = part; preds = lifted.preds; objects = lifted.objects; params = params }

param_fits : (lifted : Lifting) (part : Part) (at arity : ℕ) (found : Option ℕ) → IfSome found (λ i. i < arity)
    → (param_by part at found).faults ≡ [] → IsSlot lifted arity (param_by part at found).value
param_fits lifted part at arity None h e = cc
param_fits lifted part at arity (Some place) h e = h

object_fits : (lifted : Lifting) (part : Part) (at arity : ℕ) (found : Option ℕ) → IfSome found (λ i. i < length lifted.objects)
    → (object_by part at found).faults ≡ [] → IsSlot lifted arity (object_by part at found).value
object_fits lifted part at arity None h e = cc
object_fits lifted part at arity (Some number) h e = h

slot_fits : (lifted : Lifting) (part : Part) (params : List (List ℕ)) (term : Name)
    → (slot_of (naming_in lifted part params) term).faults ≡ [] → IsSlot lifted (length params) (slot_of (naming_in lifted part params) term).value
unfolding slot_of
slot_fits lifted part params term e =
    let as_param = param_by part term.at (number_of term.text params) in
    let as_object = object_by part term.at (number_of term.text lifted.objects) in
    elim (is_variable term.text) as (λ (t : Bool).
    (elim t as (λ _. Walk Slot) [ true ↦ as_param | false ↦ as_object ]).faults ≡ []
    → IsSlot lifted (length params) (elim t as (λ _. Walk Slot) [ true ↦ as_param | false ↦ as_object ]).value) [
      | true ↦ param_fits lifted part term.at (length params) (number_of term.text params) (position-in _ params)
      | false ↦ object_fits lifted part term.at (length params) (number_of term.text lifted.objects) (position-in _ lifted.objects)
    ] e

atom_fits_by : (lifted : Lifting) (part : Part) (params : List (List ℕ)) (atom : AtomText) (found : Option ℕ) → IfSome found (λ i. i < length lifted.preds)
    → (atom_by (naming_in lifted part params) atom found).faults ≡ []
    → IsSlotAtom lifted (length params) (atom_by (naming_in lifted part params) atom found).value
atom_fits_by lifted part params atom None h e = cc
atom_fits_by lifted part params atom (Some pred) h e =
    let naming = naming_in lifted part params in
    let terms = each (slot_of naming) atom.args in
    let counted = length atom.args == arity_of lifted.preds pred in
    let here = none_in_both (wrong_if (not counted) part Arity atom.pred.at).faults (terms.faults ++ []) e in
    let there = none_in_both terms.faults [] here.1 in
    let same : counted ≡ true = not-false counted (not_faulty (not counted) (record { part = part; kind = Arity; at = atom.pred.at }) here.0) in
    record {
      pred_there = h;
      count = each_length (slot_of naming) atom.args ∙ (Decides-eqb (length atom.args) (arity_of lifted.preds pred)).0 same;
      terms = All-from_recursion (IsSlot lifted (length params)) terms.value
          (each_passes (slot_of naming) (IsSlot lifted (length params)) (slot_fits lifted part params) atom.args there.0);
    }

atom_fits : (lifted : Lifting) (part : Part) (params : List (List ℕ)) (atom : AtomText)
    → (atom_of (naming_in lifted part params) atom).faults ≡ [] → IsSlotAtom lifted (length params) (atom_of (naming_in lifted part params) atom).value
unfolding atom_of
atom_fits lifted part params atom e =
    let names = map (λ (pred : Pred). pred.name) lifted.preds in
    let found = pred_named lifted.preds atom.pred.text in
    atom_fits_by lifted part params atom found
    (subst (λ n. IfSome found (λ i. i < n)) (length-map lifted.preds (λ (pred : Pred). pred.name)) (position-in _ names)) e

-- ---- schemas
cond_fits : (lifted : Lifting) (part : Part) (params : List (List ℕ)) (cond : Cond)
    → (cond_of (naming_in lifted part params) cond).faults ≡ [] → IsSlotCond lifted (length params) (cond_of (naming_in lifted part params) cond).value
unfolding cond_of
cond_fits lifted part params (texts.Atom atom) e =
    atom_fits lifted part params atom (none_in_both (atom_of (naming_in lifted part params) atom).faults [] e).0
cond_fits lifted part params (texts.Same a b at) e =
    let naming = naming_in lifted part params in
    let here = none_in_both (slot_of naming a).faults ((slot_of naming b).faults ++ []) e in
    (slot_fits lifted part params a here.0, slot_fits lifted part params b (none_in_both (slot_of naming b).faults [] here.1).0)
cond_fits lifted part params (texts.Differ a b at) e =
    let naming = naming_in lifted part params in
    let here = none_in_both (slot_of naming a).faults ((slot_of naming b).faults ++ []) e in
    (slot_fits lifted part params a here.0, slot_fits lifted part params b (none_in_both (slot_of naming b).faults [] here.1).0)

effect_fits : (lifted : Lifting) (part : Part) (params : List (List ℕ)) (effect : Effect)
    → (effect_of (naming_in lifted part params) effect).faults ≡ []
    → IsSlotAtom lifted (length params) (effect_of (naming_in lifted part params) effect).value.atom
unfolding effect_of
effect_fits lifted part params effect e =
    atom_fits lifted part params effect.atom (none_in_both (atom_of (naming_in lifted part params) effect.atom).faults [] e).0

abbrev Fits : Lifting → TypedSchema → Type 0
Fits lifted typed = IsSchema lifted typed.schema × IsTyped typed.schema typed.wanted

schema_fits : (lifted : Lifting) (types : List (List ℕ)) (action : ActionText)
    → (schema_of types lifted.preds lifted.objects action).faults ≡ [] → Fits lifted (schema_of types lifted.preds lifted.objects action).value
unfolding schema_of
schema_fits lifted types action e =
    let params = names_of action.params in
    let naming = naming_in lifted parts.Domain params in
    let kinds = λ (param : Typed). kinds_of parts.Domain types param.kinds in
    let wanted = each kinds action.params in
    let conds = each (cond_of naming) action.pre in
    let effects = each (effect_of naming) action.effects in
    let first = none_in_both wanted.faults (conds.faults ++ (effects.faults ++ [])) e in
    let second = none_in_both conds.faults (effects.faults ++ []) first.1 in
    let third = none_in_both effects.faults [] second.1 in
    let arity : length params ≡ length action.params = length-map action.params (λ (one : Typed). one.name.text) in (
      record {
        conditions = subst (λ n. All (IsSlotCond lifted n) conds.value) arity
            (All-from_recursion (IsSlotCond lifted (length params)) conds.value
            (each_passes (cond_of naming) (IsSlotCond lifted (length params)) (cond_fits lifted parts.Domain params) action.pre second.0));
        outcomes = subst (λ n. All (λ (effect : SlotEffect). IsSlotAtom lifted n effect.atom) effects.value) arity
            (All-from_recursion (λ (effect : SlotEffect). IsSlotAtom lifted (length params) effect.atom) effects.value
            (each_passes (effect_of naming) (λ (effect : SlotEffect). IsSlotAtom lifted (length params) effect.atom) (effect_fits lifted parts.Domain params) action.effects third.0));
      },
      each_length kinds action.params,
    )

all_schemas_fit : (lifted : Lifting) (schemas : List TypedSchema) → AllByRecursion (Fits lifted) schemas
    → AllByRecursion (IsSchema lifted) (map (λ (typed : TypedSchema). typed.schema) schemas)
all_schemas_fit lifted [] h = tt
all_schemas_fit lifted (typed ∷ schemas) h = (h.0.0, all_schemas_fit lifted schemas h.1)

all_schemas_typed : (lifted : Lifting) (schemas : List TypedSchema) → AllByRecursion (Fits lifted) schemas
    → AllZip IsTyped (map (λ (typed : TypedSchema). typed.schema) schemas) (map (λ (typed : TypedSchema). typed.wanted) schemas)
all_schemas_typed lifted [] h = tt
all_schemas_typed lifted (typed ∷ schemas) h = (h.0.1, all_schemas_typed lifted schemas h.1)

-- ---- ground atoms
object_there : (lifted : Lifting) (slot : Slot) → IsSlot lifted 0 slot → object_in [] slot < length lifted.objects
object_there lifted (slots.Param place) h = absurd (omega arith)
object_there lifted (slots.Object number) h = h

ground_atom_fits : (lifted : Lifting) (part : Part) (atom : AtomText)
    → (ground_atom_of (naming_in lifted part []) atom).faults ≡ [] → IsAtom lifted (ground_atom_of (naming_in lifted part []) atom).value
unfolding ground_atom_of
ground_atom_fits lifted part atom e =
    let made = atom_of (naming_in lifted part []) atom in
    let fits = atom_fits lifted part [] atom (none_in_both made.faults [] e).0 in
    record {
      pred_there = fits.pred_there;
      count = length-map made.value.slots (object_in []) ∙ fits.count;
      objects = All-map (λ number. number < length lifted.objects) (object_in []) made.value.slots
          (λ k d h. object_there lifted (get_or made.value.slots k d) (fits.terms k d h));
    }

stated_fits : (lifted : Lifting) (atoms : List GroundAtom) (atom : GroundAtom) (stated : Bool) → All (IsAtom lifted) atoms → IsAtom lifted atom
    → All (IsAtom lifted) (if stated then atoms ++ atom ∷ [] else atoms)
stated_fits lifted atoms atom true h fits = All-push (IsAtom lifted) atoms atom h fits
stated_fits lifted atoms atom false h fits = h

item_fits : (lifted : Lifting) (part : Part) (atoms : List GroundAtom) (item : InitItem) → All (IsAtom lifted) atoms
    → (stated_after (naming_in lifted part []) atoms item).faults ≡ [] → All (IsAtom lifted) (stated_after (naming_in lifted part []) atoms item).value
unfolding stated_after
item_fits lifted part atoms item h e =
    let made = ground_atom_of (naming_in lifted part []) item.atom in
    stated_fits lifted atoms made.value item.stated h (ground_atom_fits lifted part item.atom (none_in_both made.faults [] e).0)

-- ---- objects
pub record IsKnown (known : Known) : Type 0 where
  pub typed : length known.kinds ≡ length known.names
  pub few : length known.names ≤ most_objects

with_kinds_fits : (found : Option ℕ) (known : Known) (name kinds : List ℕ) → IsKnown known
    → (is_none found && leb most_objects (length known.names)) ≡ false → IsKnown (with_kinds found known name kinds)
with_kinds_fits None known name kinds h e =
    let less : length known.names < most_objects = leb-false most_objects (length known.names) e in
    let typed = h.typed in
    record {
      typed = omega (arith, length-append known.kinds (kinds ∷ []), length-append known.names (name ∷ []));
      few = omega (arith, length-append known.names (name ∷ []));
    }
with_kinds_fits (Some number) known name kinds h e = record {
  typed = length-set known.kinds number (get_or known.kinds number [] ++ kinds) ∙ h.typed;
  few = h.few;
}

object_keeps : (part : Part) (types : List (List ℕ)) (known : Known) (typed : Typed) → IsKnown known
    → (object_of part types known typed).faults ≡ [] → IsKnown (object_of part types known typed).value
unfolding object_of
object_keeps part types known typed h e =
    let kinds = kinds_of part types typed.kinds in
    let many = is_one_too_many most_objects known.names typed.name.text in
    let here = none_in_both (wrong_if many part (TooMany most_objects) typed.name.at).faults (kinds.faults ++ []) e in
    with_kinds_fits (number_of typed.name.text known.names) known typed.name.text kinds.value h (not_faulty many (record { part = part; kind = TooMany most_objects; at = typed.name.at }) here.0)

objects_fit : (types : List (List ℕ)) (constants objects : List Typed)
    → (objects_of types constants objects).faults ≡ [] → IsKnown (objects_of types constants objects).value
unfolding objects_of
objects_fit types constants objects e =
    let none : Known = record { names = []; kinds = [] } in
    let first = each_after (object_of parts.Domain types) none constants in
    let here = none_in_both first.faults (each_after (object_of parts.Problem types) first.value objects).faults e in
    after_passes (object_of parts.Problem types) IsKnown (object_keeps parts.Problem types) first.value objects
    (after_passes (object_of parts.Domain types) IsKnown (object_keeps parts.Domain types) none constants (record { typed = refl; few = omega arith }) here.0)
    here.1

-- ---- the whole
pub fine-formed : (domain : Domain) (problem : Problem) → (lifting_of domain problem).faults ≡ [] → IsFormed (lifting_of domain problem).value
unfolding lifting_of
fine-formed domain problem e =
    let lifted = (lifting_of domain problem).value in
    let types = types_of parts.Domain domain.types in
    let known = objects_of types.value domain.constants problem.objects in
    let naming = naming_in lifted parts.Problem [] in
    let schemas = each (schema_of types.value lifted.preds lifted.objects) domain.actions in
    let opening = each_after (stated_after naming) [] problem.init in
    let goals = each (ground_atom_of naming) problem.goal in
    let first = none_in_both types.faults (known.faults ++ (schemas.faults ++ (opening.faults ++ (goals.faults ++ [])))) e in
    let second = none_in_both known.faults (schemas.faults ++ (opening.faults ++ (goals.faults ++ []))) first.1 in
    let third = none_in_both schemas.faults (opening.faults ++ (goals.faults ++ [])) second.1 in
    let fourth = none_in_both opening.faults (goals.faults ++ []) third.1 in
    let fifth = none_in_both goals.faults [] fourth.1 in
    let objects = objects_fit types.value domain.constants problem.objects second.0 in
    let there : 0 < length types.value = types-there parts.Domain domain.types in
    let count : length types.value ≡ length lifted.subtypes = sym (subtypes_length types.value domain.types) in
    let fitting = each_passes (schema_of types.value lifted.preds lifted.objects) (Fits lifted) (schema_fits lifted types.value) domain.actions third.0 in
    record {
      few_objects = objects.few;
      typed_objects = objects.typed;
      objects_kinds = subst (λ n. All (All (λ (kind : ℕ). kind < n)) lifted.kinds) count
          (objects-below types.value domain.constants problem.objects there);
      schemas_fit = All-from_recursion (IsSchema lifted) lifted.schemas (all_schemas_fit lifted schemas.value fitting);
      schemas_typed = all_schemas_typed lifted schemas.value fitting;
      schemas_kinds = subst (λ n. All (All (All (λ (kind : ℕ). kind < n))) lifted.wanted) count
          (schemas-below types.value lifted.preds lifted.objects domain.actions there);
      opening_fits = after_passes (stated_after naming) (All (IsAtom lifted)) (item_fits lifted parts.Problem) [] problem.init (All-nil (IsAtom lifted)) fourth.0;
      goals_fit = All-from_recursion (IsAtom lifted) goals.value
          (each_passes (ground_atom_of naming) (IsAtom lifted) (ground_atom_fits lifted parts.Problem) problem.goal fifth.0);
    }

-- what a walk without faults answers
pub made-formed : (domain : Domain) (problem : Problem) (lifted : Lifting) → lifting_of domain problem ≡ fine lifted → IsFormed lifted
made-formed domain problem lifted e =
    subst (λ (w : Walk Lifting). IsFormed w.value) e (fine-formed domain problem (λ i. (e i).faults))
