-- What holds of the parts of each lifted problem: each number names something, that of a type too, an atom has as many terms as
-- its predicate has arguments, and each parameter of a schema has its types.
use Rattle.std.specs.Prelude.{ℕ, ◌≡◌, ◌<◌, ◌≤◌, List, length, All}
use Rattle.std.specs.List.{AllZip}
use Rattle.wp_lift.specs.declared.atoms.GroundAtom.{GroundAtom}
use Rattle.wp_lift.specs.declared.schemas.Schema.{Schema}
use Rattle.wp_lift.specs.declared.schemas.Slot.{Slot}
use Rattle.wp_lift.specs.declared.schemas.Slot.TheVariants as slots
use Rattle.wp_lift.specs.declared.schemas.SlotAtom.{SlotAtom}
use Rattle.wp_lift.specs.declared.schemas.SlotCond.{SlotCond}
use Rattle.wp_lift.specs.declared.schemas.SlotCond.TheVariants as conds
use Rattle.wp_lift.specs.declared.schemas.SlotEffect.{SlotEffect}
use Rattle.wp_lift.specs.Problem.{Lifting, pred_at}
use Rattle.wp_lift.specs.Typing.{most_objects}

-- a parameter of a schema with so many of them, or an object
abbrev pub IsSlot : Lifting → ℕ → Slot → Type 0
IsSlot lifted arity (slots.Param place) = place < arity
IsSlot lifted arity (slots.Object number) = number < length lifted.objects

-- an atom of a schema with so many parameters
pub record IsSlotAtom (lifted : Lifting) (arity : ℕ) (atom : SlotAtom) : Type 0 where
  pub pred_there : atom.pred < length lifted.preds
  pub count : length atom.slots ≡ (pred_at lifted atom.pred).arity
  pub terms : All (IsSlot lifted arity) atom.slots

abbrev pub IsSlotCond : Lifting → ℕ → SlotCond → Type 0
IsSlotCond lifted arity (conds.Atom atom) = IsSlotAtom lifted arity atom
IsSlotCond lifted arity (conds.Same a b) = IsSlot lifted arity a × IsSlot lifted arity b
IsSlotCond lifted arity (conds.Differ a b) = IsSlot lifted arity a × IsSlot lifted arity b

pub record IsSchema (lifted : Lifting) (schema : Schema) : Type 0 where
  pub conditions : All (IsSlotCond lifted schema.arity) schema.conds
  pub outcomes : All (λ (effect : SlotEffect). IsSlotAtom lifted schema.arity effect.atom) schema.effects

-- a ground atom of the problem
pub record IsAtom (lifted : Lifting) (atom : GroundAtom) : Type 0 where
  pub pred_there : atom.pred < length lifted.preds
  pub count : length atom.args ≡ (pred_at lifted atom.pred).arity
  pub objects : All (λ number. number < length lifted.objects) atom.args

-- each parameter of the schema has types of its own
abbrev pub IsTyped : Schema → List (List ℕ) → Type 0
IsTyped schema wanted = length wanted ≡ schema.arity

-- numbers of types
abbrev pub AreKinds : Lifting → List ℕ → Type 0
AreKinds lifted kinds = All (λ kind. kind < length lifted.subtypes) kinds

pub record IsFormed (lifted : Lifting) : Type 0 where
  pub few_objects : length lifted.objects ≤ most_objects
  pub typed_objects : length lifted.kinds ≡ length lifted.objects
  pub objects_kinds : All (AreKinds lifted) lifted.kinds
  pub schemas_fit : All (IsSchema lifted) lifted.schemas
  pub schemas_typed : AllZip IsTyped lifted.schemas lifted.wanted
  pub schemas_kinds : All (All (AreKinds lifted)) lifted.wanted
  pub opening_fits : All (IsAtom lifted) lifted.opening
  pub goals_fit : All (IsAtom lifted) lifted.goals
