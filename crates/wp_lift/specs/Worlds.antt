-- What a lifted problem means, after Fox and Long, PDDL 2.1 (JAIR 2003), level 1: worlds, applicable instances, results,
-- valid plans. A world is a set of ground atoms, here a test; it is closed: an atom that is not in it is false.
use Rattle.std.specs.Prelude.{ℕ, nat_eq, nat_lt, ◌==◌, ◌&&◌, ◌||◌, not, Bool, List, [], ◌∷◌, ◌++◌, length, map, filter, position, slice_index_or, Option, if◌then◌else◌}
use Rattle.std.specs.List.{list_any, list_all}
use Rattle.std.specs.Cmp.Lexicographic.{pointwise}
use Rattle.wp_lift.specs.declared.atoms.GroundAtom.{GroundAtom}
use Rattle.wp_lift.specs.declared.schemas.Slot.{Slot}
use Rattle.wp_lift.specs.declared.schemas.Slot.TheVariants as slots
use Rattle.wp_lift.specs.declared.schemas.SlotAtom.{SlotAtom}
use Rattle.wp_lift.specs.declared.schemas.SlotCond.{SlotCond}
use Rattle.wp_lift.specs.declared.schemas.SlotCond.TheVariants as conds
use Rattle.wp_lift.specs.declared.schemas.SlotEffect.{SlotEffect}
use Rattle.wp_lift.specs.Problem.{Lifting, Instance, schema_at, all_fit}

abbrev pub is_same_args : List ℕ → List ℕ → Bool
is_same_args = pointwise nat_eq

abbrev pub is_same_atom : GroundAtom → GroundAtom → Bool
is_same_atom a b = (a.pred == b.pred) && is_same_args a.args b.args

-- the set of the listed atoms
abbrev pub among : List GroundAtom → GroundAtom → Bool
among atoms a = list_any (is_same_atom a) atoms

-- the listed atoms with one more, where it is not there
abbrev pub noted : List GroundAtom → GroundAtom → List GroundAtom
noted atoms a = if among atoms a then atoms else atoms ++ a ∷ []

-- the object that a term names in an instance
abbrev pub object_in : List ℕ → Slot → ℕ
object_in args (slots.Param place) = slice_index_or args place 0
object_in args (slots.Object number) = number

abbrev pub grounded : List ℕ → SlotAtom → GroundAtom
grounded args atom = record { pred = atom.pred; args = map (object_in args) atom.slots }

abbrev pub holds : List ℕ → (GroundAtom → Bool) → SlotCond → Bool
holds args world (conds.Atom atom) = world (grounded args atom)
holds args world (conds.Same a b) = object_in args a == object_in args b
holds args world (conds.Differ a b) = not (object_in args a == object_in args b)

-- all conditions of the instance hold
abbrev pub all_hold : Lifting → Instance → (GroundAtom → Bool) → Bool
all_hold lifted step world = list_all (holds step.args world) (schema_at lifted step.schema).conds

-- the place of the first condition of an instance, in text order, that does not hold
abbrev pub first_false : Lifting → Instance → (GroundAtom → Bool) → Option ℕ
first_false lifted step world = position (λ cond. not (holds step.args world cond)) (schema_at lifted step.schema).conds

-- the atoms that the instance adds
abbrev pub adds_of : Lifting → Instance → List GroundAtom
adds_of lifted step =
    map (λ (effect : SlotEffect). grounded step.args effect.atom)
    (filter (λ (effect : SlotEffect). effect.add) (schema_at lifted step.schema).effects)

-- the atoms that the instance deletes
abbrev pub dels_of : Lifting → Instance → List GroundAtom
dels_of lifted step =
    map (λ (effect : SlotEffect). grounded step.args effect.atom)
    (filter (λ (effect : SlotEffect). not effect.add) (schema_at lifted step.schema).effects)

-- the world less the delete effects, together with the add effects
abbrev pub after : Lifting → Instance → (GroundAtom → Bool) → GroundAtom → Bool
after lifted step world = λ a. (world a && not (among (dels_of lifted step) a)) || among (adds_of lifted step) a

-- the place of the first goal atom, in text order, that is not in the world
abbrev pub unmet_goal : Lifting → (GroundAtom → Bool) → Option ℕ
unmet_goal lifted world = position (λ goal. not (world goal)) lifted.goals

-- the schema is there, and one fitting object stands for each parameter
abbrev pub is_instance : Lifting → Instance → Bool
is_instance lifted step =
    nat_lt step.schema (length lifted.schemas)
    && ((length step.args == (schema_at lifted step.schema).arity) && all_fit lifted step.schema 0 step.args)

-- from this world on each step is an applicable instance in its turn, and the last world has every goal atom
abbrev pub is_valid_from : Lifting → (GroundAtom → Bool) → List Instance → Bool
is_valid_from lifted world [] = list_all world lifted.goals
is_valid_from lifted world (step ∷ plan) =
    is_instance lifted step && (all_hold lifted step world && is_valid_from lifted (after lifted step world) plan)

-- the plan is valid: from the stated atoms
abbrev pub is_valid : Lifting → List Instance → Bool
is_valid lifted plan = is_valid_from lifted (among lifted.opening) plan
