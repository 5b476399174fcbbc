-- Reading a tree: a value beside all faults, in the order in which a walk from the left meets them, each list before its items.
use Rattle.std.specs.Prelude.{◌≡◌, ◌⊎◌, ℕ, Bool, true, false, List, [], ◌++◌, Option, Some, None, Result, Err}
use Rattle.wp_lex.specs.Trees.{Tree, Trees, End, Then}
use Rattle.wp_syntax.specs.declared.error.PddlKind.{PddlKind}
use Rattle.wp_syntax.specs.declared.error.PddlKind.TheVariants as kinds
use Rattle.wp_syntax.specs.declared.error.ReadKind.{ReadKind}
use Rattle.wp_syntax.specs.declared.error.ReadKind.TheVariants.{Shape, Unsupported, Reserved, Duplicate, TooMany}
use Rattle.wp_syntax.specs.declared.error.Fault.{Fault}
use Rattle.wp_syntax.specs.declared.error.ReadError.{ReadError}
use Rattle.wp_syntax.specs.declared.error.Part.{Part}
use Rattle.wp_syntax.specs.declared.error.PddlError.{PddlError}
use Rattle.wp_syntax.specs.declared.error.PddlError.TheVariants as errors
use Rattle.wp_syntax.specs.declared.error.ReadError.TheVariants as read_errors
use Rattle.wp_syntax.specs.Faults.{Checked, faulty, faulty_if, Tells, Returns, Becomes}
pub use Rattle.wp_syntax.specs.Faults.{fine, ◌>>=◌, ◌>>◌, behind, first}

-- a fault of a tree
abbrev pub Wrong : Type 0
Wrong = Fault

abbrev pub Read : Type 0 → Type 0
Read A = Checked Fault A

abbrev pub wrong : ReadKind → ℕ → Read (Unit {0})
wrong kind at = faulty (record { kind = kind; at = at })

abbrev pub wrong_if : Bool → ReadKind → ℕ → Read (Unit {0})
wrong_if found kind at = faulty_if found (record { kind = kind; at = at })

-- each tree of a row in turn
abbrev pub each : {A : Type 0} → (Tree → Read (List A)) → Trees → Read (List A)
each one End = fine []
each one (Then tree rest) = one tree >>= λ front. each one rest >>= λ back. fine (front ++ back)

-- the fault that an error tells
abbrev pub told_by : ReadError → Option Fault
told_by read_errors.Memory = None
told_by (read_errors.Bad fault) = Some fault

-- An error other than want of memory is the first fault.
abbrev pub Fails : ReadError → List Wrong → Type 0
Fails e faults = Tells (told_by e) faults

-- A call returns the value of a reading, or how it fails.
abbrev pub Gives : {A : Type 0} → Result A ReadError → Read A → Type 0
Gives result read = Returns told_by result read

-- A call that takes no memory returns the value of a reading, or the first fault.
abbrev pub Finds : {A : Type 0} → Result A Fault → Read A → Type 0
Finds result read = Returns (λ fault. Some fault) result read

-- A call changes a state to the value.
abbrev pub Turns : {A U : Type 0} → Result U ReadError → A → Read A → Type 0
Turns result new read = Becomes told_by result new read

-- A call appends the value to a list: old and new are the list before and after.
abbrev pub Adds : {A U : Type 0} → Result U ReadError → List A → List A → Read (List A) → Type 0
Adds result old new read = Becomes told_by result new (behind old read)

-- A call that takes no memory finds nothing wrong, or the first fault.
abbrev pub Passes : {U : Type 0} → Result U Fault → Read (Unit {0}) → Type 0
Passes result read = Becomes (λ fault. Some fault) result tt read

-- what a fault of a tree is among all kinds
abbrev pub pddl_kind : ReadKind → PddlKind
pddl_kind Shape = kinds.Shape
pddl_kind (Unsupported word) = kinds.Unsupported word
pddl_kind Reserved = kinds.Reserved
pddl_kind Duplicate = kinds.Duplicate
pddl_kind (TooMany limit) = kinds.TooMany limit

-- the kinds of faults of trees; the others are of names
abbrev pub is_of_trees : PddlKind → Bool
is_of_trees kinds.Shape = true
is_of_trees (kinds.Unsupported word) = true
is_of_trees kinds.Reserved = true
is_of_trees kinds.Duplicate = true
is_of_trees (kinds.TooMany limit) = true
is_of_trees kinds.UnknownType = false
is_of_trees kinds.UnknownPredicate = false
is_of_trees kinds.UnknownObject = false
is_of_trees kinds.UnknownVariable = false
is_of_trees kinds.Arity = false

abbrev pub IsOfTrees : PddlError → Type 0
IsOfTrees errors.Memory = Unit {0}
IsOfTrees (errors.Bad part kind at) = is_of_trees kind ≡ true

-- the refusal of a part for a fault
abbrev pub refusal_at : Part → Wrong → PddlError
refusal_at part fault = errors.Bad part (pddl_kind fault.kind) fault.at

-- how a reading ended, told of the part
abbrev pub error_of : Part → ReadError → PddlError
error_of part read_errors.Memory = errors.Memory
error_of part (read_errors.Bad fault) = refusal_at part fault

-- want of memory, or the first fault, told of the part
abbrev pub IsRefusal : Part → List Wrong → PddlError → Type 0
IsRefusal part faults errors.Memory = Unit {0}
IsRefusal part faults (errors.Bad told kind at) =
    (fault : Wrong) × (first faults ≡ Some fault) × (errors.Bad told kind at ≡ refusal_at part fault)

-- What is returned is the answer, or want of memory in its place.
abbrev pub IsAnswer : {A : Type 0} → Result A PddlError → Result A PddlError → Type 0
IsAnswer result answer = (result ≡ answer) ⊎ (result ≡ Err errors.Memory)
