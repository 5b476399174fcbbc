-- A walk through the records of a domain and a problem: a value beside all faults of names, in the order in which they are met.
use Rattle.std.specs.Prelude.{ℕ, Bool, Option, None, Some, Result, List}
use Rattle.wp_syntax.specs.declared.error.Part.{Part}
use Rattle.wp_syntax.specs.declared.error.PddlKind.{PddlKind}
use Rattle.wp_syntax.specs.declared.error.PddlError.{PddlError}
use Rattle.wp_syntax.specs.declared.error.PddlError.TheVariants as errors
use Rattle.wp_syntax.specs.Faults.{Checked, faulty, faulty_if, Tells, Returns}
pub use Rattle.wp_syntax.specs.Faults.{fine, ◌>>=◌, ◌>>◌, each, each_after, behind, first}
use Rattle.wp_lift.specs.declared.fault.Fault.{Fault}

abbrev pub Walk : Type 0 → Type 0
Walk A = Checked Fault A

abbrev pub wrong : Part → PddlKind → ℕ → Walk (Unit {0})
wrong part kind at = faulty (record { part = part; kind = kind; at = at })

abbrev pub wrong_if : Bool → Part → PddlKind → ℕ → Walk (Unit {0})
wrong_if found part kind at = faulty_if found (record { part = part; kind = kind; at = at })

-- the fault that an error tells
abbrev pub told_by : PddlError → Option Fault
told_by errors.Memory = None
told_by (errors.Bad part kind at) = Some (record { part = part; kind = kind; at = at })

-- an error is want of memory, or the first fault
abbrev pub Fails : PddlError → List Fault → Type 0
Fails error faults = Tells (told_by error) faults

-- what is returned is the value of a walk without faults, or its first fault
abbrev pub Gives : {A : Type 0} → Result A PddlError → Walk A → Type 0
Gives result walk = Returns told_by result walk

-- the same of a call that takes no memory
abbrev pub Finds : {A : Type 0} → Result A Fault → Walk A → Type 0
Finds result walk = Returns (λ fault. Some fault) result walk
