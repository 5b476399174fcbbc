-- How the code of a step meets the definition of that step. The code stops with a reply where the definition ends with it, and
-- besides where a file was not read or memory was refused.
use Rattle.std.specs.Prelude.{◌≡◌, ℕ, Option, Some, Result, Ok, Err, IfErr, IsTrue, ◌⊎◌}
use Rattle.wp_edge.specs.Faults.{Rose}
use Rattle.wp_edge.specs.Fetch.{Contents}
use Rattle.wp_syntax.specs.declared.error.Part.{Part}
use Rattle.wp_app.specs.Steps.{Step, missing, ends, goes}
use Rattle.wp_app.specs.Statuses.{is_of_files}
use Rattle.wp_app.specs.declared.stop.Stop.{Stop}
use Rattle.wp_app.specs.declared.stop.Stop.TheVariants.{Ends, ReadFault, Memory}

-- a reply that stops a command is one that the definition of its output has
abbrev pub IsDefinedStop : Stop → Type 0
IsDefinedStop (Ends reply) = IsTrue (is_of_files reply.status)
IsDefinedStop (ReadFault part) = Unit {0}
IsDefinedStop Memory = Unit {0}

-- the value that the step goes on with, or the reply that it ends with
abbrev pub Gives : {A : Type 0} → Step A → Result A Stop → Type 0
Gives step (Ok value) = step ≡ goes value
Gives step (Err (Ends reply)) = step ≡ ends reply
Gives step (Err (ReadFault part)) = Unit {0}
Gives step (Err Memory) = Unit {0}

abbrev pub IsReadFault : {A : Type 0} → Result A Stop → Type 0
IsReadFault (Ok value) = ⊥
IsReadFault (Err (Ends reply)) = ⊥
IsReadFault (Err (ReadFault part)) = Unit {0}
IsReadFault (Err Memory) = ⊥

-- where a file was not read, what holds of its part
abbrev pub IfUnread : {A : Type 0} → Result A Stop → (Part → Type 0) → Type 0
IfUnread (Ok value) P = Unit {0}
IfUnread (Err (Ends reply)) P = Unit {0}
IfUnread (Err (ReadFault part)) P = P part
IfUnread (Err Memory) P = Unit {0}

-- the result of a step that reads no file
pub record Meets {A : Type 0} (step : Step A) (result : Result A Stop) : Type 0 where
  pub defined : IfErr result IsDefinedStop
  pub gives : Gives step result
  pub read : IsReadFault result → ⊥

-- the result of a step over the files, where the shelf tells them. A file is unread only where the shelf's count rose, or
-- where the step misses a file.
pub record Follows {A : Type 0} (contents : Option Contents) (step : Contents → Step A) (before now : ℕ) (result : Result A Stop) : Type 0 where
  pub defined : IfErr result IsDefinedStop
  pub gives : (files : Contents) → contents ≡ Some files → Gives (step files) result
  pub fault : IsReadFault result → Rose before now ⊎ ((files : Contents) × (contents ≡ Some files) × (step files ≡ missing))
