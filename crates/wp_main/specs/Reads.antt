-- What a read of a file up to a limit may answer, whatever the file is.
use Rattle.std.specs.Prelude.{◌≡◌, ℕ, ◌+◌, ◌<◌, ◌≤◌, List, ◌++◌, length, Option, Some, Result, Ok, Err}
use Rattle.std.specs.Global.{Vec}
use Rattle.wp_edge.specs.declared.shelf.FetchError.{FetchError}
use Rattle.wp_edge.specs.declared.shelf.FetchError.TheVariants.{Failed, TooLong, Memory}

abbrev pub IsFaultOrMemory : FetchError → Type 0
IsFaultOrMemory Failed = Unit {0}
IsFaultOrMemory (TooLong got) = ⊥
IsFaultOrMemory Memory = Unit {0}

abbrev pub IsBounded : ℕ → Result (Vec ℕ) FetchError → Type 0
IsBounded limit (Ok bytes) = length bytes.items ≤ limit
IsBounded limit (Err Failed) = Unit {0}
IsBounded limit (Err (TooLong got)) = got ≡ limit + 1
IsBounded limit (Err Memory) = Unit {0}

-- of a reader that tells what is left in it: all of it, or more than the limit is left
abbrev pub IsWhole : Option (List ℕ) → ℕ → Result (Vec ℕ) FetchError → Type 0
IsWhole left limit (Ok bytes) = (whole : List ℕ) → left ≡ Some whole → bytes.items ≡ whole
IsWhole left limit (Err Failed) = Unit {0}
IsWhole left limit (Err (TooLong got)) = (whole : List ℕ) → left ≡ Some whole → limit < length whole
IsWhole left limit (Err Memory) = Unit {0}

-- what was read so far, and what is left
pub record HasRead (left now : Option (List ℕ)) (limit : ℕ) (bytes : List ℕ) : Type 0 where
  pub within : length bytes ≤ limit
  pub told : (whole : List ℕ) → left ≡ Some whole → (rest : List ℕ) × (now ≡ Some rest) × (whole ≡ bytes ++ rest)
