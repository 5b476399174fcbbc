-- What a write to an output may answer, whatever the output is.
use Rattle.std.specs.Prelude.{◌≡◌, ℕ, ◌≤◌, List, ◌++◌, length, take, Option, Some}

-- some of the piece was taken, from its front, and nothing else, where the output tells what it holds
pub record IsWritten (old new : Option (List ℕ)) (piece : List ℕ) (count : ℕ) : Type 0 where
  pub some : 1 ≤ count
  pub within : count ≤ length piece
  pub told : (held : List ℕ) → old ≡ Some held → new ≡ Some (held ++ take count piece)
