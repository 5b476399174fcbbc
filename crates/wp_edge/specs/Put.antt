-- What a sink holds after a put. A sink that does not tell what it holds tells nothing before or after.
use Rattle.std.specs.Prelude.{◌≡◌, ℕ, ◌≤◌, List, ◌++◌, length, take, Option, option_map}

-- the bytes follow what was held
abbrev pub appended : Option (List ℕ) → List ℕ → Option (List ℕ)
appended held bytes = option_map (λ old. old ++ bytes) held

-- some of the piece was taken, from its front, and nothing else
pub record IsTaken (old new : Option (List ℕ)) (piece : List ℕ) (count : ℕ) : Type 0 where
  pub some : 1 ≤ count
  pub within : count ≤ length piece
  pub held : new ≡ appended old (take count piece)
