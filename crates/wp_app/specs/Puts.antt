-- What a sink that tells holds while a text is put piece by piece.
use Rattle.std.specs.Prelude.{◌≡◌, ℕ, ◌≤◌, ◌<◌, List, length, take, Option}
use Rattle.wp_edge.specs.Put.{appended}

-- the first `done` bytes of the text were taken, and no count of faults has fallen
pub record HasPut (held now : Option (List ℕ)) (text : List ℕ) (done before after : ℕ) : Type 0 where
  pub within : done ≤ length text
  pub taken : now ≡ appended held (take done text)
  pub later : before ≤ after

-- a front of the text was taken, and not all of it
abbrev pub IsCut : Option (List ℕ) → Option (List ℕ) → List ℕ → Type 0
IsCut held now text = (done : ℕ) × (done < length text) × (now ≡ appended held (take done text))
