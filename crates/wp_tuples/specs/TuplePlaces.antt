-- Places of tuples in a table with one word a tuple. A tuple is a set of 1 to `width` of the atoms below `atoms`, as the
-- novelty of a node asks for, and stands here as the list of its atoms in order.
-- Ours: the single atoms come first, by number; then the pairs, by their greater atom and then by their smaller one.
use Rattle.std.specs.Prelude.{◌≡◌, ℕ, ◌+◌, ◌-◌, ◌*◌, ◌/◌, ◌<◌, List, [], ◌∷◌, length, Contains}
use Rattle.wp_task.specs.Novelty.{tuples_in}

-- what an index is for
pub record Indexed : Type 0 where
  pub atoms : ℕ
  pub width : ℕ

abbrev pub tuples_of : Indexed → List (List ℕ)
tuples_of index = tuples_in index.width index.atoms

-- the place of a tuple of one or two atoms; larger ones have none
abbrev pub place_of : ℕ → List ℕ → ℕ
place_of atoms [] = 0
place_of atoms (p ∷ []) = p
place_of atoms (p ∷ q ∷ rest) = atoms + q * (q - 1) / 2 + p

-- the places number the tuples: each has one below their count, no two have the same, and no place is left over
pub record AreNumbered (atoms width : ℕ) : Type 0 where
  pub below : (tuple : List ℕ) → Contains (tuples_in width atoms) tuple → place_of atoms tuple < length (tuples_in width atoms)
  pub apart : (one other : List ℕ) → Contains (tuples_in width atoms) one → Contains (tuples_in width atoms) other →
      place_of atoms one ≡ place_of atoms other → one ≡ other
  pub all : (place : ℕ) → place < length (tuples_in width atoms) →
      (tuple : List ℕ) × Contains (tuples_in width atoms) tuple × (place_of atoms tuple ≡ place)
