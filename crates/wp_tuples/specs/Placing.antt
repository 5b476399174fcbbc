-- What an index is to those who use it: which tuples of atoms have a word of their own in a table, and where. A tuple stands here as the
-- list of its atoms in order. Every single atom has a place; of the pairs an index may leave some out, which it does not count.
use Rattle.std.specs.Prelude.{◌≡◌, ℕ, ◌^◌, ◌<◌, ◌≤◌, Bool, true, List, [], ◌∷◌, length, Contains, ◌↔◌}
use Rattle.wp_tuples.specs.TuplePlaces.{Indexed, place_of, tuples_of}

pub record Placing : Type 0 where
  pub atoms : ℕ
  pub width : ℕ  -- how many atoms a tuple may have
  pub len : ℕ  -- how many places there are
  pub counted : ℕ → ℕ → Bool
  pub atom_place : ℕ → ℕ
  pub pair_place : ℕ → ℕ → ℕ

-- ---- tuples that have a place
-- the pair of p and a greater atom q is counted
abbrev pub IsCounted : Placing → ℕ → ℕ → Type 0
IsCounted places p q = (p < q) × (q < places.atoms) × (places.counted p q ≡ true)

abbrev pub HasPlace : Placing → List ℕ → Type 0
HasPlace places [] = ⊥
HasPlace places (p ∷ []) = p < places.atoms
HasPlace places (p ∷ q ∷ []) = (places.width ≡ 2) × IsCounted places p q
HasPlace places (p ∷ q ∷ r ∷ rest) = ⊥

abbrev pub place_in : Placing → List ℕ → ℕ
place_in places [] = 0
place_in places (p ∷ []) = places.atom_place p
place_in places (p ∷ q ∷ rest) = places.pair_place p q

-- the width is 1 or 2, there are few places, each tuple has one of them, and no two have the same
pub record AreApart (places : Placing) : Type 0 where
  pub width : (1 ≤ places.width) × (places.width ≤ 2)
  pub few : places.len ≤ 2 ^ 32
  pub below : (tuple : List ℕ) → HasPlace places tuple → place_in places tuple < places.len
  pub apart : (one other : List ℕ) → HasPlace places one → HasPlace places other → place_in places one ≡ place_in places other → one ≡ other

-- ---- the index of all tuples
abbrev pub all_placed : Indexed → Placing
all_placed index = record {
  atoms = index.atoms;
  width = index.width;
  len = length (tuples_of index);
  counted = λ p q. true;
  atom_place = λ p. place_of index.atoms (p ∷ []);
  pair_place = λ p q. place_of index.atoms (p ∷ q ∷ []);
}

-- at widths 1 and 2 the tuples that have a place are those of the index
abbrev pub TuplesHavePlaces : Type 0
TuplesHavePlaces = (index : Indexed) (tuple : List ℕ) → 1 ≤ index.width → index.width ≤ 2 →
    Contains (tuples_of index) tuple ↔ HasPlace (all_placed index) tuple
