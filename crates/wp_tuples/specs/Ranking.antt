-- Ranks of atoms. An index may have places for those pairs alone whose atoms have a rank: the rank of an atom says how many atoms got one
-- before it. So the pairs of few atoms lie together, however many atoms there are.
-- Ours: a single atom has the place of its number, and two atoms that of the pair of their ranks behind all single atoms.
use Rattle.std.specs.Prelude.{◌≡◌, ◌⊎◌, ◌&&◌, ℕ, nat_lt, ◌+◌, ◌-◌, ◌*◌, ◌/◌, ◌^◌, ◌<◌, ◌≤◌, ◌==◌, if◌then◌else◌, min, max, Bool, true, List, [], ◌∷◌, length, slice_index_or, replicate}
use Rattle.std.specs.List.{list_all}
use Rattle.wp_tuples.specs.Placing.{Placing, place_in}

pub record Ranking : Type 0 where
  pub width : ℕ
  pub ranks : List ℕ  -- the rank of each atom, or 2^32 - 1 where it has none
  pub used : ℕ  -- how many atoms have a rank

abbrev pub rank_of : Ranking → ℕ → ℕ
rank_of r p = slice_index_or r.ranks p (2 ^ 32 - 1)

abbrev pub is_ranked : Ranking → ℕ → Bool
is_ranked r p = nat_lt (rank_of r p) r.used

-- how many pairs there are of the numbers below q
abbrev pub pairs_below : ℕ → ℕ
pairs_below q = q * (q - 1) / 2

-- whether the tuples of an atom are held: at width 1 those of all atoms are, at width 2 those of the atoms that have a rank
abbrev pub is_held : Ranking → ℕ → Bool
is_held r p = if r.width == 2 then is_ranked r p else nat_lt p (length r.ranks)

-- the index of the single atoms and of the pairs of atoms that have ranks
abbrev pub ranked : Ranking → Placing
ranked r = record {
  atoms = length r.ranks;
  width = r.width;
  len = length r.ranks + pairs_below r.used;
  counted = λ p q. is_held r p && is_held r q;
  atom_place = λ p. p;
  pair_place = λ p q. length r.ranks + pairs_below (max (rank_of r p) (rank_of r q)) + min (rank_of r p) (rank_of r q);
}

-- no two atoms have the same rank
pub record IsRanking (r : Ranking) : Type 0 where
  pub width : (1 ≤ r.width) × (r.width ≤ 2)
  pub atoms : length r.ranks ≤ 2 ^ 31
  pub few : r.used ≤ 65536
  pub given : (p : ℕ) → (rank_of r p < r.used) ⊎ (rank_of r p ≡ 2 ^ 32 - 1)
  pub apart : (p q : ℕ) → rank_of r p < r.used → rank_of r p ≡ rank_of r q → p ≡ q

-- no atom of so many has a rank
abbrev pub unranked : ℕ → ℕ → Ranking
unranked width atoms = record { width = width; ranks = replicate atoms (2 ^ 32 - 1); used = 0 }

-- what is held stays so, at the places where it was
pub record Extends (old new : Ranking) : Type 0 where
  pub width : new.width ≡ old.width
  pub held : (p : ℕ) → is_held old p ≡ true → is_held new p ≡ true
  pub same : (tuple : List ℕ) → list_all (is_held old) tuple ≡ true → place_in (ranked new) tuple ≡ place_in (ranked old) tuple

-- an atom whose tuples are held is one of the atoms
abbrev pub HoldsAtoms : Ranking → Type 0
HoldsAtoms r = (p : ℕ) → is_held r p ≡ true → p < length r.ranks
