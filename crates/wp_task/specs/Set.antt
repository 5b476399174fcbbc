-- Sets of atoms, and lists of atoms. A set of the atoms below n is a list of n flags, of which the flag at p
-- says whether p is in it: so equal sets of one size are equal lists, and everything here computes.
use Rattle.std.specs.Prelude.{◌≡◌, ◌==◌, ℕ, ◌<◌, ◌≤◌, Bool, true, false, List, length, map, filter, All, slice_index_or}
use Rattle.std.specs.List.{list_any, range_with_len}
use Rattle.std.specs.List.Sorted.{IsStrictlyIncreasing}

-- whether an atom is in the set
abbrev pub has : List Bool → ℕ → Bool
has set p = slice_index_or set p false

abbrev pub IsIn : List Bool → ℕ → Type 0
IsIn set p = has set p ≡ true

-- whether an atom is listed
abbrev pub lists : List ℕ → ℕ → Bool
lists atoms p = list_any (λ q. q == p) atoms

-- the set of the listed atoms
abbrev pub set_of : List ℕ → ℕ → List Bool
set_of atoms size = map (lists atoms) (range_with_len 0 size)

-- the atoms of the set, in order
abbrev pub atoms_in : List Bool → List ℕ
atoms_in set = filter (has set) (range_with_len 0 (length set))

-- the atoms are below `size`, and each is below the next
pub record AreAtoms (size : ℕ) (atoms : List ℕ) : Type 0 where
  pub below : All (λ p. p < size) atoms
  pub rising : IsStrictlyIncreasing atoms

-- p is the least atom of the set from `from` on
pub record IsNext (set : List Bool) (from p : ℕ) : Type 0 where
  pub late : from ≤ p
  pub in_set : has set p ≡ true
  pub none_before : (q : ℕ) → from ≤ q → q < p → has set q ≡ false
