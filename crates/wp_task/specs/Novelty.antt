-- Novelty of a generated node, after Lipovetzky and Geffner (AAAI 2017), for the counters (#g, #r).
-- Ours: the novelty is width + 1 where no tuple of up to `width` atoms is new; a repeat is no node here.
use Rattle.std.specs.Prelude.{◌≡◌, ◌==◌, ◌&&◌, not, ℕ, ◌+◌, ◌<◌, ◌≤◌, ◌⊎◌, ◌↔◌, nat_lt, zero, suc, Bool, List, [], ◌∷◌, ◌++◌, length, map, filter, All, Contains}
use Rattle.std.specs.List.{flat_map, list_all, list_any, position_or_len, range_with_len}
use Rattle.wp_task.specs.Set.{has, IsIn, atoms_in}

-- a generated node: its number in the order of generation, its counters, and the atoms true in it
pub record Generated : Type 0 where
  pub number : ℕ
  pub counters : ℕ × ℕ
  pub state : List Bool

-- the tuple is true at x, and at no node that was generated before x with the counters of x
-- (a tuple that names an atom twice is as new as without it, so sizes come out as those of sets)
pub record IsNewAt (nodes : List Generated) (x : Generated) (tuple : List ℕ) : Type 0 where
  pub holds : All (IsIn x.state) tuple
  pub new : (y : Generated) → Contains nodes y → y.number < x.number → y.counters ≡ x.counters → ¬ (All (IsIn y.state) tuple)

-- w is the size of the smallest new tuple, or width + 1 where none of up to width atoms is new
pub record HasNovelty (width : ℕ) (nodes : List Generated) (x : Generated) (w : ℕ) : Type 0 where
  pub range : (1 ≤ w) × (w ≤ width + 1)
  pub least : (tuple : List ℕ) → 1 ≤ length tuple → length tuple < w → ¬ (IsNewAt nodes x tuple)
  pub attained : (w ≡ width + 1) ⊎ ((tuple : List ℕ) × (length tuple ≡ w) × IsNewAt nodes x tuple)

-- the sets of i of the atoms, each as a list in their order
abbrev pub sets_of : ℕ → List ℕ → List (List ℕ)
sets_of zero atoms = [] ∷ []
sets_of (suc i) [] = []
sets_of (suc i) (p ∷ atoms) = map (λ set. p ∷ set) (sets_of i atoms) ++ sets_of (suc i) atoms

-- the tuples: the sets of 1 to `width` of the atoms below `atoms`
abbrev pub tuples_in : ℕ → ℕ → List (List ℕ)
tuples_in width atoms = flat_map (λ i. sets_of i (range_with_len 0 atoms)) (range_with_len 1 width)

-- whether y was generated before x, with its counters
abbrev pub is_earlier : Generated → Generated → Bool
is_earlier x y = nat_lt y.number x.number && ((y.counters.0 == x.counters.0) && (y.counters.1 == x.counters.1))

-- whether no node that was generated before x with its counters has the whole tuple
abbrev pub is_new : List Generated → Generated → List ℕ → Bool
is_new nodes x tuple = list_all (λ y. not (list_all (has y.state) tuple)) (filter (is_earlier x) nodes)

-- whether some i atoms of x are new together
abbrev pub has_new : List Generated → Generated → ℕ → Bool
has_new nodes x i = list_any (is_new nodes x) (sets_of i (atoms_in x.state))

-- the novelty, computed: the least size from 1 to `width` at which some atoms are new together, or width + 1
abbrev pub novelty_of : ℕ → List Generated → Generated → ℕ
novelty_of width nodes x = 1 + position_or_len (has_new nodes x) (range_with_len 1 width)

-- the computed novelty is the one that the relation holds of
abbrev pub NoveltyIsComputed : Type 0
NoveltyIsComputed = (width : ℕ) (nodes : List Generated) (x : Generated) (w : ℕ) →
    HasNovelty width nodes x w ↔ (w ≡ novelty_of width nodes x)
