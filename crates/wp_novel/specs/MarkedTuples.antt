-- The tuples of a birth that are marked and looked at: those of its state that have a new atom. First come the new atoms alone, and then, at
-- width 2, for each new atom in order its pairs with the atoms that are not new and with the new ones before it: each pair once.
use Rattle.std.specs.Prelude.{◌≡◌, ◌==◌, ◌↔◌, ◌<◌, ℕ, nat_lt, not, Bool, true, List, [], ◌∷◌, ◌++◌, length, map, filter, Contains, if◌then◌else◌}
use Rattle.std.specs.List.{list_all, list_any}
use Rattle.wp_task.specs.Set.{has, atoms_in}
use Rattle.wp_tuples.specs.Placing.{Placing, HasPlace, AreApart}
use Rattle.wp_novel.specs.Births.{BirthView, is_new}

-- the pair of two atoms, the lesser one first
abbrev pub pair_of : ℕ → ℕ → List ℕ
pair_of p q = if nat_lt p q then p ∷ q ∷ [] else q ∷ p ∷ []

-- for each of some atoms its pairs with those seen before
abbrev pub pairs_after : List ℕ → List ℕ → List (List ℕ)
pairs_after before [] = []
pairs_after before (q ∷ atoms) = map (λ p. pair_of p q) before ++ pairs_after (before ++ q ∷ []) atoms

-- the tuples of some old and some new atoms that have a new one
abbrev pub tuples_with_new : ℕ → List ℕ → List ℕ → List (List ℕ)
tuples_with_new width old new = map (λ p. p ∷ []) new ++ (if width == 2 then pairs_after old new else [])

abbrev pub new_atoms : BirthView → List ℕ
new_atoms b = filter (is_new b.fresh) (atoms_in b.node.state)

abbrev pub old_atoms : BirthView → List ℕ
old_atoms b = filter (λ p. not (is_new b.fresh p)) (atoms_in b.node.state)

abbrev pub marked_tuples : ℕ → BirthView → List (List ℕ)
marked_tuples width b = tuples_with_new width (old_atoms b) (new_atoms b)

-- at width 2 every two atoms of the state are counted
abbrev pub AreCounted : Placing → List Bool → Type 0
AreCounted places state = places.width ≡ 2 → (p q : ℕ) → p < q → has state p ≡ true → has state q ≡ true → places.counted p q ≡ true

-- the list has exactly the tuples of the state that have a new atom, and all of them have places
abbrev pub MarkedTuplesAreNew : Type 0
MarkedTuplesAreNew = (places : Placing) (b : BirthView) (tuple : List ℕ) → AreApart places → length b.node.state ≡ places.atoms → AreCounted places b.node.state →
    Contains (marked_tuples places.width b) tuple ↔ (HasPlace places tuple × (list_all (has b.node.state) tuple ≡ true) × (list_any (is_new b.fresh) tuple ≡ true))
