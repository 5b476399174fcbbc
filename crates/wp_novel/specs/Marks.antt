-- The marks of births, and the least size of a tuple that is not marked by a lesser number.
use Rattle.std.specs.Prelude.{◌≡◌, ◌⊎◌, ◌==◌, ◌&&◌, ℕ, nat_lt, not, ◌+◌, ◌<◌, ◌≤◌, Bool, true, List, [], ◌∷◌, length, map, if◌then◌else◌}
use Rattle.std.specs.List.{list_all, list_any, flat_map}
use Rattle.wp_task.specs.Set.{has}
use Rattle.wp_tuples.specs.Placing.{Placing, HasPlace, place_in}
use Rattle.wp_arrive.specs.declared.view.Arrival.{Arrival}
use Rattle.wp_arrive.specs.FirstArrival.{mark, first}
use Rattle.wp_novel.specs.Births.{BirthView}
use Rattle.wp_novel.specs.MarkedTuples.{pairs_after, marked_tuples}
use Rattle.wp_novel.specs.NoveltyTables.{is_same}

-- a number marked at each of some tuples
abbrev pub marks_at : Placing → ℕ → List (List ℕ) → List Arrival
marks_at places number tuples = map (λ tuple. mark (place_in places tuple) number) tuples

-- the marks of a birth, where it has the counters: its number, at each tuple of its state that has a new atom
abbrev pub birth_marks : Placing → ℕ × ℕ → BirthView → List Arrival
birth_marks places counters b =
    if is_same b.node.counters counters then marks_at places b.node.number (marked_tuples places.width b) else []

-- the marks of those of the births that have the counters
abbrev pub marks_for : Placing → ℕ × ℕ → List BirthView → List Arrival
marks_for places counters births = flat_map (birth_marks places counters) births

-- whether no number below the given one was marked at the tuple
abbrev pub is_late : Placing → List Arrival → ℕ → List ℕ → Bool
is_late places marks number tuple = not (nat_lt (first marks (place_in places tuple)) number)

-- the size of the smallest late tuple of some old and some new atoms that has a new one, or one more than the width
abbrev pub late_size : Placing → List Arrival → ℕ → List ℕ → List ℕ → ℕ
late_size places marks number old new =
    if list_any (is_late places marks number) (map (λ p. p ∷ []) new) then 1
    else if (places.width == 2) && list_any (is_late places marks number) (pairs_after old new) then 2
    else places.width + 1

-- w is the size of the smallest tuple of the state whose first arrival is not below the number, or width + 1 where there is none
pub record IsLeastSize (places : Placing) (firsts : List ℕ → ℕ) (state : List Bool) (number : ℕ) (w : ℕ) : Type 0 where
  pub range : (1 ≤ w) × (w ≤ places.width + 1)
  pub least : (tuple : List ℕ) → HasPlace places tuple → list_all (has state) tuple ≡ true → length tuple < w →
      firsts tuple < number
  pub attained : (w ≡ places.width + 1) ⊎ ((tuple : List ℕ) × HasPlace places tuple × (list_all (has state) tuple ≡ true) ×
      (length tuple ≡ w) × (number ≤ firsts tuple))
