-- Tables that stand for births: what the marks in novelty tables tell of the nodes that were generated.
-- The measure is that of Lipovetzky and Geffner (AAAI 2017), for the counters (#g, #r). A birth is a generated node that is no repeat.
-- Where the first arrival at a tuple is the least number of a birth that has the tuple, the tuple is new at a birth exactly
-- where that number is not below the birth's own.
use Rattle.std.specs.Prelude.{◌≡◌, ◌&&◌, ℕ, ◌-◌, ◌^◌, ◌<◌, ◌≤◌, ◌⊎◌, min, Bool, true, false, List, [], ◌∷◌, length, All, Contains, Option, None, option_map, slice_get, if◌then◌else◌}
use Rattle.std.specs.List.{list_all, list_any, AllPairs}
use Rattle.std.specs.Option.{option_or}
use Rattle.wp_task.specs.Set.{has}
use Rattle.wp_task.specs.Novelty.{Generated}
use Rattle.wp_tuples.specs.Placing.{HasPlace}
use Rattle.wp_novel.specs.Births.{BirthView, is_new}
use Rattle.wp_novel.specs.NoveltyTables.{NoveltyTables, counters_of, is_same, EachHome, IsOpen, first_at}

-- whether the birth has the counters, and its state the tuple
abbrev pub has_tuple : ℕ × ℕ → List ℕ → Generated → Bool
has_tuple counters tuple b = is_same b.counters counters && list_all (has b.state) tuple

-- the least number of a birth with the counters whose state has the tuple, and the greatest word where there is none
abbrev pub first_number : List Generated → ℕ × ℕ → List ℕ → ℕ
first_number [] counters tuple = 2 ^ 64 - 1
first_number (b ∷ births) counters tuple =
    if has_tuple counters tuple b then min b.number (first_number births counters tuple) else first_number births counters tuple

-- the number of the last birth, if any
abbrev pub last_number : List Generated → Option ℕ
last_number births = option_map (λ b. b.number) (slice_get births (length births - 1))

-- that number, and the one before where there is no birth
abbrev pub last_after : List Generated → Option ℕ → Option ℕ
last_after births before = option_or (last_number births) before

-- the first arrival at each tuple is the number of the first birth that has it
abbrev pub AreFirstNumbers : NoveltyTables → List Generated → Type 0
AreFirstNumbers t births = EachHome (λ pair home.
    (tuple : List ℕ) → HasPlace t.index tuple → first_at home tuple ≡ first_number births (counters_of pair) tuple) t.homes

pub record StandsFor (t : NoveltyTables) (births : List Generated) : Type 0 where
  pub rising : AllPairs (λ x y. x.number < y.number) births
  pub pairs : All (λ b. IsOpen t b.counters) births
  pub last : t.last ≡ last_number births
  pub firsts : AreFirstNumbers t births

-- what makes a number the first: no birth that has the tuple has a lesser one, and one that has the tuple has it, or none has
-- the tuple
pub record IsFirstNumber (births : List Generated) (counters : ℕ × ℕ) (tuple : List ℕ) (number : ℕ) : Type 0 where
  pub least : (b : Generated) → Contains births b → has_tuple counters tuple b ≡ true → number ≤ b.number
  pub attained : (number ≡ 2 ^ 64 - 1) ⊎ ((b : Generated) × Contains births b × (has_tuple counters tuple b ≡ true) × (b.number ≡ number))

-- ---- tuples without a new atom
-- each tuple of the birth's state that has no new atom was marked below the bound, in the table of its pair
abbrev pub AreMarkedBelow : NoveltyTables → ℕ → BirthView → Type 0
AreMarkedBelow t bound b = EachHome (λ pair home. counters_of pair ≡ b.node.counters → (tuple : List ℕ) → HasPlace t.index tuple →
    list_all (has b.node.state) tuple ≡ true → list_any (is_new b.fresh) tuple ≡ false → first_at home tuple < bound) t.homes

-- each of them was marked
abbrev pub AreMarked : NoveltyTables → BirthView → Type 0
AreMarked t b = AreMarkedBelow t (2 ^ 64 - 1) b

-- where tables stand for births, one of which has the birth's pair and all its atoms but the new ones, they were marked by that one at
-- the latest
abbrev pub SharedTuplesAreMarked : Type 0
SharedTuplesAreMarked = (t : NoveltyTables) (births : List Generated) (x : Generated) (b : BirthView) (bound : ℕ) → StandsFor t births → Contains births x →
    x.counters ≡ b.node.counters → ((p : ℕ) → has b.node.state p ≡ true → is_new b.fresh p ≡ false → has x.state p ≡ true) → x.number < bound →
    AreMarkedBelow t bound b

-- where every atom is new, there are none
abbrev pub NoTupleIsOld : Type 0
NoTupleIsOld = (t : NoveltyTables) (b : BirthView) (bound : ℕ) → b.fresh ≡ None → AreMarkedBelow t bound b
