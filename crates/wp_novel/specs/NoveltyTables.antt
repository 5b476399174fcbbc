-- Novelty tables: for each pair of counters (#g, #r) that is open, shared words of the tuples of those atoms that came true in it. What was
-- marked in the words is known by the passes that marked: each open pair has one at home, and each job that is out has one with a part of
-- its own.
use Rattle.std.specs.Prelude.{◌≡◌, ◌≢◌, ◌⊎◌, ◌==◌, ◌&&◌, ℕ, ◌-◌, ◌*◌, ◌^◌, ◌<◌, ◌≤◌, Bool, true, if◌then◌else◌, List, [], ◌∷◌, ◌++◌, length, map, All, Option, Some, IfSome}
use Rattle.std.specs.List.{list_all, list_any, AllPairs}
use Rattle.std.specs.Map.{lookup, keys_of}
use Rattle.wp_tuples.specs.Placing.{Placing, HasPlace, place_in, AreApart}
use Rattle.wp_tuples.specs.Ranking.{Ranking, is_held, ranked, unranked, HoldsAtoms}
use Rattle.wp_arrive.specs.declared.view.Arrival.{Arrival}
use Rattle.wp_arrive.specs.FirstArrival.{first}
use Rattle.wp_arrive.specs.Seen.{TableId}
use Rattle.wp_novel.specs.declared.birth.Pair.{Pair}

-- what is at home of an open pair: the ranks of the atoms that came true in it, and the pass of its words, by its parts
pub record HomeView : Type 0 where
  pub ranking : Ranking
  pub table : TableId
  pub marks : List Arrival
  pub parts : ℕ

abbrev pub at_home : Ranking → TableId → List Arrival → ℕ → HomeView
at_home ranking table marks parts = record { ranking = ranking; table = table; marks = marks; parts = parts }

pub record NoveltyTables : Type 0 where
  pub index : Placing
  pub limit : ℕ  -- how many words there may be
  pub homes : List (Pair × HomeView)  -- the open pairs, each with what is at home
  pub last : Option ℕ  -- the greatest number that was collected
  pub out : List ℕ  -- the numbers of the births that are in jobs

-- tables over an index of a type P, and what they are by the meaning of such an index
pub record TablesOver (P : Type 0) : Type 0 where
  pub index : P
  pub limit : ℕ
  pub homes : List (Pair × HomeView)
  pub last : Option ℕ
  pub out : List ℕ

abbrev pub placed : {P : Type 0} → (P → Placing) → TablesOver P → NoveltyTables
placed places t = record { index = places t.index; limit = t.limit; homes = t.homes; last = t.last; out = t.out }

-- ---- pairs of counters
abbrev pub counters_of : Pair → ℕ × ℕ
counters_of pair = (pair.g, pair.r)

abbrev pub is_same : ℕ × ℕ → ℕ × ℕ → Bool
is_same one other = (one.0 == other.0) && (one.1 == other.1)

-- the open pairs, in the order in which they were opened
abbrev pub pairs_of : List (Pair × HomeView) → List (ℕ × ℕ)
pairs_of homes = map counters_of (keys_of homes)

abbrev pub open_pairs : NoveltyTables → List (ℕ × ℕ)
open_pairs t = pairs_of t.homes

abbrev pub is_among : List (ℕ × ℕ) → ℕ × ℕ → Bool
is_among pairs x = list_any (λ y. is_same y x) pairs

abbrev pub is_open : NoveltyTables → ℕ × ℕ → Bool
is_open t x = is_among (open_pairs t) x

abbrev pub IsOpen : NoveltyTables → ℕ × ℕ → Type 0
IsOpen t x = is_open t x ≡ true

-- ---- homes
abbrev pub is_pair : Pair → Pair → Bool
is_pair one other = (one.g == other.g) && (one.r == other.r)

-- what is at home of a pair, where it is open
abbrev pub home_of : List (Pair × HomeView) → Pair → Option HomeView
home_of homes pair = lookup (is_pair pair) homes

abbrev pub EachHome : (Pair → HomeView → Type 0) → List (Pair × HomeView) → Type 0
EachHome P homes = (pair : Pair) (home : HomeView) → home_of homes pair ≡ Some home → P pair home

-- the first arrival at a tuple: none, where the tuples of one of its atoms are not held
abbrev pub first_at : HomeView → List ℕ → ℕ
first_at home tuple = if list_all (is_held home.ranking) tuple then first home.marks (place_in (ranked home.ranking) tuple) else 2 ^ 64 - 1

-- before an atom came true a pair has no words: all parts of nothing are at home
abbrev pub no_words : TableId
no_words = record { words = 0; slots = 0; views_name = 0; atom = 0; block = 0; offset = 0; slot_names = [] }

abbrev pub bare : Ranking → HomeView
bare ranking = at_home ranking no_words [] (2 ^ 32)

-- no job is out
pub record IsAtHome (t : NoveltyTables) : Type 0 where
  pub none_out : t.out ≡ []
  pub whole : EachHome (λ pair home. home.parts ≡ 2 ^ 32) t.homes

-- no tuple that is held has the place
abbrev pub IsFree : Ranking → ℕ → Type 0
IsFree r place = (tuple : List ℕ) → HasPlace (ranked r) tuple → list_all (is_held r) tuple ≡ true → place_in (ranked r) tuple ≢ place

-- the pair has a word for each tuple of so many atoms that is held, and nothing was marked elsewhere
pub record IsFilled (width atoms : ℕ) (home : HomeView) : Type 0 where
  pub width_is : home.ranking.width ≡ width
  pub atoms_are : (home.ranking ≡ unranked width 0) ⊎ (length home.ranking.ranks ≡ atoms)
  pub apart : AreApart (ranked home.ranking)
  pub within : HoldsAtoms home.ranking
  pub words : (ranked home.ranking).len ≤ home.table.words
  pub unmarked : (place : ℕ) → IsFree home.ranking place → first home.marks place ≡ 2 ^ 64 - 1

-- each open pair is filled, and were there a word for each tuple of each of them, these would be within the limit; the numbers that are out
-- rise, and are greater than those that were collected
pub record AreFilled (t : NoveltyTables) : Type 0 where
  pub apart : AreApart t.index
  pub homes : EachHome (λ pair home. IsFilled t.index.width t.index.atoms home) t.homes
  pub within : length t.homes * t.index.len ≤ t.limit
  pub limited : t.limit ≤ 536870912
  pub rising : AllPairs (λ x y. x < y) t.out
  pub later : IfSome t.last (λ last. All (λ n. last < n) t.out)

-- a pair was opened, and all else is as before
pub record IsOpened (pair : Pair) (old new : NoveltyTables) : Type 0 where
  pub home : HomeView
  pub unmarked : home.marks ≡ []
  pub whole : home.parts ≡ 2 ^ 32
  pub opened : new ≡ record old { homes = old.homes ++ (pair, home) ∷ [] }
