-- Inside dealing and working: what the homes can give, and what jobs take of them.
use Rattle.std.specs.Prelude.{◌≡◌, ◌⊎◌, ℕ, Bool, ◌^◌, ◌<◌, ◌≤◌, true, false, List, [], ◌++◌, length, map, All, Option, None, Some}
use Rattle.std.specs.List.{flat_map, list_all, list_any, AllPairs}
use Rattle.std.specs.Map.{keys_of}
use Rattle.std.specs.Vec.{vec_capacity}
use Rattle.wp_task.specs.Set.{has}
use Rattle.wp_tuples.specs.Placing.{Placing, HasPlace}
use Rattle.wp_tuples.specs.Ranking.{Ranking, is_held, ranked, Extends}
use Rattle.wp_arrive.specs.Seen.{PassView, seen}
use Rattle.wp_novel.specs.declared.birth.Pair.{Pair}
use Rattle.wp_novel.specs.declared.job.JobPass.{JobPass}
use Rattle.wp_novel.specs.declared.deal.Share.{Share}
use Rattle.wp_novel.specs.declared.grow.Growth.{Growth}
use Rattle.wp_novel.specs.Births.{BirthView, is_new}
use Rattle.wp_novel.specs.MarkedTuples.{marked_tuples}
use Rattle.wp_novel.specs.NoveltyTables.{HomeView, first_at, counters_of, is_same, is_among, pairs_of, is_pair, home_of, EachHome, at_home, IsFilled}
use Rattle.wp_novel.specs.Jobs.{JobView, HomesBecome, Grows, Lends, passes_of, parts_at, has_pass, HasWords, AreHeld, IsHeldIn}

abbrev pub Homes : Type 0
Homes = List (Pair × HomeView)

-- ---- shares
abbrev pub births_in : List Share → List BirthView
births_in shares = flat_map (λ share. share.births.items) shares

-- a share has births, and room for a pass for each
abbrev pub AreRoomy : Share → Type 0
AreRoomy share = (0 < length share.births.items) × (length share.births.items ≤ vec_capacity share.passes) × (share.passes.items ≡ [])

-- ---- homes that grow
-- the home with other ranks, and with more words if there are any
abbrev pub pass_or : HomeView → Option PassView → PassView
pass_or home None = seen home.table home.marks home.parts
pass_or home (Some pass) = pass

abbrev pub grown_home : HomeView → Ranking → Option PassView → HomeView
grown_home home ranking shared = at_home ranking (pass_or home shared).table (pass_or home shared).marks (pass_or home shared).parts

abbrev pub IsOfPair : Pair → (BirthView → Type 0) → BirthView → Type 0
IsOfPair pair P b = counters_of pair ≡ b.node.counters → P b

-- the homes and the births are over so many atoms
pub record AreOver (atoms : ℕ) (homes : Homes) (births : List BirthView) : Type 0 where
  pub filled : EachHome (λ pair home. IsFilled home.ranking.width atoms home) homes
  pub sizes : All (λ b. length b.node.state ≡ atoms) births

-- so a home with these atoms can grow, and it then holds the tuples of those of the births that have its pair
pub record CanGrow (atoms : ℕ) (births : List BirthView) (pair : Pair) (home after : HomeView) : Type 0 where
  pub grows : Grows pair home after
  pub filled : IsFilled home.ranking.width atoms after
  pub holds : All (IsOfPair pair (λ b. AreHeld after.ranking b.node.state)) births

pub record IsGrowth (atoms : ℕ) (births : List BirthView) (homes : Homes) (g : Growth) : Type 0 where
  pub home : HomeView
  pub home_is : home_of homes g.pair ≡ Some home
  pub can : CanGrow atoms births g.pair home (grown_home home g.ranks g.shared)

abbrev pub has_growth : List Growth → ℕ × ℕ → Bool
has_growth growths counters = list_any (λ g. is_same (counters_of g.pair) counters) growths

-- growths of different pairs, one for each pair that does not hold the tuples of its births yet
pub record AreGrowths (atoms : ℕ) (births : List BirthView) (homes : Homes) (done : List BirthView) (growths : List Growth) : Type 0 where
  pub each : All (IsGrowth atoms births homes) growths
  pub differ : AllPairs (λ g h. is_pair g.pair h.pair ≡ false) growths
  pub held : All (λ b. IsHeldIn homes b ⊎ (has_growth growths b.node.counters ≡ true)) done

-- the home of its pair took the growth, and the others are as they were
pub record Grew (g : Growth) (old new : Homes) : Type 0 where
  pub pairs : keys_of new ≡ keys_of old
  pub here : (home : HomeView) → home_of old g.pair ≡ Some home → home_of new g.pair ≡ Some (grown_home home g.ranks g.shared)
  pub others : (pair : Pair) → is_pair g.pair pair ≡ false → home_of new pair ≡ home_of old pair

-- what the homes are for the births after they grew
pub record AreGrown (atoms : ℕ) (births : List BirthView) (old new : Homes) : Type 0 where
  pub grows : HomesBecome Grows old new
  pub filled : EachHome (λ pair home. IsFilled home.ranking.width atoms home) new
  pub held : All (IsHeldIn new) births

-- ---- passes that are taken
-- the pass was split from its pair's home, which has words
pub record IsGivenOf (homes : Homes) (p : JobPass) : Type 0 where
  pub home : HomeView
  pub home_is : home_of homes p.pair ≡ Some home
  pub words : 0 < home.table.words
  pub given : p.pass ≡ seen home.table [] 1

-- a pass for each pair of some births, of which those that have no words have none
pub record ArePassesFor (homes : Homes) (births : List BirthView) (passes : List JobPass) : Type 0 where
  pub given : All (IsGivenOf homes) passes
  pub covers : All (λ b. HasWords homes b.node.counters → has_pass passes b.node.counters ≡ true) births
  pub one : (pair : Pair) → parts_at pair passes ≤ 1
  pub only : All (λ p. list_any (λ b. is_same b.node.counters (counters_of p.pair)) births ≡ true) passes
  pub few : length passes ≤ length births

-- a pass more of the pair, unless there was one or the pair has no words
pub record TakesPass (pair : Pair) (passes after : List JobPass) (old new : Homes) : Type 0 where
  pub more : List JobPass
  pub is : after ≡ passes ++ more
  pub homes : HomesBecome (Lends more) old new
  pub given : All (λ p. (p.pair ≡ pair) × IsGivenOf old p) more
  pub few : length more ≤ 1
  pub none_before : 0 < length more → has_pass passes (counters_of pair) ≡ false
  pub covers : HasWords old (counters_of pair) → has_pass after (counters_of pair) ≡ true

-- the pairs of the births are open, and each home can give so many parts and keep one
pub record CanLend (jobs : ℕ) (homes : Homes) (births : List BirthView) : Type 0 where
  pub opens : All (λ b. is_among (pairs_of homes) b.node.counters ≡ true) births
  pub parts : EachHome (λ pair home. jobs < home.parts) homes

-- the jobs have these births and passes for them, which were split from the homes
pub record AreGiven (old new : Homes) (shares : List (List BirthView)) (jobs : List JobView) : Type 0 where
  pub births : map (λ j. j.births) jobs ≡ shares
  pub unworked : All (λ j. j.worked ≡ false) jobs
  pub passes : All (λ j. ArePassesFor old j.births j.passes) jobs
  pub homes : HomesBecome (Lends (passes_of jobs)) old new

-- ---- work
-- the pass is of its pair's table, which has words, and has a part
pub record CanMark (homes : Homes) (p : JobPass) : Type 0 where
  pub home : HomeView
  pub home_is : home_of homes p.pair ≡ Some home
  pub table : p.pass.table ≡ home.table
  pub words : 0 < p.pass.table.words
  pub part : 0 < p.pass.parts

-- the birth's number can be marked at each of its tuples that has a new atom
pub record CanBeMarked (places : Placing) (b : BirthView) : Type 0 where
  pub tuples : All (HasPlace places) (marked_tuples places.width b)
  pub number : b.node.number < 2 ^ 63

-- in its pair, the birth's number can be marked at each of its tuples that has a new atom
abbrev pub CanBeMarkedIn : Homes → BirthView → Type 0
CanBeMarkedIn homes b = EachHome (λ pair home. counters_of pair ≡ b.node.counters → CanBeMarked (ranked home.ranking) b) homes

-- ---- looks
-- the tuples of the birth that have no new atom were marked by numbers below its own
abbrev pub IsEarlierAtOld : Placing → HomeView → BirthView → Type 0
IsEarlierAtOld places home b = (tuple : List ℕ) → HasPlace places tuple → list_all (has b.node.state) tuple ≡ true →
    list_any (is_new b.fresh) tuple ≡ false → first_at home tuple < b.node.number
