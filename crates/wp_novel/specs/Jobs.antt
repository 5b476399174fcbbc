-- Jobs: births that are dealt to workers, with the passes by which they are marked.
use Rattle.std.specs.Prelude.{◌≡◌, ℕ, ◌+◌, ◌^◌, ◌<◌, ◌≤◌, Bool, true, false, List, [], ◌∷◌, ◌++◌, length, map, All, Option, None, Some, if◌then◌else◌}
use Rattle.std.specs.List.{flat_map, list_all, list_any}
use Rattle.std.specs.Map.{keys_of}
use Rattle.wp_task.specs.Set.{atoms_in}
use Rattle.wp_tuples.specs.Placing.{Placing}
use Rattle.wp_tuples.specs.Ranking.{Ranking, is_held, ranked, unranked, Extends}
use Rattle.wp_arrive.specs.declared.view.Arrival.{Arrival}
use Rattle.wp_arrive.specs.Seen.{seen}
use Rattle.wp_novel.specs.declared.birth.Pair.{Pair}
use Rattle.wp_novel.specs.declared.job.JobPass.{JobPass}
use Rattle.wp_novel.specs.Births.{BirthView, numbers_of}
use Rattle.wp_novel.specs.MarkedTuples.{AreCounted}
use Rattle.wp_novel.specs.NoveltyTables.{NoveltyTables, HomeView, at_home, counters_of, is_same, is_pair, home_of, EachHome, IsOpen}
use Rattle.wp_novel.specs.StandsFor.{AreMarked}
use Rattle.wp_novel.specs.Marks.{marks_for}

pub record JobView : Type 0 where
  pub births : List BirthView
  pub passes : List JobPass  -- one for each pair of the births
  pub worked : Bool

-- ---- work
-- the places of the tuples of a pair: those that its ranks say
abbrev pub ranking_at : Option HomeView → Ranking
ranking_at None = unranked 1 0
ranking_at (Some home) = home.ranking

abbrev pub places_at : List (Pair × HomeView) → Pair → Placing
places_at homes pair = ranked (ranking_at (home_of homes pair))

-- the pass, after it marked those of the births that have its pair
abbrev pub worked_pass : List (Pair × HomeView) → List BirthView → JobPass → JobPass
worked_pass homes births p =
    record { pair = p.pair; pass = seen p.pass.table (p.pass.marks ++ marks_for (places_at homes p.pair) (counters_of p.pair) births) p.pass.parts }

abbrev pub worked_job : List (Pair × HomeView) → JobView → JobView
worked_job homes j = record { births = j.births; passes = map (worked_pass homes j.births) j.passes; worked = true }

-- ---- many jobs
abbrev pub births_of : List JobView → List BirthView
births_of jobs = flat_map (λ j. j.births) jobs

abbrev pub passes_of : List JobView → List JobPass
passes_of jobs = flat_map (λ j. j.passes) jobs

-- the parts and the marks of the passes of a pair
abbrev pub parts_at : Pair → List JobPass → ℕ
parts_at pair [] = 0
parts_at pair (p ∷ passes) = if is_pair pair p.pair then p.pass.parts + parts_at pair passes else parts_at pair passes

abbrev pub passed_at : Pair → List JobPass → List Arrival
passed_at pair [] = []
passed_at pair (p ∷ passes) = if is_pair pair p.pair then p.pass.marks ++ passed_at pair passes else passed_at pair passes

-- ---- jobs of tables
-- the birth can be marked: its pair is open, and the tuples of its state that have no new atom were marked
pub record IsReady (t : NoveltyTables) (b : BirthView) : Type 0 where
  pub pair : IsOpen t b.node.counters
  pub size : length b.node.state ≡ t.index.atoms
  pub number : b.node.number < 2 ^ 63
  pub counted : AreCounted t.index b.node.state
  pub marked : AreMarked t b

-- the pass is of its pair's table and has one part; it has the marks that its job made, and none before the job is worked
pub record IsPassOf (t : NoveltyTables) (worked : Bool) (births : List BirthView) (p : JobPass) : Type 0 where
  pub home : HomeView
  pub home_is : home_of t.homes p.pair ≡ Some home
  pub table : p.pass.table ≡ home.table
  pub words : 0 < p.pass.table.words
  pub part : p.pass.parts ≡ 1
  pub marks : p.pass.marks ≡ (if worked then marks_for (ranked home.ranking) (counters_of p.pair) births else [])

abbrev pub has_pass : List JobPass → ℕ × ℕ → Bool
has_pass passes counters = list_any (λ p. is_same (counters_of p.pair) counters) passes

-- the tuples of each atom of a state are held
abbrev pub AreHeld : Ranking → List Bool → Type 0
AreHeld r state = list_all (is_held r) (atoms_in state) ≡ true

-- in the pair of the birth the tuples of its state are held
abbrev pub IsHeldIn : List (Pair × HomeView) → BirthView → Type 0
IsHeldIn homes b = EachHome (λ pair home. counters_of pair ≡ b.node.counters → AreHeld home.ranking b.node.state) homes

-- the pair with these counters has words
abbrev pub HasWords : List (Pair × HomeView) → ℕ × ℕ → Type 0
HasWords homes counters = (pair : Pair) (home : HomeView) → counters_of pair ≡ counters → home_of homes pair ≡ Some home → 0 < home.table.words

-- a job of the tables, worked or not: it has exactly one pass for each pair of its births, where there are words, and the tuples of its
-- births are held
pub record IsJobOf (t : NoveltyTables) (worked : Bool) (j : JobView) : Type 0 where
  pub worked_is : j.worked ≡ worked
  pub passes : All (IsPassOf t worked j.births) j.passes
  pub covers : All (λ b. HasWords t.homes b.node.counters → has_pass j.passes b.node.counters ≡ true) j.births
  pub one : (pair : Pair) → parts_at pair j.passes ≤ 1
  pub only : All (λ p. list_any (λ b. is_same b.node.counters (counters_of p.pair)) j.births ≡ true) j.passes
  pub ready : All (IsReady t) j.births
  pub held : All (IsHeldIn t.homes) j.births

-- all parts of each pair are at home and in the passes
abbrev pub AreShared : List JobPass → List (Pair × HomeView) → Type 0
AreShared passes homes = EachHome (λ pair home. home.parts + parts_at pair passes ≡ 2 ^ 32) homes

-- the jobs are all that are out of the tables
pub record AreOut (t : NoveltyTables) (worked : Bool) (jobs : List JobView) : Type 0 where
  pub jobs_are : All (IsJobOf t worked) jobs
  pub numbers : numbers_of (births_of jobs) ≡ t.out
  pub shared : AreShared (passes_of jobs) t.homes

-- ---- deal and collect
-- what becomes of the homes, of which there are no more and no fewer
pub record HomesBecome (R : Pair → HomeView → HomeView → Type 0) (old new : List (Pair × HomeView)) : Type 0 where
  pub pairs : keys_of new ≡ keys_of old
  pub homes : EachHome (λ pair home. (after : HomeView) × (home_of new pair ≡ Some after) × R pair home after) old

-- the tuples of more atoms are held, and all marks and parts are as before
pub record Grows (pair : Pair) (home after : HomeView) : Type 0 where
  pub ranking : Extends home.ranking after.ranking
  pub marks : after.marks ≡ home.marks
  pub parts : after.parts ≡ home.parts

-- the home gave its parts of these passes away, and kept its marks
pub record Lends (passes : List JobPass) (pair : Pair) (home after : HomeView) : Type 0 where
  pub ranking : after.ranking ≡ home.ranking
  pub table : after.table ≡ home.table
  pub marks : after.marks ≡ home.marks
  pub parts : after.parts + parts_at pair passes ≡ home.parts

-- the home took the parts and the marks of these passes
abbrev pub Takes : List JobPass → Pair → HomeView → HomeView → Type 0
Takes passes pair home after = after ≡ at_home home.ranking home.table (home.marks ++ passed_at pair passes) (home.parts + parts_at pair passes)

-- these jobs were dealt, after the homes grew
pub record AreDealt (jobs : List JobView) (old new : NoveltyTables) : Type 0 where
  pub index : new.index ≡ old.index
  pub limit : new.limit ≡ old.limit
  pub last : new.last ≡ old.last
  pub grown : List (Pair × HomeView)
  pub grows : HomesBecome Grows old.homes grown
  pub homes : HomesBecome (Lends (passes_of jobs)) grown new.homes

-- and these were collected
pub record AreCollected (jobs : List JobView) (old new : NoveltyTables) : Type 0 where
  pub index : new.index ≡ old.index
  pub limit : new.limit ≡ old.limit
  pub homes : HomesBecome (Takes (passes_of jobs)) old.homes new.homes

-- ---- the law of work
-- where jobs are out of the tables and are worked, all of them, the worked ones are out
abbrev pub WorkIsOut : Type 0
WorkIsOut = (t : NoveltyTables) (jobs : List JobView) → AreOut t false jobs → AreOut t true (map (worked_job t.homes) jobs)
