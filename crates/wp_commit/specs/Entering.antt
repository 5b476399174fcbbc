-- The children of an expansion as births: which of their atoms are fresh, and what novelty tables ask of them. A child's fresh atoms are
-- those that an earlier birth of its pair lacks, so that each tuple without one was marked by that birth or before it.
use Rattle.std.specs.Prelude.{◌≡◌, ◌⊎◌, ◌<◌, ℕ, Bool, false, List, length, IfSome, Contains}
use Rattle.wp_task.specs.Set.{lists, IsIn}
use Rattle.wp_task.specs.Novelty.{Generated}
use Rattle.wp_count.specs.declared.brood.Child.{Child}
use Rattle.wp_novel.specs.declared.birth.Pair.{Pair}
use Rattle.wp_novel.specs.Births.{BirthView}
use Rattle.wp_novel.specs.MarkedTuples.{AreCounted}
use Rattle.wp_novel.specs.NoveltyTables.{NoveltyTables, counters_of, IsOpen}
use Rattle.wp_novel.specs.StandsFor.{StandsFor, AreMarkedBelow}
use Rattle.wp_nodes.specs.declared.kept.Kept.{Kept}
use Rattle.wp_commit.specs.declared.searched.Searched.{Searched}
use Rattle.wp_commit.specs.Latest.{HasLatestState}

-- ---- fresh atoms
-- the state is that of a parent with the pair, or of the pair's latest birth
abbrev pub IsEarlier : Searched → Kept → ℕ × ℕ → List Bool → Type 0
IsEarlier s parent counters state = ((parent.state ≡ state) × ((parent.mark.g, parent.mark.r) ≡ counters))
    ⊎ ((pair : Pair) × (counters_of pair ≡ counters) × HasLatestState s.nodes.kept s.latest.entries pair state)

-- all atoms of the state that are not among these are in the earlier one
abbrev pub AreBeside : List Bool → List Bool → List ℕ → Type 0
AreBeside state earlier atoms = (p : ℕ) → IsIn state p → lists atoms p ≡ false → IsIn earlier p

abbrev pub AreFresh : Searched → Kept → ℕ × ℕ → List Bool → List ℕ → Type 0
AreFresh s parent counters state atoms = (earlier : List Bool) × IsEarlier s parent counters earlier × AreBeside state earlier atoms

-- the fresh atoms of a birth, where it has such
abbrev pub IsFresh : Searched → Kept → BirthView → Type 0
IsFresh s parent b = IfSome b.fresh (AreFresh s parent b.node.counters b.node.state)

-- ---- what novelty tables ask
-- the birth is one with these counters and this state, and its number is below the bound
pub record HasBirth (births : List Generated) (bound : ℕ) (counters : ℕ × ℕ) (state : List Bool) : Type 0 where
  pub birth : Generated
  pub there : Contains births birth
  pub counters_are : birth.counters ≡ counters
  pub state_is : birth.state ≡ state
  pub before : birth.number < bound

-- the tables stand for births, among which are those whose states a child is compared with
pub record StandsForEarlier (s : Searched) (parent : Kept) (tables : NoveltyTables) : Type 0 where
  pub births : List Generated
  pub stands : StandsFor tables births
  pub earlier : (counters : ℕ × ℕ) (state : List Bool) → IsEarlier s parent counters state → HasBirth births s.numbered counters state

-- the pair of the child is open, and the tables have its tuples
pub record CanBeBorn (tables : NoveltyTables) (c : Child) : Type 0 where
  pub pair : IsOpen tables (c.g, c.r)
  pub size : length c.state ≡ tables.index.atoms
  pub counted : AreCounted tables.index c.state

-- the birth's novelty can be asked for
pub record CanBeAsked (tables : NoveltyTables) (b : BirthView) : Type 0 where
  pub pair : IsOpen tables b.node.counters
  pub size : length b.node.state ≡ tables.index.atoms
  pub counted : AreCounted tables.index b.node.state
  pub marked : AreMarkedBelow tables b.node.number b
