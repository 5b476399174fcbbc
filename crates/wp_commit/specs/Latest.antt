-- The latest birth of each pair of counters, by what is kept of it.
use Rattle.std.specs.Prelude.{◌≡◌, ◌⊎◌, Bool, List, Option, Some, None, IfSome, Contains}
use Rattle.std.specs.Map.{lookup}
use Rattle.wp_task.specs.Novelty.{Generated}
use Rattle.wp_novel.specs.declared.birth.Pair.{Pair}
use Rattle.wp_novel.specs.NoveltyTables.{counters_of, is_pair}
use Rattle.wp_nodes.specs.declared.kept.Kept.{Kept}
use Rattle.wp_commit.specs.declared.latest.Latest.{Latest}
use Rattle.wp_commit.specs.declared.newborn.Newborn.{Newborn}

-- ---- latest births
abbrev pub latest_of : List (Pair × Latest) → Pair → Option Latest
latest_of latest pair = lookup (is_pair pair) latest

-- a birth with the pair, of which this is kept
pub record IsBirthOf (births : List Generated) (pair : Pair) (x : Latest) : Type 0 where
  pub birth : Generated
  pub there : Contains births birth
  pub named : birth.number ≡ x.number
  pub counters : birth.counters ≡ counters_of pair
  pub pruned : IfSome x.pruned (λ state. birth.state ≡ state)

abbrev pub AreBirths : List Generated → List (Pair × Latest) → Type 0
AreBirths births latest = (pair : Pair) (x : Latest) → latest_of latest pair ≡ Some x → IsBirthOf births pair x

-- the root's pair has the root, and no other has one
abbrev pub IsOfRoot : Pair → List (Pair × Latest) → Type 0
IsOfRoot root latest = (pair : Pair) (x : Latest) → latest_of latest pair ≡ Some x →
    (counters_of root ≡ counters_of pair) × (x.number ≡ 0) × (x.pruned ≡ None)

-- the state is that of the pair's latest birth, which was pruned or is a kept node
abbrev pub HasLatestState : List Kept → List (Pair × Latest) → Pair → List Bool → Type 0
HasLatestState kept latest pair state = (x : Latest) × (latest_of latest pair ≡ Some x)
    × ((x.pruned ≡ Some state) ⊎ ((k : Kept) × Contains kept k × (k.number ≡ x.number) × (k.state ≡ state)))

-- a newborn, as it is noted
pub record IsNoted (x : Newborn) (pair : Pair) (y : Latest) : Type 0 where
  pub counters : (x.child.g, x.child.r) ≡ counters_of pair
  pub named : x.number ≡ y.number
  pub pruned : IfSome y.pruned (λ state. x.child.state ≡ state)

-- each of them is an old one, or one of the newborns
abbrev pub AreNoted : List Newborn → List (Pair × Latest) → List (Pair × Latest) → Type 0
AreNoted newborns old new = (pair : Pair) (y : Latest) → latest_of new pair ≡ Some y →
    (latest_of old pair ≡ Some y) ⊎ ((x : Newborn) × Contains newborns x × IsNoted x pair y)
