-- What the search keeps, and the moments of the definition that it stands for: the kept nodes in a table by state, the
-- waiting ones in an open list, and of the others their marks in the novelty tables alone.
use Rattle.std.specs.Prelude.{◌≡◌, ◌↔◌, ℕ, Bool, true, false, List, [], ◌∷◌, length, map, filter, slice_set, Contains}
use Rattle.std.specs.Bool.{MatchBool}
use Rattle.std.specs.List.{sum_by}
use Rattle.wp_task.specs.Task.{PlanningTask, IsReachable}
use Rattle.wp_task.specs.Novelty.{Generated}
use Rattle.wp_count.specs.Laws.{IsMarked}
use Rattle.wp_tuples.specs.Placing.{Placing}
use Rattle.wp_novel.specs.MarkedTuples as marked
use Rattle.wp_novel.specs.NoveltyTables.{NoveltyTables, open_pairs, IsAtHome}
use Rattle.wp_novel.specs.StandsFor.{StandsFor}
use Rattle.wp_queue.specs.declared.queue.Waiting.{Waiting}
use Rattle.wp_queue.specs.OpenList.{waiting}
use Rattle.wp_nodes.specs.declared.kept.Kept.{Kept}
use Rattle.wp_nodes.specs.KeptNodes.{Keeping}
use Rattle.wp_nodes.specs.Links.{along}
use Rattle.wp_plain.specs.declared.settings.Settings.{Settings}
use Rattle.wp_plain.specs.declared.ending.Counts.{Counts}
use Rattle.wp_plain.specs.Nodes.{Node, Path, path_at, generated_in}
use Rattle.wp_plain.specs.Pairs.{pairs_in, exceeds}
use Rattle.wp_plain.specs.Run.{Moment, counts_of, run}
use Rattle.wp_plain.specs.Explored.{track_at}
use Rattle.wp_plain.specs.Numbers.{IsNumbered}
use Rattle.wp_commit.specs.declared.searched.Searched.{Searched}
use Rattle.wp_commit.specs.Latest.{AreBirths}

-- ---- kept nodes
-- a kept node as it was generated
abbrev pub generated_as : Kept → Generated
generated_as k = record { number = k.number; counters = (k.mark.g, k.mark.r); state = k.state }

-- a node, kept or of the definition, by what it was generated as and by its novelty
abbrev pub shown_kept : Kept → Generated × ℕ
shown_kept k = (generated_as k, k.w)

abbrev pub shown : Node → Generated × ℕ
shown node = (node.generated, node.w)

-- the actions of the paths
abbrev pub plans_in : List Path → ℕ → List ℕ
plans_in paths number = (path_at paths number).acts

-- the node's link leads along its path, its mark is that of its path, and its state can be reached
pub record IsOnPath (task : PlanningTask) (paths : List Path) (tracks : List (List ℕ)) (k : Kept) : Type 0 where
  pub acts : plans_in paths k.number ≡ along (plans_in paths) k.back
  pub before : List (List Bool)
  pub states : (path_at paths k.number).states ≡ k.state ∷ before
  pub marked : IsMarked task k.state before k.mark (track_at tracks k.mark.track)
  pub reachable : IsReachable task k.state

-- the nodes that are kept are those of the moment that are not pruned, each with its path
pub record AreKept (task : PlanningTask) (nodes : Keeping) (m : Moment) : Type 0 where
  pub nodes_are : map shown_kept nodes.kept ≡ map shown (filter (λ n. n.kept) m.nodes)
  pub on_paths : (k : Kept) → Contains nodes.kept k → IsOnPath task m.paths nodes.tracks k

-- ---- the open list
abbrev pub IsWaiting : Waiting → Node → Type 0
IsWaiting x node = x ≡ waiting node.w node.generated.counters.0 node.generated.number

-- what waits are the nodes that wait; they are kept
pub record AreWaiting (queue : List Waiting) (nodes : List Node) : Type 0 where
  pub waits : (x : Waiting) → Contains queue x ↔ ((node : Node) × Contains nodes node × (node.waits ≡ true) × IsWaiting x node)
  pub kept : (node : Node) → Contains nodes node → node.waits ≡ true → node.kept ≡ true

-- ---- novelty tables
-- the index is one of tuples of the task's atoms, and counts every two atoms that are true at a reachable state
pub record IsIndexFor (task : PlanningTask) (settings : Settings) (index : Placing) : Type 0 where
  pub atoms : index.atoms ≡ task.atoms
  pub width : index.width ≡ settings.width
  pub counted : (state : List Bool) → IsReachable task state → marked.AreCounted index state

-- the tables have an index for the task, and stand for all numbered nodes; a pair is open where some node has it, and no job is out
pub record AreTables (task : PlanningTask) (settings : Settings) (tables : NoveltyTables) (nodes : List Node) : Type 0 where
  pub index : IsIndexFor task settings tables.index
  pub limit : tables.limit ≡ settings.words
  pub births : StandsFor tables (generated_in nodes)
  pub pairs : open_pairs tables ≡ pairs_in (generated_in nodes)
  pub home : IsAtHome tables

-- ---- counts
pub record AreCounted (s : Searched) (m : Moment) : Type 0 where
  pub numbered : s.numbered ≡ length m.nodes
  pub kept : s.kept ≡ length s.nodes.kept
  pub expanded : s.expanded ≡ length m.events
  pub repeats : s.repeats ≡ sum_by (λ event. event.repeats) m.events

-- ---- moments
-- the search stands for a moment but for what waits
pub record HoldsAt (task : PlanningTask) (settings : Settings) (s : Searched) (tables : NoveltyTables) (m : Moment) : Type 0 where
  pub numbers : IsNumbered m
  pub nodes : AreKept task s.nodes m
  pub words : AreTables task settings tables m.nodes
  pub counts : AreCounted s m
  pub latest : AreBirths (generated_in m.nodes) s.latest.entries

-- the search stands for a moment
pub record StandsAt (task : PlanningTask) (settings : Settings) (s : Searched) (tables : NoveltyTables) (m : Moment) : Type 0 where
  pub holds : HoldsAt task settings s tables m
  pub waiting : AreWaiting s.queue m.nodes

-- the nodes in which one of them waits no longer
abbrev pub without : List Node → Node → List Node
without nodes node = slice_set nodes node.generated.number (record node { waits = false })

-- the node was taken from the open list as the first one, and the search stands for the rest
pub record IsTakenAt (task : PlanningTask) (settings : Settings) (s : Searched) (tables : NoveltyTables) (m : Moment) (node : Node) (number : ℕ) : Type 0 where
  pub holds : HoldsAt task settings s tables m
  pub waiting : AreWaiting s.queue (without m.nodes node)
  pub there : Contains m.nodes node
  pub kept : node.kept ≡ true
  pub named : node.generated.number ≡ number

-- ---- what a call may ask
-- at some moment the search stands for it, or has taken the node of the number; and so for the task, or for some task
abbrev pub HoldsSomewhere : Searched → Type 0
HoldsSomewhere s = (task : PlanningTask) × (settings : Settings) × (tables : NoveltyTables) × (m : Moment) × HoldsAt task settings s tables m

abbrev pub IsTakenAtSome : PlanningTask → Settings → Searched → NoveltyTables → ℕ → Type 0
IsTakenAtSome task settings s tables number = (m : Moment) × (node : Node) × IsTakenAt task settings s tables m node number

abbrev pub IsTakenIn : PlanningTask → Searched → ℕ → Type 0
IsTakenIn task s number = (settings : Settings) × (tables : NoveltyTables) × IsTakenAtSome task settings s tables number

abbrev pub IsTakenSomewhere : Searched → ℕ → Type 0
IsTakenSomewhere s number = (task : PlanningTask) × IsTakenIn task s number

-- the counts are those of each moment that the search stands for, where so many pairs are open
abbrev pub AreCountsOf : Searched → ℕ → Counts → Type 0
AreCountsOf s pairs counts = (task : PlanningTask) (settings : Settings) (tables : NoveltyTables) (m : Moment) →
    HoldsAt task settings s tables m → pairs ≡ length (open_pairs tables) → counts ≡ counts_of m

-- ---- what a search leaves in the tables
-- no pair, where the root's own pair wants more words than the limit; else they stand for all numbered nodes of the run
abbrev pub LeavesTables : PlanningTask → Settings → ℕ → NoveltyTables → Type 0
LeavesTables task settings tuples tables = MatchBool (exceeds settings.words 1 tuples)
    (open_pairs tables ≡ [])
    (AreTables task settings tables (run task settings tuples).1.nodes)
