-- An expansion as it is evaluated: the successors of the node in hand that are no repeats, with their counters.
use Rattle.std.specs.Prelude.{◌≡◌, ◌+◌, ◌^◌, ◌<◌, ◌≤◌, ℕ, Bool, List, ◌++◌, length, map, fold, Contains, Some}
use Rattle.wp_task.specs.declared.acts.Act.{Act}
use Rattle.wp_task.specs.Task.{PlanningTask, act_at, result_of}
use Rattle.wp_count.specs.declared.brood.Child.{Child}
use Rattle.wp_novel.specs.declared.birth.Pair.{Pair}
use Rattle.wp_novel.specs.NoveltyTables.{NoveltyTables, counters_of, open_pairs, IsAtHome}
use Rattle.wp_novel.specs.StandsFor.{StandsFor}
use Rattle.wp_nodes.specs.declared.kept.Kept.{Kept}
use Rattle.wp_nodes.specs.KeptNodes.{Keeping, node_of, IsKept, AreLinked}
use Rattle.wp_plain.specs.declared.settings.Settings.{Settings}
use Rattle.wp_plain.specs.Nodes.{Node, generated_in}
use Rattle.wp_plain.specs.Pairs.{with_pair}
use Rattle.wp_plain.specs.Expansion.{unseen}
use Rattle.wp_plain.specs.Explored.{all_numbered, child_pair}
use Rattle.wp_plain.specs.Run.{Moment}
use Rattle.wp_ahead.specs.Jobs.{node_brood}
use Rattle.wp_commit.specs.declared.births.Numbered.{Numbered}
use Rattle.wp_commit.specs.declared.evaluation.Expansion.{Expansion}
use Rattle.wp_commit.specs.declared.searched.Searched.{Searched}
use Rattle.wp_commit.specs.declared.unseen.Reached.{Reached}
use Rattle.wp_commit.specs.Newborns.{newborns_of, AreNew, AreUnopened}
use Rattle.wp_commit.specs.Searched.{IsTakenAt}

abbrev pub states_of : List Kept → List (List Bool)
states_of kept = map (λ k. k.state) kept

-- the successors that some actions lead to
abbrev pub successors_by : List Act → List Bool → List ℕ → List (Reached ℕ)
successors_by acts state numbers = map (λ a. record { state = result_of (act_at acts a) state; rest = a }) numbers

-- the children of a kept node, repeats among them
abbrev pub brood_of : PlanningTask → Keeping → Kept → List Child
brood_of task nodes k = (node_brood task nodes k).children

-- the children of a brood that are no repeats of these states or of each other, and how many of the brood are
pub record AreNoRepeats (seen : List (List Bool)) (brood children : List Child) (repeats : ℕ) : Type 0 where
  pub unseen_are : children ≡ unseen (λ c. c.state) seen brood
  pub repeats_are : repeats + length children ≡ length brood

-- the children of the kept node of the number that are no repeats, and how many are
pub record AreChildrenAt (task : PlanningTask) (s : Searched) (number : ℕ) (children : List Child) (repeats : ℕ) : Type 0 where
  pub node : Kept
  pub found : node_of s.nodes.kept number ≡ Some node
  pub there : Contains s.nodes.kept node
  pub named : node.number ≡ number
  pub tracked : node.mark.track < length s.nodes.tracks
  pub linked : AreLinked s.nodes
  pub unseen_are : children ≡ unseen (λ c. c.state) (states_of s.nodes.kept) (brood_of task s.nodes node)
  pub repeats_are : repeats + length children ≡ length (brood_of task s.nodes node)
  pub few : length (brood_of task s.nodes node) ≤ length task.acts

-- the pairs of counters of these children that are not open, each once
pub record ArePairsToOpen (tables : NoveltyTables) (children : List Child) (pairs : List Pair) : Type 0 where
  pub all : open_pairs tables ++ map counters_of pairs ≡ fold with_pair (open_pairs tables) (map child_pair children)
  pub unopened : AreUnopened (open_pairs tables) (map counters_of pairs)

-- the expansion of the kept node of the number
pub record IsExpansionOf (task : PlanningTask) (s : Searched) (tables : NoveltyTables) (number : ℕ) (x : Expansion) : Type 0 where
  pub children : AreChildrenAt task s number x.children.items x.repeats
  pub pairs : ArePairsToOpen tables x.children.items x.pairs.items

-- ---- numbers and novelties
-- the children have the next numbers, and their novelties among all nodes; the tables stand for all of them, and have the pairs
pub record IsEnteredAt (settings : Settings) (tables : NoveltyTables) (x : Expansion) (later : NoveltyTables) (m : Moment) (numbered : Numbered) : Type 0 where
  pub newborns : numbered.newborns.items
      ≡ newborns_of settings.width (generated_in m.nodes ++ all_numbered (length m.nodes) x.children.items) (length m.nodes) x.children.items
  pub repeats : numbered.repeats ≡ x.repeats
  pub births : StandsFor later (generated_in m.nodes ++ all_numbered (length m.nodes) x.children.items)
  pub pairs : open_pairs later ≡ open_pairs tables ++ map counters_of x.pairs.items
  pub home : IsAtHome later
  pub index : later.index ≡ tables.index
  pub limit : later.limit ≡ tables.limit

-- the same, at each moment at which the node was taken
abbrev pub IsEnteredOf : PlanningTask → Settings → Searched → NoveltyTables → ℕ → Expansion → NoveltyTables → Numbered → Type 0
IsEnteredOf task settings s tables number x later numbered = (m : Moment) (node : Node) →
    IsTakenAt task settings s tables m node number → IsEnteredAt settings tables x later m numbered

-- ---- what is kept
-- the newborns can be kept as children of the node, and counted
pub record CanKeep (s : Searched) (parent track : ℕ) (numbered : Numbered) : Type 0 where
  pub new : AreNew s.nodes.kept numbered.newborns.items
  pub is_kept : IsKept s.nodes.kept parent
  pub tracked : track < length s.nodes.tracks
  pub few : s.kept ≤ s.numbered
  pub few_numbers : s.numbered + length numbered.newborns.items < 2 ^ 63
  pub few_expansions : s.expanded + 1 < 2 ^ 63
  pub few_repeats : s.repeats + numbered.repeats < 2 ^ 63
