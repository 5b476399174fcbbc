-- The root alone: what the tables hold of it, and what the search keeps.
use Rattle.std.proofs.Common.{◌≡◌, ℕ, ◌*◌, ◌≤◌, Bool, true, false, List, [], ◌∷◌, length, Some, None, refl, sym, ap, ◌∙◌, subst, inl, inr, ⊎_elim, arith}
use Rattle.std.specs.List.{Contains}
use Rattle.std.proofs.lemmas.Bool.{ltb-false}
use Rattle.wp_task.specs.declared.track.Mark.{Mark}
use Rattle.wp_task.specs.Task.{PlanningTask}
use Rattle.wp_task.specs.Novelty.{Generated, novelty_of}
use Rattle.wp_task.proofs.Members.{In}
use Rattle.wp_count.specs.Laws.{HasCounters, IsMarked, MarksCount}
use Rattle.wp_novel.specs.declared.birth.Pair.{Pair}
use Rattle.wp_novel.specs.NoveltyTables.{NoveltyTables, pairs_of, open_pairs, home_of, IsOpen, IsAtHome}
use Rattle.wp_novel.specs.StandsFor.{StandsFor}
use Rattle.wp_queue.specs.declared.queue.Waiting.{Waiting}
use Rattle.wp_queue.specs.OpenList.{waiting, IsWith}
use Rattle.wp_nodes.specs.declared.kept.Kept.{Kept}
use Rattle.wp_nodes.specs.KeptNodes.{Keeping}
use Rattle.wp_plain.specs.declared.settings.Settings.{Settings}
use Rattle.wp_plain.specs.Nodes.{Node}
use Rattle.wp_plain.specs.Pairs.{exceeds}
use Rattle.wp_plain.specs.Expansion.{path_counters, generated_at, root_node}
use Rattle.wp_plain.specs.Explored.{track_at}
use Rattle.wp_plain.specs.Run.{opening}
use Rattle.wp_plain.proofs.ListLemmas.{has_pair-from_there}
use Rattle.wp_commit.specs.declared.searched.Searched.{Searched}
use Rattle.wp_commit.specs.Latest.{IsOfRoot, AreBirths}
use Rattle.wp_commit.specs.Searched.{shown, IsOnPath, IsIndexFor, AreKept, IsWaiting, AreWaiting, AreTables, StandsAt}
use Rattle.wp_commit.proofs.KeepLemmas.{Contains-one}
use Rattle.wp_commit.proofs.LatestLemmas.{root-births}

-- ---- the root's pair
no_home : (homes : _) (pair : Pair) (home : _) → pairs_of homes ≡ [] → home_of homes pair ≡ Some home → ⊥
no_home [] pair home none found = cc
no_home (h ∷ homes) pair home none found = cc

-- empty tables stand for no birth
pub stands_empty : (t : NoveltyTables) → open_pairs t ≡ [] → t.last ≡ None → StandsFor t []
stands_empty t empty collected = record {
  rising = λ i j d less within. absurd (omega arith);
  pairs = λ k d within. absurd (omega arith);
  last = collected;
  firsts = λ pair home found tuple there. absurd (no_home t.homes pair home empty found);
}

-- the only pair is open
pub open_alone : (t : NoveltyTables) (x : ℕ × ℕ) → open_pairs t ≡ x ∷ [] → IsOpen t x
open_alone t x opened = has_pair-from_there (open_pairs t) x (subst (In x) (sym opened) (inl refl))

-- a pair's words are within the limit
pub one_within : (words tuples : ℕ) → exceeds words 1 tuples ≡ false → tuples ≤ words
one_within words tuples few = let room : 1 * tuples ≤ words = ltb-false words (1 * tuples) few in omega arith

-- ---- the root alone
-- the root as it is generated, and as it is kept
abbrev pub root_birth : List Bool → Mark → Generated
root_birth state mark = record { number = 0; counters = (mark.g, mark.r); state = state }

abbrev pub root_kept : List Bool → Mark → ℕ → Kept
root_kept state mark w = record { number = 0; w = w; back = None; state = state; mark = mark }

-- the search has these nodes and this queue, and counts the root alone
pub record IsSearchedOf (nodes : Keeping) (queue : List Waiting) (s : Searched) : Type 0 where
  pub nodes_are : s.nodes ≡ nodes
  pub queue_is : s.queue ≡ queue
  pub numbered : s.numbered ≡ 1
  pub kept : s.kept ≡ 1
  pub expanded : s.expanded ≡ 0
  pub repeats : s.repeats ≡ 0

-- what is known of a root once it is marked and kept
pub record IsRootAlone (task : PlanningTask) (settings : Settings) (tables : NoveltyTables) (nodes : Keeping) (queue : List Waiting)
    (state : List Bool) (mark : Mark) (track : List ℕ) (w : ℕ) (s : Searched) : Type 0 where
  pub searched : IsSearchedOf nodes queue s
  pub state_is : state ≡ task.init
  pub track_is : mark.track ≡ 0
  pub marked : IsMarked task state [] mark track
  pub w_is : w ≡ novelty_of settings.width (root_birth state mark ∷ []) (root_birth state mark)
  pub index : IsIndexFor task settings tables.index
  pub limit : tables.limit ≡ settings.words
  pub births : StandsFor tables (root_birth state mark ∷ [])
  pub pairs : open_pairs tables ≡ (mark.g, mark.r) ∷ []
  pub home : IsAtHome tables
  pub latest : IsOfRoot (record { g = mark.g; r = mark.r }) s.latest.entries
  pub nodes_are : nodes ≡ record { kept = root_kept state mark w ∷ []; tracks = track ∷ [] }
  pub queued : IsWith [] (waiting w mark.g 0) queue

module _ (task : PlanningTask) (settings : Settings) (counts : MarksCount) (tables : NoveltyTables) (nodes : Keeping) (queue : List Waiting)
    (state : List Bool) (mark : Mark) (track : List ℕ) (w : ℕ) (s : Searched) (alone : IsRootAlone task settings tables nodes queue state mark track w s) where
  generated_is : root_birth state mark ≡ generated_at (path_counters task) [] 0 task.init
  generated_is =
      let counters : HasCounters task state [] mark.g mark.r = counts task state [] mark track alone.marked in
      (λ j. (let x : Generated = record { number = 0; counters = (counters.unmet j, counters.relaxed j); state = state } in x))
      ∙ ap (generated_at (path_counters task) [] 0) alone.state_is

  node_is : ◌≡◌ {A = Node} (record { generated = root_birth state mark; w = w; kept = true; waits = true }) (root_node task settings)
  node_is =
      let novelty = alone.w_is ∙ (λ j. novelty_of settings.width (generated_is j ∷ []) (generated_is j)) in
      λ j. (let n : Node = record { generated = generated_is j; w = novelty j; kept = true; waits = true } in n)

  on_path : IsOnPath task (opening task settings).paths (track ∷ []) (root_kept state mark w)
  on_path = record {
    acts = refl;
    before = [];
    states = λ j. sym alone.state_is j ∷ [];
    marked = subst (λ i. IsMarked task state [] mark (track_at (track ∷ []) i)) (sym alone.track_is) alone.marked;
    reachable = record { actions = []; leads = ap (λ s. Some s) (sym alone.state_is) };
  }

  root_is_kept : AreKept task nodes (opening task settings)
  root_is_kept = subst (λ n. AreKept task n (opening task settings)) (sym alone.nodes_are) (record {
    nodes_are = λ j. shown (node_is j) ∷ [];
    on_paths = λ k there. subst (IsOnPath task (opening task settings).paths (track ∷ [])) (sym ((Contains-one (root_kept state mark w) k).0 there)) on_path;
  })

  root_is_marked : AreTables task settings tables (opening task settings).nodes
  root_is_marked = record {
    index = alone.index;
    limit = alone.limit;
    births = subst (λ x. StandsFor tables (x ∷ [])) generated_is alone.births;
    pairs = alone.pairs ∙ (λ j. (generated_is j).counters ∷ []);
    home = alone.home;
  }

  root_waits : AreWaiting queue (opening task settings).nodes
  root_waits =
      let root = root_node task settings in
      let at_root : waiting w mark.g 0 ≡ waiting root.w root.generated.counters.0 root.generated.number =
      λ j. waiting (node_is j).w (node_is j).generated.counters.0 (node_is j).generated.number in
      record {
        waits = λ x. (
          λ there. ⊎_elim
              (λ (none : Contains [] x). absurd (omega (arith, none.1)))
              (λ (is : x ≡ waiting w mark.g 0).
              let found : (node : Node) × Contains (root ∷ []) node × (node.waits ≡ true) × IsWaiting x node = (root, (0, omega arith, refl), refl, is ∙ at_root) in
              found)
              ((alone.queued.has x).0 there),
          λ found. (alone.queued.has x).1 (inr (subst (IsWaiting x) ((Contains-one root found.0).0 found.1) found.3 ∙ sym at_root)),
        );
        kept = λ node there waits. ap (λ n. n.kept) ((Contains-one root node).0 there);
      }

  pub opening-stands : StandsAt task settings s tables (opening task settings)
  opening-stands = record {
    holds = record {
      numbers = record { count = refl; numbers = (refl, tt) };
      nodes = subst (λ n. AreKept task n (opening task settings)) (sym alone.searched.nodes_are) root_is_kept;
      words = root_is_marked;
      counts = record {
        numbered = alone.searched.numbered;
        kept = alone.searched.kept ∙ sym (ap (λ n. length n.kept) (alone.searched.nodes_are ∙ alone.nodes_are));
        expanded = alone.searched.expanded;
        repeats = alone.searched.repeats;
      };
      latest = subst (λ x. AreBirths (x ∷ []) s.latest.entries) generated_is
          (root-births (root_birth state mark) (record { g = mark.g; r = mark.r }) s.latest.entries refl refl alone.latest);
    };
    waiting = subst (λ q. AreWaiting q (opening task settings).nodes) (sym alone.searched.queue_is) root_waits;
  }
