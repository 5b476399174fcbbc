-- An expansion by what is kept is the definition's expansion of each moment that the search stands for.
use Rattle.std.proofs.Common.{◌≡◌, ◌⊎◌, ℕ, ◌+◌, ◌-◌, ◌*◌, ◌^◌, ◌<◌, ◌≤◌, List, [], ◌∷◌, ◌++◌, Option, Some, None, length, map, refl, sym, ap, ◌∙◌, subst, inl, inr, length-append, length-set, arith}
use Rattle.std.specs.Prelude.{IfSome}
use Rattle.std.specs.List.{All, Contains, count_by, filter, fold}
use Rattle.std.proofs.lemmas.List.{length-map, length_push, map-append, get_or-append-add, get_or_append_left}
use Rattle.std.proofs.lemmas.List.Elements.{All-contains, filter-append}
use Rattle.std.proofs.lemmas.List.Sums.{count_by-le-length, length-filter, sum_by_push}
use Rattle.wp_task.specs.Task.{PlanningTask, IsReachable}
use Rattle.wp_task.specs.Novelty.{Generated}
use Rattle.wp_task.proofs.Members.{In, In-from_Contains, Contains-from_In}
use Rattle.wp_count.specs.declared.brood.Child.{Child}
use Rattle.wp_count.specs.Broods.{children_of}
use Rattle.wp_count.specs.Laws.{IsEvaluated, IsMarked, ChildrenAreEvaluated, mark_of, track_after}
use Rattle.wp_watch.specs.declared.event.Event.{Event}
use Rattle.wp_watch.specs.Sums.{repeats_in}
use Rattle.wp_novel.specs.declared.birth.Pair.{Pair}
use Rattle.wp_novel.specs.NoveltyTables.{NoveltyTables, counters_of, open_pairs, IsAtHome}
use Rattle.wp_novel.specs.StandsFor.{StandsFor, last_number}
use Rattle.wp_nodes.specs.declared.kept.Back.{Back}
use Rattle.wp_nodes.specs.declared.kept.Kept.{Kept}
use Rattle.wp_nodes.specs.KeptNodes.{AreLinked, HasParent, IsKept}
use Rattle.wp_nodes.specs.Links.{along}
use Rattle.wp_plain.specs.declared.settings.Settings.{Settings}
use Rattle.wp_plain.specs.Nodes.{Node, Path, no_path, path_at, extended, generated_in, states_kept, left}
use Rattle.wp_plain.specs.Pairs.{with_pair, pairs_in}
use Rattle.wp_plain.specs.Expansion.{path_counters, successors_of, unseen, fresh_of, node_of, borns_of, event_of}
use Rattle.wp_plain.specs.Run.{Moment, fresh_at, children_at, all_at, nodes_at, repeats_at}
use Rattle.wp_plain.specs.Numbers.{next_of, NodesAreNumbered}
use Rattle.wp_plain.specs.Steps.{IsBounded}
use Rattle.wp_plain.specs.Explored.{bare, child_pair, all_numbered, track_at, ChildrenAreNumbered}
use Rattle.wp_plain.proofs.NumberLemmas.{number_below, kept-set}
use Rattle.wp_plain.proofs.Pigeons.{AreApart}
use Rattle.wp_plain.proofs.UnseenLemmas.{unseen-all, unseen-apart, unseen-new}
use Rattle.wp_commit.specs.declared.evaluation.Expansion.{Expansion}
use Rattle.wp_commit.specs.declared.newborn.Newborn.{Newborn}
use Rattle.wp_commit.specs.declared.searched.Searched.{Searched}
use Rattle.wp_commit.specs.Newborns.{newborns_of, kept_as, with_newborns, waiting_of, event_as, AreNew, AreQueued, HasOpenPair, IsCommitted}
use Rattle.wp_commit.specs.Latest.{AreBirths}
use Rattle.wp_commit.specs.Expansions.{brood_of, IsExpansionOf}
use Rattle.wp_commit.specs.Entering.{StandsForEarlier, CanBeBorn}
use Rattle.wp_commit.specs.Searched.{shown_kept, shown, plans_in, IsOnPath, IsIndexFor, AreCounted, AreWaiting, HoldsAt, IsTakenAt, StandsAt, without}
use Rattle.wp_commit.proofs.ConditionLemmas.{all-from, children-open, last-below, length-numbered, newborns-new, pairs-few}
use Rattle.wp_commit.proofs.WaitingLemmas.{waiting-later}
use Rattle.wp_commit.proofs.TellingLemmas.{event-told}
use Rattle.wp_commit.proofs.EvaluationLemmas.{children-reached}
use Rattle.wp_commit.proofs.LatestLemmas.{births-noted, earlier-born}
use Rattle.wp_commit.proofs.TakeLemmas.{node_for, kept_is}
use Rattle.wp_commit.proofs.NewbornLemmas.{shown_newborn, stays, shown-kept, shown-nodes, kept-cases, tracks-stay, IsKeptNewborn, length-newborns, newborn-at}

map-twice : {X Y Z : Type 0} (f : X → Y) (h : Y → Z) (g : X → Z) → ((x : X) → h (f x) ≡ g x) → (xs : List X) → map h (map f xs) ≡ map g xs
map-twice f h g same [] = refl
map-twice f h g same (x ∷ xs) = λ j. same x j ∷ map-twice f h g same xs j

-- the laws that an expansion needs: children are evaluated as their paths say, and nodes and children are numbered
pub record ExpansionLaws : Type 0 where
  pub evaluated : ChildrenAreEvaluated
  pub children : ChildrenAreNumbered
  pub nodes : NodesAreNumbered

pub laws_of : ChildrenAreEvaluated → ChildrenAreNumbered → NodesAreNumbered → ExpansionLaws
laws_of evaluated children nodes = record { evaluated = evaluated; children = children; nodes = nodes }

-- ---- kept nodes and nodes of the definition
-- the states of the kept nodes are those of the definition
pub states-kept : (kept : List Kept) (nodes : List Node) → map shown_kept kept ≡ map shown (filter (λ n. n.kept) nodes) →
    map (λ k. k.state) kept ≡ states_kept nodes
states-kept kept nodes same =
    sym (map-twice shown_kept (λ x. x.0.state) (λ k. k.state) (λ k. refl) kept)
    ∙ (ap (map (λ x. x.0.state)) same ∙ map-twice shown (λ x. x.0.state) (λ n. n.generated.state) (λ n. refl) (filter (λ n. n.kept) nodes))

pub kept-count : (kept : List Kept) (nodes : List Node) → map shown_kept kept ≡ map shown (filter (λ n. n.kept) nodes) →
    length kept ≡ count_by (λ n. n.kept) nodes
kept-count kept nodes same =
    sym (length-map kept shown_kept)
    ∙ (ap length same
    ∙ (length-map (filter (λ (n : Node). n.kept) nodes) shown ∙ length-filter (λ (n : Node). n.kept) nodes))

-- there are no more kept nodes than nodes
pub kept-few : (kept : List Kept) (nodes : List Node) → map shown_kept kept ≡ map shown (filter (λ n. n.kept) nodes) → length kept ≤ length nodes
kept-few kept nodes same = omega (arith, kept-count kept nodes same, count_by-le-length (λ (n : Node). n.kept) nodes)

along-more : (paths more : List Path) (back : Option Back) → IfSome back (λ b. b.parent < length paths) →
    along (plans_in (paths ++ more)) back ≡ along (plans_in paths) back
along-more paths more None within = refl
along-more paths more (Some back) within = ap (λ (p : Path). p.acts ++ back.act ∷ []) (get_or_append_left paths more no_path back.parent within)

module _ (task : PlanningTask) (settings : Settings) (s : Searched) (tables : NoveltyTables) (m : Moment) (node : Node) (number : ℕ)
    (at : IsTakenAt task settings s tables m node number) (linked : AreLinked s.nodes) (k : Kept) (k_there : Contains s.nodes.kept k) (k_named : k.number ≡ number) where
  node_there : In node m.nodes
  node_there = In-from_Contains node m.nodes at.there

  abbrev path : Path
  path = path_at m.paths node.generated.number

  -- the kept node is the one that was taken
  shown-taken : shown_kept k ≡ shown node
  shown-taken = kept_is task settings s tables m at.holds node k at.there k_there (k_named ∙ sym at.named)

  number-within : (x : Kept) → In x s.nodes.kept → x.number < length m.nodes
  number-within x there =
      let found = node_for task settings s tables m at.holds x (Contains-from_In x s.nodes.kept there) in
      let below : found.0.generated.number < 0 + length m.nodes =
      number_below 0 m.nodes at.holds.numbers.numbers found.0 (In-from_Contains found.0 m.nodes found.1) in
      let same : x.number ≡ found.0.generated.number = ap (λ (x : Generated × ℕ). x.0.number) found.3 in
      omega arith

  -- ---- its children
  module _ (law : ExpansionLaws) (brood children : List Child)
      (brood_is : brood ≡ children_of task k.state k.mark (track_at s.nodes.tracks k.mark.track))
      (children_is : children ≡ unseen (λ c. c.state) (map (λ x. x.state) s.nodes.kept) brood) where
    abbrev track : List ℕ
    track = track_at s.nodes.tracks k.mark.track

    abbrev n : ℕ
    n = length m.nodes

    abbrev nums : List Generated
    nums = all_numbered (length m.nodes) children

    abbrev all : List Generated
    all = generated_in m.nodes ++ all_numbered (length m.nodes) children

    pub evaluated : All (IsEvaluated task path.states track) children
    evaluated =
        let on = at.holds.nodes.on_paths k k_there in
        let states : k.state ∷ on.before ≡ path.states =
        sym (ap (λ i. (path_at m.paths i).states) (at.named ∙ sym k_named) ∙ on.states) in
        subst (All (IsEvaluated task path.states track)) (sym children_is)
        (unseen-all (λ c. c.state) (IsEvaluated task path.states track) (map (λ x. x.state) s.nodes.kept) brood
        (subst (All (IsEvaluated task path.states track)) (sym brood_is)
        (subst (λ states. All (IsEvaluated task states track) (children_of task k.state k.mark track)) states
        (law.evaluated task k.state on.before k.mark track on.marked))))

    -- and can be reached
    pub reached : All (λ c. IsReachable task c.state) children
    reached =
        let all : All (λ c. IsReachable task c.state) (children_of task k.state k.mark track) =
        children-reached task k.state k.mark track (at.holds.nodes.on_paths k k_there).reachable in
        subst (All (λ c. IsReachable task c.state)) (sym children_is)
        (unseen-all (λ c. c.state) (λ c. IsReachable task c.state) (map (λ x. x.state) s.nodes.kept) brood
        (subst (All (λ c. IsReachable task c.state)) (sym brood_is) all))

    state-is : node.generated.state ≡ k.state
    state-is = ap (λ (x : Generated × ℕ). x.0.state) (sym shown-taken)

    successors-are : successors_of task.acts node.generated.state ≡ map bare brood
    successors-are = ap (successors_of task.acts) state-is ∙ (sym (law.children.successors task k.state k.mark track) ∙ ap (map bare) (sym brood_is))

    pub fresh-are : fresh_at task m node ≡ map bare children
    fresh-are =
        (λ j. unseen (λ x. x.state) (sym (states-kept s.nodes.kept m.nodes at.holds.nodes.nodes_are) j) (successors-are j))
        ∙ (law.children.fresh (map (λ x. x.state) s.nodes.kept) brood ∙ ap (map bare) (sym children_is))

    children-are : children_at task m node ≡ nums
    children-are = ap (fresh_of (path_counters task) path.states n) fresh-are ∙ sym (law.children.numbered task path.states track n children evaluated)

    pub all-are : all_at task m node ≡ all
    all-are = ap (λ l. generated_in m.nodes ++ l) children-are

    pub nodes-are : nodes_at task settings m node ≡ map (node_of settings all) nums
    nodes-are = λ j. map (node_of settings (all-are j)) (children-are j)

    repeats-are : repeats_at task m node ≡ length brood - length children
    repeats-are = (λ j. length (successors-are j) - length (fresh-are j)) ∙ (λ j. length-map brood bare j - length-map children bare j)

    -- what is told of it
    pub event-is : (newborns : List Newborn) (repeats : ℕ) → newborns ≡ newborns_of settings.width all n children → repeats ≡ length brood - length children →
        event_as settings k repeats newborns ≡ event_of node (repeats_at task m node) (borns_of (fresh_at task m node) (nodes_at task settings m node))
    event-is newborns repeats newborns_are repeats_is =
        event-told settings k node repeats n all newborns children shown-taken newborns_are
        ∙ (λ j. event_of node ((repeats_is ∙ sym repeats-are) j) (borns_of (sym fresh-are j) (sym nodes-are j)))

    -- the pairs, with those of the children
    pub pairs-are : (pairs : List Pair) →
        open_pairs tables ++ map counters_of pairs ≡ fold with_pair (open_pairs tables) (map child_pair children) →
        open_pairs tables ++ map counters_of pairs ≡ pairs_in (all_at task m node)
    pairs-are pairs pairs_is =
        pairs_is
        ∙ (ap (λ ps. fold with_pair ps (map child_pair children)) at.holds.words.pairs
        ∙ (law.children.pairs (generated_in m.nodes) n children ∙ ap pairs_in (sym all-are)))

    pub needed-is : (pairs : List Pair) →
        open_pairs tables ++ map counters_of pairs ≡ fold with_pair (open_pairs tables) (map child_pair children) →
        length (open_pairs tables) + length pairs ≡ length (pairs_in (all_at task m node))
    needed-is pairs pairs_is =
        ap (λ n. length (open_pairs tables) + n) (sym (length-map pairs counters_of))
        ∙ (sym (length-append (open_pairs tables) (map counters_of pairs)) ∙ ap length (pairs-are pairs pairs_is))

    abbrev next : Moment
    next = next_of task settings m node

    pub length-nodes : length next.nodes ≡ length m.nodes + length children
    length-nodes =
        length-append (without m.nodes node) (nodes_at task settings m node)
        ∙ (λ j. length-set m.nodes node.generated.number (left node) j + count j) where
          count : length (nodes_at task settings m node) ≡ length children
          count =
              (law.nodes.stays task settings m node at.holds.numbers at.there).children
              ∙ (ap length fresh-are ∙ length-map children bare)

    -- no number and no sum reaches 2^63
    pub numbers-fit : IsBounded settings next → settings.budget ≤ 100000000 → (repeats : ℕ) → repeats ≡ length brood - length children →
        (s.numbered + length children < 2 ^ 63) × (s.expanded + 1 < 2 ^ 63) × (s.repeats + repeats < 2 ^ 63)
    numbers-fit later budget repeats repeats_is =
        let event : Event = event_of node (repeats_at task m node) (borns_of (fresh_at task m node) (nodes_at task settings m node)) in
        let told : length next.events ≡ length m.events + 1 = length_push m.events event in
        let sum : repeats_in next.events ≡ repeats_in m.events + repeats_at task m node = sum_by_push (λ (x : Event). x.repeats) m.events event in
        let same : repeats_at task m node ≡ repeats = repeats-are ∙ sym repeats_is in
        let counts = at.holds.counts in
        let numbered : s.numbered ≡ length m.nodes = counts.numbered in
        let expanded : s.expanded ≡ length m.events = counts.expanded in
        let sum_is : s.repeats ≡ repeats_in m.events = counts.repeats in
        let few : length next.events ≤ settings.budget = later.few in
        let nodes : length next.nodes ≤ 1 + 1048576 * length next.events = later.nodes in
        let bounded : repeats_in next.events ≤ 1048576 * length next.events = later.repeats in
        (omega (arith, length-nodes), omega arith, omega arith)

    -- ---- after it
    module _ (pairs : List Pair) (tables_later : NoveltyTables) (newborns : List Newborn) (repeats : ℕ) (later : Searched)
        (pairs_is : open_pairs tables ++ map counters_of pairs ≡ fold with_pair (open_pairs tables) (map child_pair children))
        (newborns_are : newborns ≡ newborns_of settings.width all n children)
        (repeats_is : repeats ≡ length brood - length children)
        (tracked : k.mark.track < length s.nodes.tracks)
        (committed : IsCommitted settings number k.mark.track newborns repeats s later) where
      abbrev more : List Path
      more = map (extended path) (fresh_at task m node)

      nodes-later : map shown_kept later.nodes.kept ≡ map shown (filter (λ x. x.kept) next.nodes)
      nodes-later =
          let earlier = without m.nodes node in
          let old : map shown (filter (λ x. x.kept) earlier) ≡ map shown (filter (λ x. x.kept) m.nodes) =
          kept-set shown (λ x. x.kept) m.nodes node.generated.number (left node) node ((law.nodes.stays task settings m node at.holds.numbers at.there).place node) refl refl in
          let born : map shown (filter (λ x. x.kept) (nodes_at task settings m node)) ≡ map shown_newborn (filter (stays settings) newborns) =
          ap (λ l. map shown (filter (λ x. x.kept) l)) nodes-are
          ∙ (shown-nodes settings all n children ∙ ap (λ l. map shown_newborn (filter (stays settings) l)) (sym newborns_are)) in
          ap (λ l. map shown_kept l.kept) committed.nodes
          ∙ (shown-kept settings number k.mark.track s.nodes newborns
          ∙ ((λ j. (at.holds.nodes.nodes_are ∙ sym old) j ++ sym born j)
          ∙ sym (ap (map shown) (filter-append (λ x. x.kept) earlier (nodes_at task settings m node))
          ∙ map-append shown (filter (λ x. x.kept) earlier) (filter (λ x. x.kept) (nodes_at task settings m node)))))

      -- ---- paths
      path-old : (i : ℕ) → i < length m.nodes → path_at next.paths i ≡ path_at m.paths i
      path-old i within =
          let count : length m.paths ≡ length m.nodes = at.holds.numbers.count in
          get_or_append_left m.paths more no_path i (omega arith)

      on-old : (x : Kept) → In x s.nodes.kept → IsOnPath task next.paths later.nodes.tracks x
      on-old x there =
          let on = at.holds.nodes.on_paths x (Contains-from_In x s.nodes.kept there) in
          let count : length m.paths ≡ length m.nodes = at.holds.numbers.count in
          let here = number-within x there in
          let same = path-old x.number here in
          let parent : HasParent s.nodes.kept x = All-contains (HasParent s.nodes.kept) s.nodes.kept x linked.parents (Contains-from_In x s.nodes.kept there) in
          let on_track : x.mark.track < length s.nodes.tracks =
          All-contains (λ (y : Kept). y.mark.track < length s.nodes.tracks) s.nodes.kept x linked.tracked (Contains-from_In x s.nodes.kept there) in
          let tracks : track_at later.nodes.tracks x.mark.track ≡ track_at s.nodes.tracks x.mark.track =
          ap (λ nodes. track_at nodes.tracks x.mark.track) committed.nodes
          ∙ tracks-stay settings number k.mark.track s.nodes newborns x.mark.track on_track in
          record {
            acts = ap (λ p. p.acts) same ∙ (on.acts ∙ sym (along-more m.paths more x.back (before x.back parent here)));
            before = on.before;
            states = ap (λ p. p.states) same ∙ on.states;
            marked = subst (IsMarked task x.state on.before x.mark) (sym tracks) on.marked;
            reachable = on.reachable;
          } where
            before : (back : Option Back) → IfSome back (λ b. (b.parent < x.number) × IsKept s.nodes.kept b.parent) → x.number < length m.nodes →
                IfSome back (λ b. b.parent < length m.paths)
            before None parent here = tt
            before (Some b) parent here =
                let count : length m.paths ≡ length m.nodes = at.holds.numbers.count in omega (arith, parent.0)

      on-born : (t : ℕ) (x : Newborn) → In x newborns → track_at later.nodes.tracks t ≡ track_after track x.child.fresh →
          IsOnPath task next.paths later.nodes.tracks (kept_as number t x)
      on-born t x there on =
          let count : length m.paths ≡ length m.nodes = at.holds.numbers.count in
          let born = newborn-at path settings.width all n children x (subst (In x) newborns_are there) in
          let place : x.number ≡ length m.paths + born.place = born.number_is ∙ (λ j. sym count j + born.place) in
          let here : path_at next.paths x.number ≡ extended path (bare x.child) =
          (λ j. path_at (m.paths ++ map (extended path) (fresh-are j)) (place j))
          ∙ (get_or-append-add m.paths (map (extended path) (map bare children)) born.place no_path ∙ born.path) in
          let parent_in : node.generated.number < 0 + length m.nodes = number_below 0 m.nodes at.holds.numbers.numbers node node_there in
          let parent : path_at next.paths number ≡ path =
          ap (path_at next.paths) (sym at.named) ∙ path-old node.generated.number (omega arith) in
          let child = All-contains (IsEvaluated task path.states track) children x.child evaluated (Contains-from_In x.child children born.there) in
          record {
            acts = ap (λ p. p.acts) here ∙ ap (λ (p : Path). p.acts ++ x.child.act ∷ []) (sym parent);
            before = path.states;
            states = ap (λ p. p.states) here;
            marked = subst (IsMarked task x.child.state path.states (mark_of x.child t)) (sym on) (child.marked t);
            reachable = All-contains (λ (c : Child). IsReachable task c.state) children x.child reached (Contains-from_In x.child children born.there);
          }

      on-later : (x : Kept) → In x later.nodes.kept → IsOnPath task next.paths later.nodes.tracks x
      on-later x there = by (kept-cases settings number k.mark.track s.nodes newborns tracked x (subst (λ l. In x l.kept) committed.nodes there)) where
        by : In x s.nodes.kept ⊎ IsKeptNewborn settings number k.mark.track s.nodes.tracks (with_newborns settings number k.mark.track s.nodes newborns).tracks newborns x →
            IsOnPath task next.paths later.nodes.tracks x
        by (inl old) = on-old x old
        by (inr born) =
            subst (IsOnPath task next.paths later.nodes.tracks) (sym born.is)
            (on-born born.number born.from born.there (ap (λ nodes. track_at nodes.tracks born.number) committed.nodes ∙ born.on))

      -- ---- counts
      count-newborns : length newborns ≡ length children
      count-newborns = ap length newborns_are ∙ length-newborns settings.width all n children

      counts-later : AreCounted later next
      counts-later =
          let old = at.holds.counts in
          let event : Event = event_of node (repeats_at task m node) (borns_of (fresh_at task m node) (nodes_at task settings m node)) in
          let repeats_now : event.repeats ≡ repeats = repeats-are ∙ sym repeats_is in
          record {
            numbered = omega (arith, committed.numbered, count-newborns, old.numbered, length-nodes);
            kept = omega (arith, committed.kept, old.kept);
            expanded = committed.expanded ∙ (ap (λ i. i + 1) old.expanded ∙ sym (length-append m.events (event ∷ [])));
            repeats = committed.repeats_are ∙ ((λ j. old.repeats j + sym repeats_now j) ∙ sym (sum_by_push (λ x. x.repeats) m.events event));
          }

      pub holds-next : StandsFor tables_later all → open_pairs tables_later ≡ open_pairs tables ++ map counters_of pairs → IsAtHome tables_later →
          tables_later.index ≡ tables.index → tables_later.limit ≡ tables.limit → HoldsAt task settings later tables_later next
      holds-next births opened home index limit =
          let generated : generated_in next.nodes ≡ all_at task m node = (law.nodes.stays task settings m node at.holds.numbers at.there).generated in
          record {
            numbers = (law.nodes.stays task settings m node at.holds.numbers at.there).numbered;
            nodes = record {
              nodes_are = nodes-later;
              on_paths = λ x there. on-later x (In-from_Contains x later.nodes.kept there);
            };
            words = record {
              index = subst (IsIndexFor task settings) (sym index) at.holds.words.index;
              limit = limit ∙ at.holds.words.limit;
              births = subst (StandsFor tables_later) (sym (generated ∙ all-are)) births;
              pairs = opened ∙ (pairs-are pairs pairs_is ∙ ap pairs_in (sym generated));
              home = home;
            };
            counts = counts-later;
            latest = subst (λ births. AreBirths births later.latest.entries) (sym (generated ∙ all-are))
                (births-noted settings.width all (generated_in m.nodes) n children newborns s.latest.entries later.latest.entries newborns_are at.holds.latest committed.latest);
          }

-- the kept node of a number is one
pub some_same : (x y : Kept) (o : Option Kept) → o ≡ Some x → o ≡ Some y → x ≡ y
some_same x y o one other = cc

-- ---- an expansion as it is carried out
-- the children of a kept node are evaluated, the repeats among them are out, and the pairs that are to be opened are listed
pub record IsEvaluatedAt (task : PlanningTask) (s : Searched) (tables : NoveltyTables) (number : ℕ) (k : Kept) (brood children : List Child) (pairs : List Pair) : Type 0 where
  pub law : ExpansionLaws
  pub linked : AreLinked s.nodes
  pub there : Contains s.nodes.kept k
  pub named : k.number ≡ number
  pub tracked : k.mark.track < length s.nodes.tracks
  pub brood_is : brood ≡ children_of task k.state k.mark (track_at s.nodes.tracks k.mark.track)
  pub children_is : children ≡ unseen (λ c. c.state) (map (λ x. x.state) s.nodes.kept) brood
  pub pairs_is : open_pairs tables ++ map counters_of pairs ≡ fold with_pair (open_pairs tables) (map child_pair children)

module _ (task : PlanningTask) (settings : Settings) (s : Searched) (tables : NoveltyTables) (number : ℕ) (k : Kept) (brood children : List Child) (pairs : List Pair)
    (ev : IsEvaluatedAt task s tables number k brood children pairs) (m : Moment) (node : Node) (at : IsTakenAt task settings s tables m node number) where
  pub needed-length : length (open_pairs tables) + length pairs ≡ length (pairs_in (all_at task m node))
  needed-length =
      needed-is task settings s tables m node number at ev.linked k ev.there ev.named ev.law brood children ev.brood_is ev.children_is pairs ev.pairs_is

  all-at-are : all_at task m node ≡ generated_in m.nodes ++ all_numbered (length m.nodes) children
  all-at-are = all-are task settings s tables m node number at ev.linked k ev.there ev.named ev.law brood children ev.brood_is ev.children_is

  pub needed-few : length (open_pairs tables) + length pairs ≤ s.numbered + length children
  needed-few =
      let few : length (pairs_in (all_at task m node)) ≤ length (all_at task m node) = pairs-few (all_at task m node) in
      let count : length (all_at task m node) ≡ length m.nodes + length children =
      ap length all-at-are
      ∙ (length-append (generated_in m.nodes) (all_numbered (length m.nodes) children)
      ∙ (λ j. length-map m.nodes (λ x. x.generated) j + length-numbered (length m.nodes) children j)) in
      let numbered_is : s.numbered ≡ length m.nodes = at.holds.counts.numbered in
      omega (arith, needed-length)

  pub all-open : (opened : NoveltyTables) → open_pairs opened ≡ open_pairs tables ++ map counters_of pairs → All (HasOpenPair opened) children
  all-open opened same =
      children-open opened (generated_in m.nodes) (length m.nodes) children
      (same
      ∙ (pairs-are task settings s tables m node number at ev.linked k ev.there ev.named ev.law brood children ev.brood_is ev.children_is pairs ev.pairs_is
      ∙ ap pairs_in all-at-are))

  -- the children can be born into tables in which their pairs were opened
  pub can-born : (opened : NoveltyTables) → open_pairs opened ≡ open_pairs tables ++ map counters_of pairs → opened.index ≡ tables.index →
      All (CanBeBorn opened) children
  can-born opened same index =
      let states = (path_at m.paths node.generated.number).states in
      let track = track_at s.nodes.tracks k.mark.track in
      let all = evaluated task settings s tables m node number at ev.linked k ev.there ev.named ev.law brood children ev.brood_is ev.children_is in
      let reach = reached task settings s tables m node number at ev.linked k ev.there ev.named ev.law brood children ev.brood_is ev.children_is in
      let for_task : IsIndexFor task settings opened.index = subst (IsIndexFor task settings) (sym index) at.holds.words.index in
      let open_all : All (HasOpenPair opened) children = all-open opened same in
      all-from (CanBeBorn opened) children (λ c there.
      let among = Contains-from_In c children there in
      record {
        pair = All-contains (HasOpenPair opened) children c open_all among;
        size = ((All-contains (IsEvaluated task states track) children c all among).marked 0).size ∙ sym for_task.atoms;
        counted = for_task.counted c.state (All-contains (λ (d : Child). IsReachable task d.state) children c reach among);
      })

  -- and these tables stand for the births whose states a child of the node is compared with
  pub stands-earlier : (opened : NoveltyTables) → StandsFor opened (generated_in m.nodes) → StandsForEarlier s k opened
  stands-earlier opened stands = record {
    births = generated_in m.nodes;
    stands = stands;
    earlier = earlier-born task settings s tables m at.holds k ev.there;
  }

  pub last-before : (last : Option ℕ) → last ≡ tables.last → IfSome last (λ l. l < s.numbered)
  last-before last same =
      subst (λ o. IfSome o (λ l. l < s.numbered)) (sym (same ∙ at.holds.words.births.last))
      (subst (λ i. IfSome (last_number (generated_in m.nodes)) (λ l. l < i)) (sym at.holds.counts.numbered)
      (last-below m.nodes at.holds.numbers.numbers))

  pub newborns-here : (width : ℕ) (newborns : List Newborn) → width ≡ settings.width →
      newborns ≡ newborns_of width (generated_in m.nodes ++ all_numbered s.numbered children) s.numbered children →
      newborns ≡ newborns_of settings.width (generated_in m.nodes ++ all_numbered (length m.nodes) children) (length m.nodes) children
  newborns-here width newborns width_is is =
      is ∙ (λ j. newborns_of (width_is j) (generated_in m.nodes ++ all_numbered (at.holds.counts.numbered j) children) (at.holds.counts.numbered j) children)

  pub newborns-fit : (newborns : List Newborn) →
      newborns ≡ newborns_of settings.width (generated_in m.nodes ++ all_numbered (length m.nodes) children) (length m.nodes) children → AreNew s.nodes.kept newborns
  newborns-fit newborns is =
      let seen = map (λ (x : Kept). x.state) s.nodes.kept in
      subst (AreNew s.nodes.kept) (sym is)
      (newborns-new settings.width (generated_in m.nodes ++ all_numbered (length m.nodes) children) (length m.nodes) children s.nodes.kept
      (number-within task settings s tables m node number at ev.linked k ev.there ev.named)
      (subst (λ l. AreApart (map (λ (c : Child). c.state) l)) (sym ev.children_is) (unseen-apart (λ (c : Child). c.state) seen brood))
      (λ state there old. unseen-new (λ (c : Child). c.state) seen brood state (subst (λ l. In state (map (λ (c : Child). c.state) l)) ev.children_is there) old))

  pub fits : IsBounded settings (next_of task settings m node) → settings.budget ≤ 100000000 → (repeats : ℕ) → repeats ≡ length brood - length children →
      (s.numbered + length children < 2 ^ 63) × (s.expanded + 1 < 2 ^ 63) × (s.repeats + repeats < 2 ^ 63)
  fits = numbers-fit task settings s tables m node number at ev.linked k ev.there ev.named ev.law brood children ev.brood_is ev.children_is

  -- what is told of it
  pub event-for : (newborns : List Newborn) (repeats : ℕ) →
      newborns ≡ newborns_of settings.width (generated_in m.nodes ++ all_numbered (length m.nodes) children) (length m.nodes) children →
      repeats ≡ length brood - length children →
      event_as settings k repeats newborns ≡ event_of node (repeats_at task m node) (borns_of (fresh_at task m node) (nodes_at task settings m node))
  event-for = event-is task settings s tables m node number at ev.linked k ev.there ev.named ev.law brood children ev.brood_is ev.children_is

  -- the search stands for the next moment
  pub goes : (tables_later : NoveltyTables) (newborns : List Newborn) (repeats : ℕ) (later : Searched) →
      newborns ≡ newborns_of settings.width (generated_in m.nodes ++ all_numbered (length m.nodes) children) (length m.nodes) children →
      repeats ≡ length brood - length children → IsCommitted settings number k.mark.track newborns repeats s later →
      StandsFor tables_later (generated_in m.nodes ++ all_numbered (length m.nodes) children) →
      open_pairs tables_later ≡ open_pairs tables ++ map counters_of pairs → IsAtHome tables_later →
      tables_later.index ≡ tables.index → tables_later.limit ≡ tables.limit → StandsAt task settings later tables_later (next_of task settings m node)
  goes tables_later newborns repeats later newborns_are repeats_is committed births opened home index limit =
      let n = length m.nodes in
      let all = generated_in m.nodes ++ all_numbered n children in
      let earlier = without m.nodes node in
      let queued : AreQueued s.queue (waiting_of settings (newborns_of settings.width all n children)) later.queue =
      subst (λ l. AreQueued s.queue (waiting_of settings l) later.queue) newborns_are committed.queue in
      record {
        holds = holds-next task settings s tables m node number at ev.linked k ev.there ev.named ev.law brood children ev.brood_is ev.children_is
            pairs tables_later newborns repeats later ev.pairs_is newborns_are repeats_is ev.tracked committed births opened home index limit;
        waiting = subst (λ l. AreWaiting later.queue (earlier ++ l))
            (sym (nodes-are task settings s tables m node number at ev.linked k ev.there ev.named ev.law brood children ev.brood_is ev.children_is))
            (waiting-later settings all n children earlier s.queue later.queue at.waiting queued);
      }

-- an expansion that was evaluated is such a one
pub in_hand : (task : PlanningTask) (s : Searched) (tables : NoveltyTables) (number : ℕ) (x : Expansion) → ExpansionLaws →
    (e : IsExpansionOf task s tables number x) →
    IsEvaluatedAt task s tables number e.children.node (brood_of task s.nodes e.children.node) x.children.items x.pairs.items
in_hand task s tables number x law e = record {
  law = law;
  linked = e.children.linked;
  there = e.children.there;
  named = e.children.named;
  tracked = e.children.tracked;
  brood_is = refl;
  children_is = e.children.unseen_are;
  pairs_is = e.pairs.all;
}
