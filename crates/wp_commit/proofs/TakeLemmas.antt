-- The first node of the open list is the first waiting node of the moment, and it is kept.
use Rattle.std.proofs.Common.{◌≡◌, ◌≢◌, ◌⊎◌, ◌==◌, ◌&&◌, ◌||◌, ◌<◌, ◌+◌, ℕ, zero, suc, nat_lt, Bool, true, false, cond, is_some, List, [], ◌∷◌, Option, Some, None, length, map, get_or, set, filter, refl, sym, ap, ◌∙◌, subst, inl, inr, arith}
use Rattle.std.specs.Prelude.{MatchOption, All, Contains, IfSome, IfNone}
use Rattle.std.proofs.lemmas.Bool.{both_ways, eq-eqb}
use Rattle.std.proofs.lemmas.Bool.Decides.{nat_tests}
use Rattle.std.proofs.lemmas.List.Elements.{All-contains_itself, All-weaker}
use Rattle.wp_task.specs.Task.{PlanningTask}
use Rattle.wp_task.specs.Novelty.{Generated}
use Rattle.wp_task.proofs.Members.{In, In-from_Contains, Contains-from_In, In-map, In-map_cases, In-filter, In-filter_cases}
use Rattle.wp_novel.specs.NoveltyTables.{NoveltyTables}
use Rattle.wp_queue.specs.declared.queue.Waiting.{Waiting}
use Rattle.wp_queue.specs.OpenList.{waiting, IsBefore, IsTaken}
use Rattle.wp_nodes.specs.declared.kept.Kept.{Kept}
use Rattle.wp_nodes.specs.KeptNodes.{Keeping, node_of, IsKept}
use Rattle.wp_nodes.specs.Links.{along, FollowLinks}
use Rattle.wp_plain.specs.declared.settings.Settings.{Settings}
use Rattle.wp_plain.specs.Nodes.{FirstIsLeast, Node, comes_before, first_waiting, IsFirst, left}
use Rattle.wp_plain.specs.Run.{Moment}
use Rattle.wp_plain.specs.Numbers.{CountUp}
use Rattle.wp_plain.specs.Steps.{HasTakenFirst}
use Rattle.wp_plain.proofs.NumberLemmas.{number_below, one_node, node_there, CountUp-set, In-set_cases}
use Rattle.wp_ahead.specs.Laws.{AreMarked}
use Rattle.wp_commit.specs.declared.searched.Searched.{Searched}
use Rattle.wp_commit.specs.Searched.{shown_kept, shown, plans_in, AreKept, IsWaiting, AreWaiting, HoldsAt, StandsAt, IsTakenAt, without}
use Rattle.wp_commit.proofs.NewbornLemmas.{waiting_node}

-- ---- a list in which one item is replaced
pub In-set_other : {X : Type 0} (xs : List X) (k : ℕ) (v x : X) → In x xs → (get_or xs k x ≡ x → ⊥) → In x (set xs k v)
In-set_other [] k v x there other = absurd there
In-set_other (y ∷ ys) zero v x (inl same) other = absurd (other (sym same))
In-set_other (y ∷ ys) zero v x (inr later) other = inr later
In-set_other (y ∷ ys) (suc k) v x (inl same) other = inl same
In-set_other (y ∷ ys) (suc k) v x (inr later) other = inr (In-set_other ys k v x later other)

pub In-set_new : {X : Type 0} (xs : List X) (k : ℕ) (v : X) → k < length xs → In v (set xs k v)
In-set_new [] k v within = absurd (omega arith)
In-set_new (y ∷ ys) zero v within = inl refl
In-set_new (y ∷ ys) (suc k) v within = inr (In-set_new ys k v (omega arith))

-- ---- the order of what waits
-- the order of triples, as a test and as a relation: where neither comes first they are the same
abbrev before : ℕ → ℕ → ℕ → ℕ → ℕ → ℕ → Bool
before w g n v h m = nat_lt w v || ((w == v) && (nat_lt g h || ((g == h) && nat_lt n m)))

same-triple : (w g n v h m : ℕ) → before w g n v h m ≡ false →
    (v < w → ⊥) → (v ≡ w → h < g → ⊥) → (v ≡ w → h ≡ g → m < n → ⊥) → (w ≡ v) × (g ≡ h) × (n ≡ m)
same-triple w g n v h m first less_w less_g less_n = (grind (arith, nat_tests), grind (arith, nat_tests), grind (arith, nat_tests))

same-waiting : (x y : Node) → comes_before x y ≡ false → (IsBefore (waiting_node y) (waiting_node x) → ⊥) → waiting_node x ≡ waiting_node y
same-waiting x y first none =
    let same : (x.w ≡ y.w) × (x.generated.counters.0 ≡ y.generated.counters.0) × (x.generated.number ≡ y.generated.number) =
    same-triple x.w x.generated.counters.0 x.generated.number y.w y.generated.counters.0 y.generated.number first
    (λ less. none (inl less)) (λ tie less. none (inr (tie, inl less))) (λ tie also less. none (inr (tie, inr (also, less)))) in
    λ j. waiting (same.0 j) (same.1 j) (same.2 j)

-- ---- the node that was taken
-- it is the first waiting node of the moment, and the open list is that of the others
pub record IsTakenNode (nodes : List Node) (new : List Waiting) (number : ℕ) : Type 0 where
  pub node : Node
  pub first : first_waiting nodes ≡ Some node
  pub there : Contains nodes node
  pub waits : node.waits ≡ true
  pub named : node.generated.number ≡ number
  pub waiting : AreWaiting new (without nodes node)

module _ (nodes : List Node) (counts : CountUp 0 nodes) (queue new : List Waiting) (number : ℕ) (are : AreWaiting queue nodes)
    (taken : IsTaken queue new number) where
  module _ (y : Node) (first : IsFirst nodes y) where
    same-place : taken.node ≡ waiting_node y
    same-place =
        let z : (node : Node) × Contains nodes node × (node.waits ≡ true) × IsWaiting taken.node node = (are.waits taken.node).0 taken.first.waits in
        let queued : Contains queue (waiting_node y) = (are.waits (waiting_node y)).1 (y, first.there, first.waits, refl) in
        let none : IsBefore (waiting_node y) (waiting_node z.0) → ⊥ =
        subst (λ (w : Waiting). IsBefore (waiting_node y) w → ⊥) z.3 (taken.first.none_before (waiting_node y) queued) in
        z.3 ∙ same-waiting z.0 y (first.least z.0 z.1 z.2) none

    y_in : In y nodes
    y_in = In-from_Contains y nodes first.there

    place : y.generated.number ≡ 0 + y.generated.number
    place = omega arith

    within : y.generated.number < length nodes
    within = let below : y.generated.number < 0 + length nodes = number_below 0 nodes counts y y_in in omega arith

    -- a node that is not the one that was taken waits on
    stays : (x : Waiting) (z : Node) → x ≢ taken.node → Contains nodes z → IsWaiting x z → Contains (without nodes y) z
    stays x z other there is =
        Contains-from_In z (without nodes y) (In-set_other nodes y.generated.number (left y) z (In-from_Contains z nodes there)
        (λ at. other (is ∙ (ap waiting_node (sym at ∙ node_there 0 nodes counts y z y.generated.number y_in place) ∙ sym same-place))))

    -- a node that waits on was there, and is not the one that was taken
    was_there : (z : Node) → Contains (without nodes y) z → z.waits ≡ true → Contains nodes z
    was_there z there waits = by (In-set_cases nodes y.generated.number (left y) z (In-from_Contains z (without nodes y) there)) where
      by : (z ≡ left y) ⊎ In z nodes → Contains nodes z
      by (inl is) = absurd (both_ways z.waits (ap (λ n. n.waits) is) waits)
      by (inr before) = Contains-from_In z nodes before

    differs : (x : Waiting) (z : Node) → Contains (without nodes y) z → z.waits ≡ true → IsWaiting x z → x ≢ taken.node
    differs x z there waits is same =
        let number : z.generated.number ≡ y.generated.number = ap (λ w. w.number) (sym is ∙ (same ∙ same-place)) in
        let one : z ≡ left y =
        one_node 0 (without nodes y) (CountUp-set 0 nodes y.generated.number (left y) counts place) z (left y)
        (In-from_Contains z (without nodes y) there) (In-set_new nodes y.generated.number (left y) within) number in
        both_ways z.waits (ap (λ n. n.waits) one) waits

    still : AreWaiting new (without nodes y)
    still = record {
      waits = λ x. (
        λ h.
            let both : Contains queue x × (x ≢ taken.node) = (taken.rest x).0 h in
            let z : (node : Node) × Contains nodes node × (node.waits ≡ true) × IsWaiting x node = (are.waits x).0 both.0 in
            (z.0, stays x z.0 both.1 z.1 z.3, z.2, z.3),
        λ z. (taken.rest x).1 ((are.waits x).1 (z.0, was_there z.0 z.1 z.2, z.2, z.3), differs x z.0 z.1 z.2 z.3),
      );
      kept = λ node there waits. are.kept node (was_there node there waits) waits;
    }

  pub taken_node : FirstIsLeast → IsTakenNode nodes new number
  taken_node least = by (first_waiting nodes) refl (least.found nodes) where
    by : (o : Option Node) → first_waiting nodes ≡ o → MatchOption o ((x : Node) → Contains nodes x → x.waits ≡ false) (IsFirst nodes) →
        IsTakenNode nodes new number
    by None is none =
        let z : (node : Node) × Contains nodes node × (node.waits ≡ true) × IsWaiting taken.node node = (are.waits taken.node).0 taken.first.waits in
        absurd (both_ways z.0.waits (none z.0 z.1) z.2)
    by (Some y) is first = record {
      node = y;
      first = is;
      there = first.there;
      waits = first.waits;
      named = ap (λ w. w.number) (sym (same-place y first)) ∙ taken.named;
      waiting = still y first;
    }

-- nothing waits where the open list is empty
pub none_taken : FirstIsLeast → (nodes : List Node) (queue : List Waiting) → AreWaiting queue nodes → queue ≡ [] → first_waiting nodes ≡ None
none_taken least nodes queue are empty = by (first_waiting nodes) refl (least.found nodes) where
  by : (o : Option Node) → first_waiting nodes ≡ o → MatchOption o ((x : Node) → Contains nodes x → x.waits ≡ false) (IsFirst nodes) →
      first_waiting nodes ≡ None
  by None is none = is
  by (Some y) is first =
      let queued : Contains queue (waiting_node y) = (are.waits (waiting_node y)).1 (y, first.there, first.waits, refl) in
      absurd (In-from_Contains (waiting_node y) [] (subst (λ (l : List Waiting). Contains l (waiting_node y)) empty queued))

-- ---- the search after a node was taken
module _ (task : PlanningTask) (settings : Settings) (s : Searched) (tables : NoveltyTables) (m : Moment) where
  -- the open list plays no part
  pub HoldsAt-queue : (queue : List Waiting) → HoldsAt task settings s tables m → HoldsAt task settings (record s { queue = queue }) tables m
  HoldsAt-queue queue holds = record {
    numbers = holds.numbers;
    nodes = holds.nodes;
    words = holds.words;
    latest = holds.latest;
    counts = record {
      numbered = holds.counts.numbered;
      kept = holds.counts.kept;
      expanded = holds.counts.expanded;
      repeats = holds.counts.repeats;
    };
  }

  pub record IsTakenFirst (new : List Waiting) (number : ℕ) : Type 0 where
    pub node : Node
    pub first : first_waiting m.nodes ≡ Some node
    pub taken : IsTakenAt task settings (record s { queue = new }) tables m node number

  pub taken_first : FirstIsLeast → (new : List Waiting) (number : ℕ) → StandsAt task settings s tables m → IsTaken s.queue new number → IsTakenFirst new number
  taken_first least new number stands taken =
      let found = taken_node m.nodes stands.holds.numbers.numbers s.queue new number stands.waiting taken least in
      record {
        node = found.node;
        first = found.first;
        taken = record {
          holds = HoldsAt-queue new stands.holds;
          waiting = found.waiting;
          there = found.there;
          kept = stands.waiting.kept found.node found.there found.waits;
          named = found.named;
        };
      }

  -- so it is with what the open list answers
  pub takes-first : {X : Type 0} → X → FirstIsLeast → (new : List Waiting) (result : Option ℕ) → StandsAt task settings s tables m →
      IfSome result (IsTaken s.queue new) → IfNone result ((s.queue ≡ []) × (new ≡ [])) →
      HasTakenFirst (λ n. X × HoldsAt task settings (record s { queue = new }) tables n)
      (λ n node number. X × IsTakenAt task settings (record s { queue = new }) tables n node number) m result
  takes-first x least new None stands taken empty =
      (none_taken least m.nodes s.queue stands.waiting empty.0, (x, HoldsAt-queue new stands.holds))
  takes-first x least new (Some number) stands taken empty =
      let found = taken_first least new number stands taken in (found.node, found.first, (x, found.taken))

-- ---- kept nodes of a moment
-- a node that is there is kept under its number
kept-there : (kept : List Kept) (k : Kept) → In k kept → IsKept kept k.number
kept-there [] k there = absurd there
kept-there (x ∷ kept) k (inl same) =
    ap (λ (b : Bool). is_some (cond b (Some x) (node_of kept k.number))) (ap (λ (y : Kept). y.number == k.number) (sym same) ∙ eq-eqb k.number k.number refl)
kept-there (x ∷ kept) k (inr later) = by (x.number == k.number) (kept-there kept k later) where
  by : (b : Bool) → IsKept kept k.number → is_some (cond b (Some x) (node_of kept k.number)) ≡ true
  by true rest = refl
  by false rest = rest

module _ (task : PlanningTask) (settings : Settings) (s : Searched) (tables : NoveltyTables) (m : Moment) (holds : HoldsAt task settings s tables m) where
  -- a node that is not pruned is kept
  pub kept_for : (node : Node) → Contains m.nodes node → node.kept ≡ true → (k : Kept) × Contains s.nodes.kept k × (shown_kept k ≡ shown node)
  kept_for node there kept =
      let in_moment : In (shown node) (map shown (filter (λ n. n.kept) m.nodes)) =
      In-map shown (filter (λ n. n.kept) m.nodes) node (In-filter (λ n. n.kept) m.nodes node (In-from_Contains node m.nodes there) kept) in
      let found : (k : Kept) × In k s.nodes.kept × (shown node ≡ shown_kept k) =
      In-map_cases shown_kept s.nodes.kept (shown node) (subst (λ (l : List (Generated × ℕ)). In (shown node) l) (sym holds.nodes.nodes_are) in_moment) in
      (found.0, Contains-from_In found.0 s.nodes.kept found.1, sym found.2)

  -- what is kept is a node that is not pruned
  pub node_for : (k : Kept) → Contains s.nodes.kept k → (node : Node) × Contains m.nodes node × (node.kept ≡ true) × (shown_kept k ≡ shown node)
  node_for k there =
      let in_kept : In (shown_kept k) (map shown_kept s.nodes.kept) = In-map shown_kept s.nodes.kept k (In-from_Contains k s.nodes.kept there) in
      let found : (node : Node) × In node (filter (λ n. n.kept) m.nodes) × (shown_kept k ≡ shown node) =
      In-map_cases shown (filter (λ n. n.kept) m.nodes) (shown_kept k)
      (subst (λ (l : List (Generated × ℕ)). In (shown_kept k) l) holds.nodes.nodes_are in_kept) in
      let parts : In found.0 m.nodes × (found.0.kept ≡ true) = In-filter_cases (λ n. n.kept) m.nodes found.0 found.1 in
      (found.0, Contains-from_In found.0 m.nodes parts.0, parts.1, found.2)

  -- a node and what is kept have one number only where they are the same
  pub kept_is : (node : Node) (k : Kept) → Contains m.nodes node → Contains s.nodes.kept k → k.number ≡ node.generated.number → shown_kept k ≡ shown node
  kept_is node k there kept number =
      let found : (x : Node) × Contains m.nodes x × (x.kept ≡ true) × (shown_kept k ≡ shown x) = node_for k kept in
      let same : found.0.generated.number ≡ node.generated.number =
      ap (λ (p : Generated × ℕ). p.0.number) (sym found.3) ∙ number in
      found.3
      ∙ ap shown (one_node 0 m.nodes holds.numbers.numbers found.0 node (In-from_Contains found.0 m.nodes found.1) (In-from_Contains node m.nodes there) same)

  -- what waits is kept
  pub waiting-kept : (node : Node) → AreWaiting s.queue (without m.nodes node) → All (λ x. IsKept s.nodes.kept x.number) s.queue
  waiting-kept node are =
      All-weaker (Contains s.queue) (λ (x : Waiting). IsKept s.nodes.kept x.number) (λ x there.
      let z : (z : Node) × Contains (without m.nodes node) z × (z.waits ≡ true) × IsWaiting x z = (are.waits x).0 there in
      let before : Contains m.nodes z.0 = was_there z.0 (In-set_cases m.nodes node.generated.number (left node) z.0 (In-from_Contains z.0 (without m.nodes node) z.1)) z.2 in
      let k = kept_for z.0 before (are.kept z.0 z.1 z.2) in
      let number : k.0.number ≡ x.number = ap (λ (p : Generated × ℕ). p.0.number) k.2 ∙ ap (λ (w : Waiting). w.number) (sym z.3) in
      subst (IsKept s.nodes.kept) number (kept-there s.nodes.kept k.0 (In-from_Contains k.0 s.nodes.kept k.1)))
      s.queue (All-contains_itself s.queue) where
        was_there : (z : Node) → (z ≡ left node) ⊎ In z m.nodes → z.waits ≡ true → Contains m.nodes z
        was_there z (inl is) waits = absurd (both_ways z.waits (ap (λ n. n.waits) is) waits)
        was_there z (inr old) waits = Contains-from_In z m.nodes old

-- what is kept of each node can stand for its state
pub marked-nodes : (task : PlanningTask) (nodes : Keeping) (m : Moment) → AreKept task nodes m → AreMarked task nodes
marked-nodes task nodes m are k there = let marked = (are.on_paths k there).marked in (marked.size, marked.fits)

-- ---- plans
-- the plans of a moment follow the links of the kept nodes
pub plans-follow : (task : PlanningTask) (nodes : Keeping) (m : Moment) → AreKept task nodes m → FollowLinks nodes.kept (plans_in m.paths)
plans-follow task nodes m are =
    All-weaker (Contains nodes.kept) (λ (k : Kept). plans_in m.paths k.number ≡ along (plans_in m.paths) k.back)
    (λ k there. (are.on_paths k there).acts) nodes.kept (All-contains_itself nodes.kept)
