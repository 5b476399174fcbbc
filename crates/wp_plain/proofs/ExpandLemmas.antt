-- An expansion by the lists is the definition's expansion of each moment that they stand for.
use Rattle.std.proofs.Common.{◌≡◌, ℕ, ◌+◌, ◌-◌, ◌^◌, ◌<◌, ◌≤◌, Bool, false, ◌≢◌, List, [], ◌∷◌, ◌++◌, Option, Some, None, length, map, set, refl, sym, ap, ◌∙◌, subst, ⊎_elim, length-append, length-set, arith}
use Rattle.std.specs.List.{All, fold}
use Rattle.std.proofs.lemmas.List.{length-map, length_push, map-append, get_or-set_same, get_or-set_other}
use Rattle.std.proofs.lemmas.List.Sums.{sum_by_push}
use Rattle.std.proofs.lemmas.Bool.{cases_eq}
use Rattle.wp_task.specs.Task.{PlanningTask}
use Rattle.wp_task.specs.Novelty.{Generated}
use Rattle.wp_count.specs.declared.brood.Child.{Child}
use Rattle.wp_count.specs.Laws.{IsEvaluated, ChildrenAreEvaluated}
use Rattle.wp_watch.specs.declared.event.Event.{Event}
use Rattle.wp_watch.specs.Sums.{repeats_in}
use Rattle.wp_plain.specs.declared.settings.Settings.{Settings}
use Rattle.wp_plain.specs.declared.explored.Link.{Link}
use Rattle.wp_plain.specs.declared.explored.Explored.{Explored}
use Rattle.wp_plain.specs.declared.explored.Expansion.{Expansion}
use Rattle.wp_plain.specs.Nodes.{Node, Path, path_at, extended, generated_in, states_kept}
use Rattle.wp_plain.specs.Pairs.{with_pair, pairs_in}
use Rattle.wp_plain.specs.Expansion.{path_counters, successors_of, unseen, fresh_of, node_of, borns_of, event_of}
use Rattle.wp_plain.specs.Run.{Moment, fresh_at, repeats_at, children_at, all_at, nodes_at}
use Rattle.wp_plain.specs.Numbers.{next_of}
use Rattle.wp_plain.specs.Steps.{Asked, event_for, IsBounded}
use Rattle.wp_plain.specs.Explored.{no_node, node_at, way_at, track_at, path_over, states_before, lists_of, bare, all_numbered, child_pair, brood_at, without_waiting, expanded_at, event_at, moment_of, Lists, AreReached, IsReached, StandsFor, IsTakenAt, IsEvaluatedAt}
use Rattle.wp_plain.proofs.UnseenLemmas.{unseen-all}
use Rattle.wp_plain.proofs.ReachedLemmas.{reached-children}
use Rattle.wp_plain.proofs.NodeLemmas.{nodes-children, pairs_in-numbered, generated_in-set}
use Rattle.wp_plain.proofs.ChildLemmas.{bare-children, unseen-bare, fresh-numbered}
use Rattle.wp_plain.proofs.EventLemmas.{event-expanded}

-- ---- a node that waits no longer
generated-left : (nodes : List Node) (i k : ℕ) (x : Node) → x.generated ≡ (node_at nodes i).generated → i < length nodes →
    (node_at (set nodes i x) k).generated ≡ (node_at nodes k).generated
generated-left nodes i k x same within = ⊎_elim
    (λ (here : k ≡ i).
    ap (λ j. (node_at (set nodes i x) j).generated) here
    ∙ (ap (λ n. n.generated) (get_or-set_same nodes i x no_node within) ∙ (same ∙ ap (λ j. (node_at nodes j).generated) (sym here))))
    (λ (other : k ≢ i). ap (λ n. n.generated) (get_or-set_other nodes i k x no_node other))
    (cases_eq k i)

reached-left : (task : PlanningTask) (paths : List Path) (lists : Lists) (place : ℕ) → place < length lists.nodes →
    AreReached task paths lists → AreReached task paths (without_waiting place lists)
reached-left task paths lists place within reached =
    let x : Node = record (node_at lists.nodes place) { waits = false } in
    let len : length (set lists.nodes place x) ≡ length lists.nodes = length-set lists.nodes place x in
    record {
      path_each = reached.path_each ∙ sym len;
      way_each = reached.way_each ∙ sym len;
      each = λ k below. subst (λ g. IsReached task paths lists.tracks k g (way_at lists.ways k))
          (sym (generated-left lists.nodes place k x refl within))
          (reached.each k (omega arith));
    }

generated_in-nodes : (settings : Settings) (all gs : List Generated) → generated_in (map (node_of settings all) gs) ≡ gs
generated_in-nodes settings all [] = refl
generated_in-nodes settings all (g ∷ gs) = ap (λ l. g ∷ l) (generated_in-nodes settings all gs)

states-over : (paths : List Path) (state : List Bool) (back : Option Link) → (path_over paths state back).states ≡ state ∷ states_before paths back
states-over paths state None = refl
states-over paths state (Some link) = refl

-- the children of a node are those of its path
pub children-evaluated : (task : PlanningTask) (e : Explored) (m : Moment) (node : Node) (place : ℕ) → ChildrenAreEvaluated → IsTakenAt task e m node place →
    All (IsEvaluated task (path_at m.paths place).states (track_at e.tracks.items (way_at e.ways.items place).mark.track)) (brood_at task (lists_of e) place)
children-evaluated task e m node place law taken =
    let way = way_at e.ways.items place in
    let state = (node_at e.nodes.items place).generated.state in
    let track = track_at e.tracks.items way.mark.track in
    let reached = taken.stands.reached.each place taken.within in
    let states : state ∷ states_before m.paths way.back ≡ (path_at m.paths place).states =
    sym (ap (λ p. p.states) reached.path ∙ states-over m.paths state way.back) in
    subst (λ path. All (IsEvaluated task path track) (brood_at task (lists_of e) place)) states
    (law task state (states_before m.paths way.back) way.mark track reached.marked)

-- ---- an expansion of a node in the lists
module _ (asked : Asked) (e : Explored) (paths : List Path) (events : List Event) (place : ℕ) (x : Expansion)
    (got : IsEvaluatedAt asked.task e (moment_of e paths events) (node_at e.nodes.items place) place x) where
  abbrev now : Moment
  now = moment_of e paths events

  abbrev node : Node
  node = node_at e.nodes.items place

  abbrev fresh : List Child
  fresh = x.fresh.items

  abbrev nums : List Generated
  nums = all_numbered (length e.nodes.items) fresh

  abbrev brood : List Child
  brood = brood_at asked.task (lists_of e) place

  successors-are : successors_of asked.task.acts node.generated.state ≡ map bare brood
  successors-are =
      let way = way_at e.ways.items place in
      sym (bare-children asked.task node.generated.state way.mark (track_at e.tracks.items way.mark.track))

  fresh-are : fresh_at asked.task now node ≡ map bare fresh
  fresh-are =
      let kept = states_kept e.nodes.items in
      ap (unseen (λ y. y.state) kept) successors-are ∙ (unseen-bare kept brood ∙ ap (map bare) (sym got.fresh))

  repeats-are : repeats_at asked.task now node ≡ x.repeats
  repeats-are =
      (λ j. length (successors-are j) - length (fresh-are j))
      ∙ ((λ j. length-map brood bare j - length-map fresh bare j) ∙ sym got.repeats)

  number-is : node.generated.number ≡ place
  number-is = (got.taken.stands.reached.each place got.taken.within).numbered

  children-are : children_at asked.task now node ≡ nums
  children-are =
      let track = track_at e.tracks.items (way_at e.ways.items place).mark.track in
      (λ j. fresh_of (path_counters asked.task) (path_at paths (number-is j)).states (length e.nodes.items) (fresh-are j))
      ∙ sym (fresh-numbered asked.task (path_at paths place).states track (length e.nodes.items) fresh got.evaluated)

  all-are : all_at asked.task now node ≡ generated_in e.nodes.items ++ nums
  all-are = ap (λ l. generated_in e.nodes.items ++ l) children-are

  nodes-are : nodes_at asked.task asked.settings now node ≡ map (node_of asked.settings (generated_in e.nodes.items ++ nums)) nums
  nodes-are = λ j. map (node_of asked.settings (all-are j)) (children-are j)

  pairs-are : pairs_in (all_at asked.task now node) ≡ x.pairs.items
  pairs-are =
      ap pairs_in all-are
      ∙ (sym (pairs_in-numbered (generated_in e.nodes.items) (length e.nodes.items) fresh)
      ∙ (ap (λ ps. fold with_pair ps (map child_pair fresh)) (sym got.taken.stands.pairs) ∙ sym got.pairs))

  -- what the lists tell is the definition's event
  event-is : event_for asked now node ≡ event_at (expanded_at asked.settings place (lists_of e) fresh) place x.repeats (length e.nodes.items)
  event-is =
      (λ j. event_of node (repeats-are j) (borns_of (fresh-are j) (nodes-are j)))
      ∙ sym (event-expanded asked.settings place (lists_of e) fresh x.repeats got.taken.within got.taken.stands.reached.way_each)

  module _ (later : Explored) (lists : lists_of later ≡ expanded_at asked.settings place (lists_of e) fresh) where
    nodes-later : later.nodes.items ≡ (next_of asked.task asked.settings now node).nodes
    nodes-later =
        let nodes = e.nodes.items in
        let y : Node = record node { waits = false } in
        let track = (way_at e.ways.items place).mark.track in
        let len : length (set nodes place y) ≡ length nodes = length-set nodes place y in
        let same : generated_in (set nodes place y) ≡ generated_in nodes = generated_in-set nodes place no_node y refl in
        ap (λ l. l.nodes) lists
        ∙ (nodes-children asked.settings place track (without_waiting place (lists_of e)) fresh
        ∙ ((λ j. set nodes (sym number-is j) y ++ map (node_of asked.settings (same j ++ all_numbered (len j) fresh)) (all_numbered (len j) fresh))
        ∙ ap (λ l. set nodes node.generated.number y ++ l) (sym nodes-are)))

    generated-later : generated_in later.nodes.items ≡ all_at asked.task now node
    generated-later =
        let nodes = e.nodes.items in
        let y : Node = record node { waits = false } in
        ap generated_in nodes-later
        ∙ (map-append (λ n. n.generated) (set nodes node.generated.number y) (nodes_at asked.task asked.settings now node)
        ∙ (λ j. (ap (λ i. generated_in (set nodes i y)) number-is ∙ generated_in-set nodes place no_node y refl) j
        ++ generated_in-nodes asked.settings (all_at asked.task now node) (children_at asked.task now node) j))

    reached-later : AreReached asked.task (next_of asked.task asked.settings now node).paths (lists_of later)
    reached-later =
        let way = way_at e.ways.items place in
        let track = track_at e.tracks.items way.mark.track in
        let here = got.taken.stands.reached.each place got.taken.within in
        let p = path_at paths node.generated.number in
        let is_path : path_at paths place ≡ p = ap (path_at paths) (sym number-is) in
        subst (λ xs. AreReached asked.task (paths ++ map (extended p) xs) (lists_of later)) (sym fresh-are)
        (subst (λ l. AreReached asked.task (paths ++ map (extended p) (map bare fresh)) l) (sym lists)
        (reached-children asked.task asked.settings place way.mark.track p track paths (without_waiting place (lists_of e)) fresh
        (reached-left asked.task paths (lists_of e) place got.taken.within got.taken.stands.reached)
        (omega (arith, got.taken.within, length-set e.nodes.items place (record node { waits = false })))
        here.has_track is_path refl
        (subst (λ q. All (IsEvaluated asked.task q.states track) fresh) is_path got.evaluated)))

    stands-later : later.pairs.items ≡ x.pairs.items → later.expanded ≡ e.expanded + 1 → later.repeats ≡ e.repeats + x.repeats →
        StandsFor asked.task later (next_of asked.task asked.settings now node)
    stands-later pairs expanded repeats =
        let stands = got.taken.stands in
        let event = event_for asked now node in
        record {
          nodes = nodes-later;
          reached = reached-later;
          pairs = pairs ∙ (sym pairs-are ∙ ap pairs_in (sym generated-later ∙ ap generated_in nodes-later));
          expanded = expanded ∙ (ap (λ n. n + 1) stands.expanded ∙ sym (length-append events (event ∷ [])));
          repeats = repeats ∙ ((λ j. stands.repeats j + sym repeats-are j) ∙ sym (sum_by_push (λ y. y.repeats) events event));
        }

-- ---- at each moment that the lists stand for
-- the expansion of the node at a place, at its own moment
abbrev At : (Asked → Explored → Moment → Node → ℕ → Expansion → Type 0) → Type 0
At P = (asked : Asked) (e : Explored) (m : Moment) (node : Node) (place : ℕ) (x : Expansion) → IsEvaluatedAt asked.task e m node place x → P asked e m node place x

at-moments : (P : Asked → Explored → Moment → Node → ℕ → Expansion → Type 0) →
    ((asked : Asked) (e : Explored) (paths : List Path) (events : List Event) (place : ℕ) (x : Expansion) →
    IsEvaluatedAt asked.task e (moment_of e paths events) (node_at e.nodes.items place) place x →
    P asked e (moment_of e paths events) (node_at e.nodes.items place) place x) → At P
at-moments P holds asked e m node place x got =
    let same : moment_of e m.paths m.events ≡ m = λ j. (let n : Moment = record { nodes = got.taken.stands.nodes j; paths = m.paths; events = m.events } in n) in
    subst (λ (n : Moment). IsEvaluatedAt asked.task e n node place x → P asked e n node place x) same
    (subst (λ (y : Node). IsEvaluatedAt asked.task e (moment_of e m.paths m.events) y place x → P asked e (moment_of e m.paths m.events) y place x) got.taken.node_is
    (holds asked e m.paths m.events place x))
    got

pub pairs-evaluated : At (λ asked e m node place x. pairs_in (all_at asked.task m node) ≡ x.pairs.items)
pairs-evaluated = at-moments (λ asked e m node place x. pairs_in (all_at asked.task m node) ≡ x.pairs.items) pairs-are

pub repeats-evaluated : At (λ asked e m node place x. repeats_at asked.task m node ≡ x.repeats)
repeats-evaluated = at-moments (λ asked e m node place x. repeats_at asked.task m node ≡ x.repeats) repeats-are

pub event-evaluated : At (λ asked e m node place x.
    event_for asked m node ≡ event_at (expanded_at asked.settings place (lists_of e) x.fresh.items) place x.repeats (length e.nodes.items))
event-evaluated = at-moments (λ asked e m node place x.
    event_for asked m node ≡ event_at (expanded_at asked.settings place (lists_of e) x.fresh.items) place x.repeats (length e.nodes.items)) event-is

-- what is there after it
pub record IsTakenUp (settings : Settings) (e later : Explored) (place : ℕ) (x : Expansion) : Type 0 where
  pub lists : lists_of later ≡ expanded_at settings place (lists_of e) x.fresh.items
  pub pairs : later.pairs.items ≡ x.pairs.items
  pub expanded : later.expanded ≡ e.expanded + 1
  pub repeats : later.repeats ≡ e.repeats + x.repeats

pub stands-after : At (λ asked e m node place x. (later : Explored) → IsTakenUp asked.settings e later place x →
    StandsFor asked.task later (next_of asked.task asked.settings m node))
stands-after = at-moments (λ asked e m node place x. (later : Explored) → IsTakenUp asked.settings e later place x →
    StandsFor asked.task later (next_of asked.task asked.settings m node))
    (λ asked e paths events place x got later up. stands-later asked e paths events place x got later up.lists up.pairs up.expanded up.repeats)

-- the sum of repeats fits
pub repeats-fit : At (λ asked e m node place x. IsBounded asked.settings (next_of asked.task asked.settings m node) → asked.settings.budget ≤ 100000000 →
    e.repeats + x.repeats < 2 ^ 63)
repeats-fit asked e m node place x got later few =
    let event = event_for asked m node in
    let told : length (m.events ++ event ∷ []) ≡ length m.events + 1 = length_push m.events event in
    let sum : repeats_in (m.events ++ event ∷ []) ≡ repeats_in m.events + repeats_at asked.task m node = sum_by_push (λ (y : Event). y.repeats) m.events event in
    omega (arith, got.taken.stands.repeats, repeats-evaluated asked e m node place x got, later.repeats, later.few, told, sum, few)
