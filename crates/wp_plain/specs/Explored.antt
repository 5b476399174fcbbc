-- What the plain search keeps, and the moments that it stands for: the moment's nodes are kept as they are, and a link to its
-- parent stands for each path. Of the events there are the counts.
use Rattle.std.specs.Prelude.{◌≡◌, ◌+◌, ◌-◌, ◌<◌, ℕ, Bool, false, List, All, [], ◌∷◌, ◌++◌, length, map, drop, fold, slice_index_or, slice_set, Option, Some, None, IfSome}
use Rattle.std.specs.Option.{option_to_list}
use Rattle.wp_task.specs.Task.{PlanningTask}
use Rattle.wp_task.specs.Novelty.{Generated}
use Rattle.wp_count.specs.declared.brood.Child.{Child}
use Rattle.wp_count.specs.Broods.{children_of}
use Rattle.wp_count.specs.Laws.{IsMarked, IsEvaluated, mark_of}
use Rattle.wp_task.specs.declared.track.Mark.{Mark}
use Rattle.wp_watch.specs.declared.event.Born.{Born}
use Rattle.wp_watch.specs.declared.event.Event.{Event}
use Rattle.wp_watch.specs.Sums.{repeats_in}
use Rattle.wp_plain.specs.declared.settings.Settings.{Settings}
use Rattle.wp_plain.specs.declared.explored.Link.{Link}
use Rattle.wp_plain.specs.declared.explored.Way.{Way}
use Rattle.wp_plain.specs.declared.explored.Explored.{Explored}
use Rattle.wp_plain.specs.declared.explored.Expansion.{Expansion}
use Rattle.wp_plain.specs.Nodes.{Node, Path, Successor, path_at, extended, generated_in, states_kept}
use Rattle.wp_plain.specs.Pairs.{with_pair, pairs_in}
use Rattle.wp_plain.specs.Expansion.{successors_of, unseen, path_counters, fresh_of, node_of, born_of, event_of}
use Rattle.wp_plain.specs.Run.{Moment}

-- past the end of a list
abbrev pub no_node : Node
no_node = record { generated = record { number = 0; counters = (0, 0); state = [] }; w = 0; kept = false; waits = false }

abbrev pub no_way : Way
no_way = record { back = None; mark = record { g = 0; r = 0; track = 0; got = [] } }

abbrev pub node_at : List Node → ℕ → Node
node_at nodes place = slice_index_or nodes place no_node

abbrev pub way_at : List Way → ℕ → Way
way_at ways place = slice_index_or ways place no_way

abbrev pub track_at : List (List ℕ) → ℕ → List ℕ
track_at tracks number = slice_index_or tracks number []

-- the node that was found, by its place
abbrev pub looked : List Node → Option ℕ → Option Node
looked nodes None = None
looked nodes (Some place) = Some (node_at nodes place)

-- ---- paths by links
-- the path to a state over its parent's
abbrev pub path_over : List Path → List Bool → Option Link → Path
path_over paths state None = record { acts = []; states = state ∷ [] }
path_over paths state (Some link) = extended (path_at paths link.parent) (record { act = link.act; state = state })

-- the states before the last one of it
abbrev pub states_before : List Path → Option Link → List (List Bool)
states_before paths None = []
states_before paths (Some link) = (path_at paths link.parent).states

-- what is kept of a node has its path, its counters, and the mark of its path
pub record IsReached (task : PlanningTask) (paths : List Path) (tracks : List (List ℕ)) (place : ℕ) (x : Generated) (way : Way) : Type 0 where
  pub numbered : x.number ≡ place
  pub parent : IfSome way.back (λ link. link.parent < place)
  pub path : path_at paths place ≡ path_over paths x.state way.back
  pub has_track : way.mark.track < length tracks
  pub counters : x.counters ≡ (way.mark.g, way.mark.r)
  pub marked : IsMarked task x.state (states_before paths way.back) way.mark (track_at tracks way.mark.track)

-- the lists that an expansion makes longer
pub record Lists : Type 0 where
  pub nodes : List Node
  pub ways : List Way
  pub tracks : List (List ℕ)

abbrev pub lists_of : Explored → Lists
lists_of e = record { nodes = e.nodes.items; ways = e.ways.items; tracks = e.tracks.items }

pub record AreReached (task : PlanningTask) (paths : List Path) (lists : Lists) : Type 0 where
  pub path_each : length paths ≡ length lists.nodes
  pub way_each : length lists.ways ≡ length lists.nodes
  pub each : (k : ℕ) → k < length lists.nodes →
      IsReached task paths lists.tracks k (node_at lists.nodes k).generated (way_at lists.ways k)

-- ---- children
abbrev pub bare : Child → Successor
bare c = record { act = c.act; state = c.state }

abbrev pub child_pair : Child → ℕ × ℕ
child_pair c = (c.g, c.r)

abbrev pub numbered : ℕ → Child → Generated
numbered number c = record { number = number; counters = (c.g, c.r); state = c.state }

-- the children with the next numbers
abbrev pub all_numbered : ℕ → List Child → List Generated
all_numbered n [] = []
all_numbered n (c ∷ cs) = numbered n c ∷ all_numbered (n + 1) cs

-- evaluated children are the successors of their node; those that are no repeats, with the next numbers, are the nodes
-- that an expansion generates, and their pairs are those that it adds
pub record ChildrenAreNumbered : Type 0 where
  pub successors : (task : PlanningTask) (state : List Bool) (mark : Mark) (track : List ℕ) →
      map bare (children_of task state mark track) ≡ successors_of task.acts state
  pub fresh : (seen : List (List Bool)) (children : List Child) →
      unseen (λ x. x.state) seen (map bare children) ≡ map bare (unseen (λ c. c.state) seen children)
  pub numbered : (task : PlanningTask) (states : List (List Bool)) (track : List ℕ) (n : ℕ) (children : List Child) →
      All (IsEvaluated task states track) children → all_numbered n children ≡ fresh_of (path_counters task) states n (map bare children)
  pub pairs : (nodes : List Generated) (n : ℕ) (children : List Child) →
      fold with_pair (pairs_in nodes) (map child_pair children) ≡ pairs_in (nodes ++ all_numbered n children)

abbrev pub next_node : Settings → List Node → Child → Node
next_node settings nodes c = node_of settings (generated_in nodes) (numbered (length nodes) c)

-- the number of a child's track: a new one, or its parent's
abbrev pub track_number : ℕ → ℕ → Option (List ℕ) → ℕ
track_number tracks track None = track
track_number tracks track (Some fresh) = tracks

abbrev pub way_of : ℕ → ℕ → ℕ → Child → Way
way_of tracks parent track c = record {
  back = Some (record { parent = parent; act = c.act });
  mark = mark_of c (track_number tracks track c.fresh);
}

-- the lists with one more child
abbrev pub with_child : Settings → ℕ → ℕ → Lists → Child → Lists
with_child settings parent track lists c = record {
  nodes = lists.nodes ++ next_node settings lists.nodes c ∷ [];
  ways = lists.ways ++ way_of (length lists.tracks) parent track c ∷ [];
  tracks = lists.tracks ++ option_to_list c.fresh;
}

abbrev pub with_children : Settings → ℕ → ℕ → Lists → List Child → Lists
with_children settings parent track lists children = fold (with_child settings parent track) lists children

-- the lists in which the node at a place waits no longer
abbrev pub without_waiting : ℕ → Lists → Lists
without_waiting place lists = record lists { nodes = slice_set lists.nodes place (record (node_at lists.nodes place) { waits = false }) }

-- the lists after an expansion of the node at a place
abbrev pub expanded_at : Settings → ℕ → Lists → List Child → Lists
expanded_at settings place lists children = with_children settings place (way_at lists.ways place).mark.track (without_waiting place lists) children

-- the children of the node at a place
abbrev pub brood_at : PlanningTask → Lists → ℕ → List Child
brood_at task lists place = children_of task (node_at lists.nodes place).generated.state (way_at lists.ways place).mark
    (track_at lists.tracks (way_at lists.ways place).mark.track)

-- ---- events
-- the action that led to a node; none led to the root
abbrev pub act_of : Option Link → ℕ
act_of None = 0
act_of (Some link) = link.act

-- what is told of a node that was reached so
abbrev pub born_by : Node → Way → Born
born_by node way = born_of (record { act = act_of way.back; state = node.generated.state }) node

abbrev pub borns_by : List Node → List Way → List Born
borns_by [] ways = []
borns_by (node ∷ nodes) [] = []
borns_by (node ∷ nodes) (way ∷ ways) = born_by node way ∷ borns_by nodes ways

-- the event of the node at a place, whose children are the nodes from `first` on
abbrev pub event_at : Lists → ℕ → ℕ → ℕ → Event
event_at lists place repeats first =
    event_of (node_at lists.nodes place) repeats (borns_by (drop first lists.nodes) (drop first lists.ways))

-- ---- moments
abbrev pub moment_of : Explored → List Path → List Event → Moment
moment_of e paths events = record { nodes = e.nodes.items; paths = paths; events = events }

-- the search stands for the moment
pub record StandsFor (task : PlanningTask) (e : Explored) (m : Moment) : Type 0 where
  pub nodes : e.nodes.items ≡ m.nodes
  pub reached : AreReached task m.paths (lists_of e)
  pub pairs : e.pairs.items ≡ pairs_in (generated_in m.nodes)
  pub expanded : e.expanded ≡ length m.events
  pub repeats : e.repeats ≡ repeats_in m.events

-- the node of the number is in the lists
pub record IsTakenAt (task : PlanningTask) (e : Explored) (m : Moment) (node : Node) (number : ℕ) : Type 0 where
  pub stands : StandsFor task e m
  pub within : number < length e.nodes.items
  pub node_is : node_at e.nodes.items number ≡ node

-- its children that are no repeats, how many are, and the pairs of all nodes with them
pub record IsEvaluatedAt (task : PlanningTask) (e : Explored) (m : Moment) (node : Node) (number : ℕ) (x : Expansion) : Type 0 where
  pub taken : IsTakenAt task e m node number
  pub fresh : x.fresh.items ≡ unseen (λ c. c.state) (states_kept e.nodes.items) (brood_at task (lists_of e) number)
  pub repeats : x.repeats ≡ length (brood_at task (lists_of e) number) - length x.fresh.items
  pub pairs : x.pairs.items ≡ fold with_pair e.pairs.items (map child_pair x.fresh.items)
  pub evaluated : All (IsEvaluated task (path_at m.paths number).states (track_at e.tracks.items (way_at e.ways.items number).mark.track)) x.fresh.items

-- the actions are those of the path to the place
abbrev pub AreActsTo : Explored → ℕ → List ℕ → Type 0
AreActsTo e place acts = (task : PlanningTask) (paths : List Path) →
    AreReached task paths (lists_of e) → acts ≡ (path_at paths place).acts
