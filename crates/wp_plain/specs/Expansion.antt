-- What an expansion generates. A child is a repeat where its state is that of a kept node or of an earlier child of the
-- same expansion; the others get the next numbers, their counters over the whole path, and their novelty among all
-- nodes of smaller numbers, the pruned ones and the new ones among them.
-- Ours: repeats get no number; k-BFWS prunes a novelty above its width k, and the root is always kept.
use Rattle.std.specs.Prelude.{◌≡◌, ◌≢◌, ◌+◌, Contains, not, nat_lt, ℕ, Bool, true, false, List, [], ◌∷◌, ◌++◌, map}
use Rattle.std.specs.List.{list_any, AllPairs}
use Rattle.std.specs.Bool.{beq}
use Rattle.std.specs.Cmp.Lexicographic.{pointwise}
use Rattle.wp_task.specs.declared.acts.Act.{Act}
use Rattle.wp_task.specs.Task.{PlanningTask, act_at, applicable_in, goal_counter, result_of}
use Rattle.wp_task.specs.Novelty.{Generated, novelty_of}
use Rattle.wp_count.specs.Counters.{relaxed_counter}
use Rattle.wp_count.specs.declared.brood.Child.{Child}
use Rattle.wp_watch.specs.declared.event.Born.{Born}
use Rattle.wp_watch.specs.declared.event.Event.{Event}
use Rattle.wp_plain.specs.declared.settings.Search.{Search}
use Rattle.wp_plain.specs.declared.settings.Search.TheVariants.{KBfws, F5}
use Rattle.wp_plain.specs.declared.settings.Settings.{Settings}
use Rattle.wp_plain.specs.Nodes.{Node, Successor}

-- the applicable actions in number order, each with the state that it leads to
abbrev pub successors_of : List Act → List Bool → List Successor
successors_of acts state = map (λ a. record { act = a; state = result_of (act_at acts a) state }) (applicable_in acts state)

-- an item is a repeat: its state is a seen one, or that of an earlier item
abbrev pub IsRepeat : {X : Type 0} → (X → List Bool) → List (List Bool) → List X → X → Type 0
IsRepeat state_of seen earlier x = Contains (seen ++ map state_of earlier) (state_of x)

-- the items that are no repeats, computed
abbrev pub unseen : {X : Type 0} → (X → List Bool) → List (List Bool) → List X → List X
unseen state_of seen [] = []
unseen state_of seen (x ∷ xs) = elim (list_any (pointwise beq (state_of x)) seen) [
  | true ↦ unseen state_of seen xs
  | false ↦ x ∷ unseen state_of (seen ++ state_of x ∷ []) xs
]

-- an item that is a repeat is left out, and another one is not; so the states of what is left differ, and are not seen ones
pub record LeavesOutRepeats {X : Type 0} (state_of : X → List Bool) (seen : List (List Bool)) : Type 0 where
  pub repeat : (earlier : List X) (x : X) → IsRepeat state_of seen earlier x →
      unseen state_of seen (earlier ++ x ∷ []) ≡ unseen state_of seen earlier
  pub other : (earlier : List X) (x : X) → ¬ (IsRepeat state_of seen earlier x) →
      unseen state_of seen (earlier ++ x ∷ []) ≡ unseen state_of seen earlier ++ x ∷ []
  pub new : (xs : List X) (x : X) → Contains (unseen state_of seen xs) x → ¬ (Contains seen (state_of x))
  pub apart : (xs : List X) → AllPairs (λ s t. s ≢ t) (map state_of (unseen state_of seen xs))

-- so it is with successors, and with evaluated children
abbrev pub RepeatsAreLeftOut : Type 0
RepeatsAreLeftOut = (seen : List (List Bool)) →
    LeavesOutRepeats {X = Successor} (λ x. x.state) seen × LeavesOutRepeats {X = Child} (λ c. c.state) seen

-- the counters (#g, #r) of a path, by its states from the last one back to the root
abbrev pub path_counters : PlanningTask → List (List Bool) → ℕ × ℕ
path_counters task [] = (0, 0)
path_counters task (state ∷ states) = (goal_counter task.goals state, relaxed_counter task (state ∷ states))

-- the node of a state after a path: its number, and its counters, which are a function of the whole path; the search has
-- `path_counters`, and one that counts nothing has the same for each path
abbrev pub generated_at : (List (List Bool) → ℕ × ℕ) → List (List Bool) → ℕ → List Bool → Generated
generated_at counters states number state = record { number = number; counters = counters (state ∷ states); state = state }

-- the children with the next numbers
abbrev pub fresh_of : (List (List Bool) → ℕ × ℕ) → List (List Bool) → ℕ → List Successor → List Generated
fresh_of counters states number [] = []
fresh_of counters states number (x ∷ children) = generated_at counters states number x.state ∷ fresh_of counters states (number + 1) children

-- whether a child of this novelty is kept
abbrev pub keeps : Search → ℕ → ℕ → Bool
keeps F5 width w = true
keeps KBfws width w = not (nat_lt width w)

abbrev pub with_novelty : Settings → Generated → ℕ → Node
with_novelty settings x w = record {
  generated = x;
  w = w;
  kept = keeps settings.search settings.width w;
  waits = keeps settings.search settings.width w;
}

-- a child as a node, by its novelty among all nodes
abbrev pub node_of : Settings → List Generated → Generated → Node
node_of settings nodes x = with_novelty settings x (novelty_of settings.width nodes x)

-- the root, which has no parent
abbrev pub root_node : PlanningTask → Settings → Node
root_node task settings = record {
  generated = generated_at (path_counters task) [] 0 task.init;
  w = novelty_of settings.width (generated_at (path_counters task) [] 0 task.init ∷ []) (generated_at (path_counters task) [] 0 task.init);
  kept = true;
  waits = true;
}

-- what is told of the children and of the expansion
abbrev pub born_of : Successor → Node → Born
born_of x node = record {
  number = node.generated.number;
  act = x.act;
  w = node.w;
  g = node.generated.counters.0;
  r = node.generated.counters.1;
  kept = node.kept;
}

abbrev pub borns_of : List Successor → List Node → List Born
borns_of [] nodes = []
borns_of (x ∷ children) [] = []
borns_of (x ∷ children) (node ∷ nodes) = born_of x node ∷ borns_of children nodes

abbrev pub event_of : Node → ℕ → List Born → Event
event_of node repeats born = record {
  number = node.generated.number;
  w = node.w;
  g = node.generated.counters.0;
  r = node.generated.counters.1;
  repeats = repeats;
  born = born;
}
