-- The evaluated successors of a node, from what the node keeps of its path: its mark and its track.
use Rattle.std.specs.Prelude.{◌≡◌, ◌&&◌, ◌||◌, ℕ, nat_lt, Bool, true, false, List, length, map, replicate, Some, None, if◌then◌else◌}
use Rattle.std.specs.List.{range_with_len}
use Rattle.wp_task.specs.declared.track.Mark.{Mark}
use Rattle.wp_task.specs.Set.{has, lists, atoms_in}
use Rattle.wp_task.specs.Task.{PlanningTask, act_at, applicable_in, goal_counter, result_of}
use Rattle.wp_relax.specs.RelaxedPlan.{relaxed_atoms_of}
use Rattle.wp_count.specs.declared.brood.Child.{Child}

-- a node's number, and its children in the order of their actions
pub record EvaluatedNode : Type 0 where
  pub number : ℕ
  pub children : List Child

-- a mark can stand for a state on a track: its #g is that of the state, and its #r counts atoms of the track
pub record IsMarkOf (task : PlanningTask) (state : List Bool) (mark : Mark) (track : List ℕ) : Type 0 where
  pub unmet : mark.g ≡ goal_counter task.goals state
  pub size : length mark.got ≡ task.atoms
  pub tracked : (p : ℕ) → has mark.got p ≡ true → lists track p ≡ true
  pub count : mark.r ≡ length (atoms_in mark.got)

-- what a child's counters need of its parent's mark: its `got` has the task's size and atoms of the track alone, and its
-- #r counts them
pub record IsCountOn (task : PlanningTask) (mark : Mark) (track : List ℕ) : Type 0 where
  pub size : length mark.got ≡ task.atoms
  pub tracked : (p : ℕ) → has mark.got p ≡ true → lists track p ≡ true
  pub count : mark.r ≡ length (atoms_in mark.got)

-- the atoms that were achieved, with those of the track that are in the state
abbrev pub with_achieved : List Bool → List ℕ → List Bool → List Bool
with_achieved got track state = map (λ p. has got p || (lists track p && has state p)) (range_with_len 0 (length got))

-- a child that is a base: nothing is achieved, and its own relaxed plan counts from now on
abbrev pub base_child : PlanningTask → ℕ → List Bool → Child
base_child task a state = record {
  act = a;
  state = state;
  g = goal_counter task.goals state;
  r = 0;
  got = replicate task.atoms false;
  fresh = Some (relaxed_atoms_of task.acts task.goals state);
}

-- a child that goes on with the atoms achieved so far
abbrev pub later_child : PlanningTask → ℕ → List Bool → List Bool → Child
later_child task a state got = record {
  act = a;
  state = state;
  g = goal_counter task.goals state;
  r = length (atoms_in got);
  got = got;
  fresh = None;
}

-- the child that an action leads to
abbrev pub child_of : PlanningTask → Mark → List ℕ → ℕ → List Bool → Child
child_of task mark track a state =
    if nat_lt (goal_counter task.goals state) mark.g
    then base_child task a state
    else later_child task a state (with_achieved mark.got track state)

-- the children of a node, one for each action that applies in its state
abbrev pub children_of : PlanningTask → List Bool → Mark → List ℕ → List Child
children_of task state mark track =
    map (λ a. child_of task mark track a (result_of (act_at task.acts a) state)) (applicable_in task.acts state)

-- the brood of a node of this number, which has the state, the mark and the track
abbrev pub brood_of : PlanningTask → ℕ → List Bool → Mark → List ℕ → EvaluatedNode
brood_of task number state mark track = record { number = number; children = children_of task state mark track }

-- the mark of the root: nothing is achieved on track 0
abbrev pub root_mark : PlanningTask → Mark
root_mark task = record {
  g = goal_counter task.goals task.init;
  r = 0;
  track = 0;
  got = replicate task.atoms false;
}
