-- What a node keeps of its path gives the counters of the whole path, and goes on to each child.
use Rattle.std.specs.Prelude.{◌≡◌, ◌&&◌, ℕ, Bool, List, [], ◌∷◌, All, length, Option, Some, None}
use Rattle.wp_task.specs.declared.track.Mark.{Mark}
use Rattle.wp_task.specs.Set.{has, lists}
use Rattle.wp_task.specs.Task.{PlanningTask, IsTask, goal_counter}
use Rattle.wp_relax.specs.RelaxedPlan.{relaxed_atoms_of}
use Rattle.wp_count.specs.declared.brood.Child.{Child}
use Rattle.wp_count.specs.Counters.{after_base, in_some, base_atoms, relaxed_counter}
use Rattle.wp_count.specs.Broods.{IsMarkOf, children_of, root_mark}

-- the track is R of the base of a path, and the mark has exactly the atoms of it that were achieved after the base;
-- the path ends in the state, and before it come the states back to the root
pub record IsMarked (task : PlanningTask) (state : List Bool) (before : List (List Bool)) (mark : Mark) (track : List ℕ) : Type 0 where
  pub size : length state ≡ task.atoms
  pub fits : IsMarkOf task state mark track
  pub base : track ≡ base_atoms task (state ∷ before)
  pub achieved : (p : ℕ) → has mark.got p ≡ (lists track p && in_some (after_base task.goals (state ∷ before)) p)

-- the counters of a node, given as #g and #r, are those of its path
pub record HasCounters (task : PlanningTask) (state : List Bool) (before : List (List Bool)) (g r : ℕ) : Type 0 where
  pub unmet : g ≡ goal_counter task.goals state
  pub relaxed : r ≡ relaxed_counter task (state ∷ before)

-- the mark of a child, whatever number its track has
abbrev pub mark_of : Child → ℕ → Mark
mark_of child number = record { g = child.g; r = child.r; track = number; got = child.got }

-- the track of a child: its own where it has one, or its parent's
abbrev pub track_after : List ℕ → Option (List ℕ) → List ℕ
track_after track None = track
track_after track (Some fresh) = fresh

-- a child's counters are those of the path with it, and what it keeps is marked again
pub record IsEvaluated (task : PlanningTask) (path : List (List Bool)) (track : List ℕ) (child : Child) : Type 0 where
  pub counters : HasCounters task child.state path child.g child.r
  pub marked : (number : ℕ) → IsMarked task child.state path (mark_of child number) (track_after track child.fresh)

-- a mark has the counters of its path
abbrev pub MarksCount : Type 0
MarksCount = (task : PlanningTask) (state : List Bool) (before : List (List Bool)) (mark : Mark) (track : List ℕ) →
    IsMarked task state before mark track → HasCounters task state before mark.g mark.r

-- the root is marked by what it begins with
abbrev pub RootIsMarked : Type 0
RootIsMarked = (task : PlanningTask) → IsTask task →
    IsMarked task task.init [] (root_mark task) (relaxed_atoms_of task.acts task.goals task.init)

-- the children of a marked node have the counters of their paths, and are marked
abbrev pub ChildrenAreEvaluated : Type 0
ChildrenAreEvaluated = (task : PlanningTask) (state : List Bool) (before : List (List Bool)) (mark : Mark) (track : List ℕ) →
    IsMarked task state before mark track → All (IsEvaluated task (state ∷ before) track) (children_of task state mark track)
