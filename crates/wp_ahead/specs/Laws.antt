-- Broods and jobs as the search goes on.
use Rattle.std.specs.Prelude.{◌≡◌, ℕ, List, ◌++◌, length, All, Contains}
use Rattle.wp_task.specs.Task.{PlanningTask}
use Rattle.wp_count.specs.Broods.{IsMarkOf}
use Rattle.wp_nodes.specs.declared.kept.Kept.{Kept}
use Rattle.wp_nodes.specs.KeptNodes.{Keeping, AreLinked}
use Rattle.wp_ahead.specs.Jobs.{Job, track_of, HasPartsOf, IsJobOf, CanWork, IsJobFor, IsWorked}
use Rattle.wp_ahead.specs.KeptBroods.{KeptBroods, Fit}

-- the same nodes and tracks, and perhaps more after them
pub record GoesOn (nodes later : Keeping) : Type 0 where
  pub more : List Kept
  pub kept : later.kept ≡ nodes.kept ++ more
  pub more_tracks : List (List ℕ)
  pub tracks : later.tracks ≡ nodes.tracks ++ more_tracks

-- broods that fit nodes fit them where nodes and tracks are added
abbrev pub FitOn : Type 0
FitOn = (task : PlanningTask) (nodes later : Keeping) (broods : KeptBroods) →
    AreLinked nodes → GoesOn nodes later → Fit task nodes broods → Fit task later broods

-- what is kept of each node can stand for its state on its track
abbrev pub AreMarked : PlanningTask → Keeping → Type 0
AreMarked task nodes = (k : Kept) → Contains nodes.kept k →
    (length k.state ≡ task.atoms) × IsMarkOf task k.state k.mark (track_of nodes k)

-- then jobs for kept nodes can be worked
abbrev pub JobsCanBeWorked : Type 0
JobsCanBeWorked = (task : PlanningTask) (nodes : Keeping) (jobs : List Job) →
    AreMarked task nodes → All (IsJobOf nodes) jobs → All (CanWork task) jobs

-- a job with the parts of a kept node is a job for it once it was worked
abbrev pub WorkFits : Type 0
WorkFits = (task : PlanningTask) (nodes : Keeping) (job worked : Job) →
    HasPartsOf nodes job → IsWorked task job worked → IsJobFor task nodes worked
