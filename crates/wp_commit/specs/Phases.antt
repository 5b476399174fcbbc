-- A phase of jobs: the births of an expansion are dealt to jobs that mark them, and beside these other jobs make broods ahead. All of them
-- are worked before anything is collected.
use Rattle.std.specs.Prelude.{◌≡◌, ◌≢◌, ◌<◌, ℕ, List, length, All, get_or}
use Rattle.wp_task.specs.Task.{PlanningTask}
use Rattle.wp_nodes.specs.KeptNodes.{Keeping}
use Rattle.wp_ahead.specs.declared.job.Outcome.TheVariants.{NotWorked}
use Rattle.wp_ahead.specs.Jobs.{Job, IsWorked, IsJobFor}

-- each of the jobs that make broods was worked
pub record AreWorked (task : PlanningTask) (old new : List Job) : Type 0 where
  pub count : length new ≡ length old
  pub each : (i : ℕ) (d : Job) → i < length old → IsWorked task (get_or old i d) (get_or new i d)

-- jobs that were worked, each for a kept node: it has the brood of that node, or none
pub record AreMade (task : PlanningTask) (nodes : Keeping) (jobs : List Job) : Type 0 where
  pub worked : All (λ j. j.outcome ≢ NotWorked) jobs
  pub fit : All (IsJobFor task nodes) jobs
