-- The broods that were made ahead, as a finite map from the numbers of nodes.
use Rattle.std.specs.Prelude.{◌≡◌, ◌==◌, ℕ, List, ◌++◌, map, filter, fold, take, All, Option, Some, None, IfSome, is_none, if◌then◌else◌}
use Rattle.std.specs.Map.{lookup}
use Rattle.std.specs.BTreeMap.{is_at}
use Rattle.std.specs.Ordering.{nat_cmp}
use Rattle.wp_task.specs.Set.{lists}
use Rattle.wp_task.specs.Task.{PlanningTask}
use Rattle.wp_count.specs.Broods.{EvaluatedNode}
use Rattle.wp_queue.specs.declared.queue.Waiting.{Waiting}
use Rattle.wp_nodes.specs.declared.kept.Kept.{Kept}
use Rattle.wp_nodes.specs.KeptNodes.{Keeping, node_of}
use Rattle.wp_ahead.specs.declared.job.Outcome.{Outcome}
use Rattle.wp_ahead.specs.declared.job.Outcome.TheVariants.{NotWorked, Made, Refused}
use Rattle.wp_ahead.specs.Jobs.{Job, node_brood, IsJobOf}

abbrev pub KeptBroods : Type 0
KeptBroods = List (ℕ × EvaluatedNode)

-- the brood that is kept under a number
abbrev pub brood_under : KeptBroods → ℕ → Option EvaluatedNode
brood_under broods number = lookup (is_at (nat_cmp number)) broods

-- ---- the front of the open list
-- the numbers of the first nodes that wait
abbrev pub front : List Waiting → ℕ → List ℕ
front queue ahead = map (λ x. x.number) (take ahead queue)

-- what was kept under these numbers stays, and nothing else
abbrev pub KeepsOnly : List ℕ → KeptBroods → KeptBroods → Type 0
KeepsOnly numbers old new = (number : ℕ) →
    brood_under new number ≡ (if lists numbers number then brood_under old number else None)

-- the numbers under which no brood is kept
abbrev pub without_brood : KeptBroods → List ℕ → List ℕ
without_brood broods numbers = filter (λ n. is_none (brood_under broods n)) numbers

-- a job was added for each of the numbers under which no brood is kept
pub record AddsJobs (broods : KeptBroods) (nodes : Keeping) (numbers : List ℕ) (old new : List Job) : Type 0 where
  pub more : List Job
  pub is : new ≡ old ++ more
  pub numbers_are : map (λ j. j.number) more ≡ without_brood broods numbers
  pub jobs : All (IsJobOf nodes) more

-- each brood that is kept now was kept before
abbrev pub AreAmong : KeptBroods → KeptBroods → Type 0
AreAmong old new = (number : ℕ) → IfSome (brood_under new number) (λ brood. brood_under old number ≡ Some brood)

-- ---- what jobs made
-- what there is under a number after a job: its brood where it made one for that number, else what there was
abbrev pub made_or : Option EvaluatedNode → Outcome → Option EvaluatedNode
made_or before NotWorked = before
made_or before (Made brood) = Some brood
made_or before Refused = before

abbrev pub after_job : ℕ → Option EvaluatedNode → Job → Option EvaluatedNode
after_job number before job = if job.number == number then made_or before job.outcome else before

-- the broods of these jobs were added under their numbers, and nothing else
abbrev pub Adds : List Job → KeptBroods → KeptBroods → Type 0
Adds jobs old new = (number : ℕ) → brood_under new number ≡ fold (after_job number) (brood_under old number) jobs

-- the broods of some of the jobs were added, the first ones
abbrev pub AddsSome : List Job → KeptBroods → KeptBroods → Type 0
AddsSome jobs old new = (added : List Job) × (rest : List Job) × (jobs ≡ added ++ rest) × Adds added old new

-- ---- one brood taken
-- what was kept under the number is gone, and nothing else
abbrev pub IsWithout : ℕ → KeptBroods → KeptBroods → Type 0
IsWithout number old new = (other : ℕ) →
    brood_under new other ≡ (if number == other then None else brood_under old other)

-- ---- broods that fit
-- the number is kept in the nodes, and the brood is that of its node
pub record IsBroodAt (task : PlanningTask) (nodes : Keeping) (number : ℕ) (brood : EvaluatedNode) : Type 0 where
  pub node : Kept
  pub found : node_of nodes.kept number ≡ Some node
  pub is : brood ≡ node_brood task nodes node

abbrev pub Fit : PlanningTask → Keeping → KeptBroods → Type 0
Fit task nodes broods = (number : ℕ) → IfSome (brood_under broods number) (IsBroodAt task nodes number)
