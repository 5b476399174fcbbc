-- Jobs that make broods ahead. Each owns a copy of what its node keeps, so it needs nothing of the search.
use Rattle.std.specs.Prelude.{◌≡◌, ◌⊎◌, ℕ, Bool, List, [], length, Contains, slice_index_or, Some}
use Rattle.wp_task.specs.declared.track.Mark.{Mark}
use Rattle.wp_task.specs.Task.{PlanningTask}
use Rattle.wp_count.specs.Broods.{EvaluatedNode, IsMarkOf, brood_of}
use Rattle.wp_nodes.specs.declared.kept.Kept.{Kept}
use Rattle.wp_nodes.specs.KeptNodes.{Keeping, node_of}
use Rattle.wp_ahead.specs.declared.job.Outcome.{Outcome}
use Rattle.wp_ahead.specs.declared.job.Outcome.TheVariants.{NotWorked, Made, Refused}

-- a node's number, its parts, and what became of the job
pub record Job : Type 0 where
  pub number : ℕ
  pub state : List Bool
  pub mark : Mark
  pub track : List ℕ
  pub outcome : Outcome

-- the track that a kept node's counters count on
abbrev pub track_of : Keeping → Kept → List ℕ
track_of nodes k = slice_index_or nodes.tracks k.mark.track []

-- the brood of a kept node, and that of a job's parts
abbrev pub node_brood : PlanningTask → Keeping → Kept → EvaluatedNode
node_brood task nodes k = brood_of task k.number k.state k.mark (track_of nodes k)

abbrev pub job_brood : PlanningTask → Job → EvaluatedNode
job_brood task job = brood_of task job.number job.state job.mark job.track

-- the job has the parts of the kept node of its number
pub record HasPartsOf (nodes : Keeping) (job : Job) : Type 0 where
  pub node : Kept
  pub found : node_of nodes.kept job.number ≡ Some node
  pub there : Contains nodes.kept node
  pub named : node.number ≡ job.number
  pub state : job.state ≡ node.state
  pub mark : job.mark ≡ node.mark
  pub track : job.track ≡ track_of nodes node

-- a job for a kept node, which is not worked yet
pub record IsJobOf (nodes : Keeping) (job : Job) : Type 0 where
  pub parts : HasPartsOf nodes job
  pub unworked : job.outcome ≡ NotWorked

-- the job can be worked: it was not worked yet, and its mark can stand for its state on its track
pub record CanWork (task : PlanningTask) (job : Job) : Type 0 where
  pub unworked : job.outcome ≡ NotWorked
  pub size : length job.state ≡ task.atoms
  pub marked : IsMarkOf task job.state job.mark job.track

-- where the job has a brood, it is that of its parts
abbrev pub MadeOfParts : PlanningTask → Job → Outcome → Type 0
MadeOfParts task job NotWorked = Unit {0}
MadeOfParts task job (Made brood) = brood ≡ job_brood task job
MadeOfParts task job Refused = Unit {0}

-- the job has the parts of a kept node, and the brood of these where it has one
pub record IsJobFor (task : PlanningTask) (nodes : Keeping) (job : Job) : Type 0 where
  pub parts : HasPartsOf nodes job
  pub made : MadeOfParts task job job.outcome

-- the job was worked: it kept its number and its parts, and made the brood of them or was refused
abbrev pub IsWorked : PlanningTask → Job → Job → Type 0
IsWorked task old new = (new ≡ record old { outcome = Made (job_brood task old) }) ⊎ (new ≡ record old { outcome = Refused })
