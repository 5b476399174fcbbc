-- Worked rows of broods made ahead, each computed.
use Rattle.std.specs.Prelude.{◌≡◌, ℕ, List, [], ◌∷◌, fold, None, Some, refl}
use Rattle.wp_task.specs.Set.{set_of}
use Rattle.wp_task.specs.Task.{PlanningTask}
use Rattle.wp_count.specs.Broods.{EvaluatedNode, root_mark}
use Rattle.wp_queue.specs.declared.queue.Waiting.{Waiting}
use Rattle.wp_queue.specs.OpenList.{waiting}
use Rattle.wp_nodes.specs.declared.kept.Kept.{Kept}
use Rattle.wp_nodes.specs.KeptNodes.{Keeping}
use Rattle.wp_ahead.specs.declared.job.Outcome.{Outcome}
use Rattle.wp_ahead.specs.declared.job.Outcome.TheVariants.{Made, Refused}
use Rattle.wp_ahead.specs.Jobs.{Job, node_brood}
use Rattle.wp_ahead.specs.KeptBroods.{KeptBroods, brood_under, front, without_brood, after_job}

-- three nodes wait: 7 of novelty 1, then 2 and 5 of novelty 2
abbrev queue : List Waiting
queue = waiting 1 3 7 ∷ waiting 2 2 2 ∷ waiting 2 2 5 ∷ []

first_two : front queue 2 ≡ 7 ∷ 2 ∷ []
first_two = refl

first_none : front queue 0 ≡ []
first_none = refl

first_all : front queue 16 ≡ 7 ∷ 2 ∷ 5 ∷ []
first_all = refl

-- a brood is kept of 2 and of 4
abbrev bare : ℕ → EvaluatedNode
bare number = record { number = number; children = [] }

abbrev broods : KeptBroods
broods = (2, bare 2) ∷ (4, bare 4) ∷ []

under_own_number : brood_under broods 4 ≡ Some (bare 4)
under_own_number = refl

under_other_number : brood_under broods 7 ≡ None
under_other_number = refl

jobs_wanted : without_brood broods (front queue 16) ≡ 7 ∷ 5 ∷ []
jobs_wanted = refl

-- ---- what jobs made
abbrev job : ℕ → Outcome → Job
job number outcome = record { number = number; state = []; mark = record { g = 0; r = 0; track = 0; got = [] }; track = []; outcome = outcome }

job_made : fold (after_job 7) None (job 5 (Made (bare 5)) ∷ job 7 (Made (bare 7)) ∷ []) ≡ Some (bare 7)
job_made = refl

-- a job that was refused leaves no brood, and takes none away
job_refused : fold (after_job 7) None (job 7 Refused ∷ []) ≡ None
job_refused = refl

job_refused_after : fold (after_job 2) (brood_under broods 2) (job 2 Refused ∷ []) ≡ Some (bare 2)
job_refused_after = refl

-- ---- the brood of a kept node
-- a chain: a gives b, b gives c and takes a away
abbrev chain : PlanningTask
chain = record {
  atoms = 3;
  init = set_of (0 ∷ []) 3;
  goals = 2 ∷ [];
  acts = record { pre = 0 ∷ []; add = 1 ∷ []; del = [] } ∷ record { pre = 1 ∷ []; add = 2 ∷ []; del = 0 ∷ [] } ∷ [];
}

abbrev root : Kept
root = record { number = 0; w = 1; back = None; state = chain.init; mark = root_mark chain }

abbrev nodes : Keeping
nodes = record { kept = root ∷ []; tracks = (1 ∷ 2 ∷ []) ∷ [] }

root_brood : node_brood chain nodes root ≡ record {
  number = 0;
  children = record {
    act = 0;
    state = set_of (0 ∷ 1 ∷ []) 3;
    g = 1;
    r = 1;
    got = set_of (1 ∷ []) 3;
    fresh = None;
  } ∷ [];
}
root_brood = refl
