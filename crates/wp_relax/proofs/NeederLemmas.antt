-- The lists of the actions that need an atom.
use Rattle.std.proofs.Common.{ℕ, List, length}
use Rattle.std.specs.List.{range_with_len}
use Rattle.std.specs.List.Sorted.{IsStrictlyIncreasing}
use Rattle.std.proofs.lemmas.List.Kept.{IsStrictlyIncreasing-filter}
use Rattle.wp_task.specs.declared.acts.Act.{Act}
use Rattle.wp_task.specs.Set.{lists}
use Rattle.wp_task.specs.Task.{act_at, needers_of}
use Rattle.wp_relax.proofs.PlanLemmas.{range_rises}

pub needers-rise : (acts : List Act) (p : ℕ) → IsStrictlyIncreasing (needers_of acts p)
needers-rise acts p = IsStrictlyIncreasing-filter (λ a. lists (act_at acts a).pre p) (range_with_len 0 (length acts)) (range_rises (length acts))
