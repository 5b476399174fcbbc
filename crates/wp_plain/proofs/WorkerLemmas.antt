-- The run does not depend on workers.
use Rattle.std.proofs.Common.{◌≡◌, ℕ, zero, suc, ◌+◌, true, false, refl, ap}
use Rattle.wp_task.specs.Task.{PlanningTask}
use Rattle.wp_plain.specs.declared.settings.Settings.{Settings}
use Rattle.wp_plain.specs.declared.ending.How.{How}
use Rattle.wp_plain.specs.declared.ending.How.TheVariants.{Words}
use Rattle.wp_plain.specs.Pairs.{exceeds}
use Rattle.wp_plain.specs.Run.{Moment, Outcome, opening, run_from, step, WorkersPlayNoPart}
use Rattle.wp_plain.specs.Run.Outcome.{Goes, Ends}

module _ (task : PlanningTask) (settings : Settings) (tuples workers ahead : ℕ) where
  abbrev other : Settings
  other = record settings { workers = workers; ahead = ahead }

  run_from-other : (steps : ℕ) (m : Moment) → run_from task other tuples steps m ≡ run_from task settings tuples steps m
  run_from-other zero m = refl
  run_from-other (suc steps) m = by (step task settings tuples m) (run_from-other steps) where
    by : (o : Outcome) → ((next : Moment) → run_from task other tuples steps next ≡ run_from task settings tuples steps next) →
        elim o as (λ _. How × Moment) [ Goes next ↦ run_from task other tuples steps next | Ends how ↦ (how, m) ]
        ≡ elim o as (λ _. How × Moment) [ Goes next ↦ run_from task settings tuples steps next | Ends how ↦ (how, m) ]
    by (Goes next) rest = rest next
    by (Ends how) rest = refl

pub workers_play_no_part : WorkersPlayNoPart
workers_play_no_part task settings tuples workers ahead =
    ap (λ end. elim (exceeds settings.words 1 tuples) as (λ _. How × Moment) [
      | true ↦ (Words 1, opening task settings)
      | false ↦ end
    ]) (run_from-other task settings tuples workers ahead (settings.budget + 1) (opening task settings))
