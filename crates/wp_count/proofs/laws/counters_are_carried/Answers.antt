use Rattle.std.proofs.Common.{◌∷◌, [], ℕ, Bool, List, get_or, ◌∙◌, refl}
use Rattle.std.proofs.lemmas.List.Elements.{All-map}
use Rattle.wp_task.specs.Task.{PlanningTask, act_at, result_of, applicable_in}
use Rattle.wp_task.proofs.PlanLemmas.{length-result_of}
use Rattle.wp_count.specs.Broods.{child_of}
use Rattle.wp_count.specs.Laws.{IsEvaluated}
use Rattle.wp_count.proofs.MarkLemmas.{mark_counts, base_marked, child_evaluated}
use Rattle.wp_count.proofs.laws.counters_are_carried.Goals as goal

pub returns-clause-counters : goal.returns-clause-counters
returns-clause-counters c = mark_counts

pub returns-clause-root : goal.returns-clause-root
returns-clause-root c = λ (task : PlanningTask) fits. base_marked task task.init [] 0 refl fits.init_size

pub returns-clause-children : goal.returns-clause-children
returns-clause-children c = λ (task : PlanningTask) (state : List Bool) (before : List (List Bool)) mark track m.
    let next = λ (a : ℕ). result_of (act_at task.acts a) state in
    All-map (IsEvaluated task (state ∷ before) track) (λ a. child_of task mark track a (next a)) (applicable_in task.acts state)
    (λ k d within. let a = get_or (applicable_in task.acts state) k d in
    child_evaluated task state before mark track m a (next a) (length-result_of (act_at task.acts a) state ∙ m.size))
