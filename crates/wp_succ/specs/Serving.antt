-- Which task a generator that keeps preconditions serves.
use Rattle.std.specs.Prelude.{ℕ, nat_eq, Bool, List, map}
use Rattle.std.specs.Cmp.Lexicographic.{pointwise}
use Rattle.wp_task.specs.Task.{PlanningTask}

-- whether the preconditions, by action, are those of the task
abbrev pub are_preconditions_of : List (List ℕ) → PlanningTask → Bool
are_preconditions_of needs task = pointwise (pointwise nat_eq) needs (map (λ act. act.pre) task.acts)
