use Rattle.std.proofs.Common.{◌≡◌, ◌++◌, ℕ}
use Rattle.std.specs.List.{flat_map, range_with_len}
use Rattle.wp_task.specs.Task.{act_at}
use Rattle.wp_report.specs.Tasks.{act_line}
use Rattle.wp_report.proofs.tasks.put_acts.Given as goal

abbrev pub invariant-loop-a : goal.invariant-loop-a
invariant-loop-a l =
    l.out.items ≡ l.fn.out.items ++ flat_map (λ (a : ℕ). act_line l.names a (act_at l.task.acts a)) (range_with_len 0 l.a)
