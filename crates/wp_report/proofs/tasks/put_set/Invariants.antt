use Rattle.std.proofs.Common.{◌≡◌, ◌++◌}
use Rattle.std.specs.List.{filter, range_with_len}
use Rattle.wp_task.specs.Set.{has}
use Rattle.wp_report.specs.Tasks.{numbers_text}
use Rattle.wp_report.proofs.tasks.put_set.Given as goal

abbrev pub invariant-loop-p : goal.invariant-loop-p
invariant-loop-p l = l.out.items ≡ l.fn.out.items ++ numbers_text (filter (has l.set) (range_with_len 0 l.p))
