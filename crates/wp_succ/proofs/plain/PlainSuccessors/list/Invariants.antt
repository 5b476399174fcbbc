use Rattle.std.proofs.Common.{◌≡◌}
use Rattle.std.specs.List.{filter, range_with_len}
use Rattle.wp_task.specs.Task.{act_at, applies}
use Rattle.wp_succ.proofs.plain.PlainSuccessors.list.Given as goal

abbrev pub invariant-loop-a : goal.invariant-loop-a
invariant-loop-a l = l.found.items ≡ filter (λ a. applies (act_at l.task.acts a) l.s) (range_with_len 0 l.a)
