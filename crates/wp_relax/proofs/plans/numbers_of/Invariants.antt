use Rattle.std.proofs.Common.{◌≡◌}
use Rattle.std.specs.List.{filter, range_with_len}
use Rattle.wp_task.specs.Set.{has}
use Rattle.wp_relax.proofs.plans.numbers_of.Given as goal

abbrev pub invariant-loop-p : goal.invariant-loop-p
invariant-loop-p l = l.numbers.items ≡ filter (has l.flags) (range_with_len 0 l.p)
