use Rattle.std.proofs.Common.{◌≡◌, ◌+◌, not, length}
use Rattle.std.specs.List.{count_by}
use Rattle.wp_relax.proofs.Looking.{IsLooked}
use Rattle.wp_relax.proofs.wanted.want_all.Given as goal

abbrev pub invariant-loop-p : goal.invariant-loop-p
invariant-loop-p l = record {
  looked : IsLooked l.task.acts l.task.goals l.s l.supporters l.wanted.items l.todo.items;
  size : length l.wanted.items ≡ length l.fn.wanted.items;
}

abbrev pub decreases-loop-p : goal.decreases-loop-p
decreases-loop-p l = length l.todo.items + count_by not l.wanted.items
