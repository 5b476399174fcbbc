use Rattle.std.proofs.Common.{◌≡◌, ◌<◌, ◌+◌, ◌&&◌, ◌||◌, not, ℕ, length, take}
use Rattle.std.specs.List.{All, count_by}
use Rattle.wp_task.specs.Set.{has, lists}
use Rattle.wp_relax.proofs.wanted.want.Given as goal

abbrev pub invariant-loop-p : goal.invariant-loop-p
invariant-loop-p l = record {
  size : length l.wanted.items ≡ length l.fn.wanted.items;
  set : (q : ℕ) → has l.wanted.items q ≡ (has l.fn.wanted.items q || (lists (take l.p-index l.atoms) q && not (has l.s q)));
  todo : (q : ℕ) → lists l.todo.items q ≡ (lists l.fn.todo.items q || (has l.wanted.items q && not (has l.fn.wanted.items q)));
  below : All (λ p. p < length l.fn.wanted.items) l.todo.items;
  left : length l.todo.items + count_by not l.wanted.items ≡ length l.fn.todo.items + count_by not l.fn.wanted.items;
}
