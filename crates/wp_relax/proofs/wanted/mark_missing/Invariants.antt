use Rattle.std.proofs.Common.{◌≡◌, ◌&&◌, ◌||◌, not, ℕ, length, take}
use Rattle.wp_task.specs.Set.{has, lists}
use Rattle.wp_relax.proofs.wanted.mark_missing.Given as goal

abbrev pub invariant-loop-p : goal.invariant-loop-p
invariant-loop-p l = record {
  size : length l.flags.items ≡ length l.fn.flags.items;
  set : (q : ℕ) → has l.flags.items q ≡ (has l.fn.flags.items q || (lists (take l.p-index l.atoms) q && not (has l.s q)));
}
