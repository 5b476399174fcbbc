use Rattle.std.proofs.Common.{◌≡◌, ◌&&◌, not, ℕ, None, length, get_or}
use Rattle.std.specs.List.{list_any, range_with_len}
use Rattle.wp_task.specs.Set.{has}
use Rattle.wp_relax.specs.RelaxedPlan.{adds}
use Rattle.wp_relax.proofs.wanted.add_all.Given as goal

abbrev pub invariant-loop-p : goal.invariant-loop-p
invariant-loop-p l = record {
  size : length l.added.items ≡ length l.fn.added.items;
  set : (q : ℕ) → has l.added.items q
      ≡ (list_any (λ p. has l.wanted p && adds l.task.acts (get_or l.supporters p None) q) (range_with_len 0 l.p) && not (has l.s q));
}
