use Rattle.std.proofs.Common.{◌≡◌, ◌&&◌, ℕ, None, length, get_or}
use Rattle.std.specs.List.{list_any, range_with_len}
use Rattle.wp_task.specs.Set.{has}
use Rattle.wp_relax.specs.RelaxedPlan.{is_for}
use Rattle.wp_relax.proofs.plans.supporting.Given as goal

abbrev pub invariant-loop-p : goal.invariant-loop-p
invariant-loop-p l = record {
  size : length l.flags.items ≡ length l.task.acts;
  set : (a : ℕ) → has l.flags.items a ≡ list_any (λ p. is_for (get_or l.costs.supporters p None) a && has l.wanted p) (range_with_len 0 l.p);
}
