use Rattle.std.proofs.Common.{◌≡◌, ◌<◌, ℕ, [], length, get_or}
use Rattle.wp_relax.proofs.buckets.clear_from.Given as goal

abbrev pub invariant-loop-i : goal.invariant-loop-i
invariant-loop-i l = record {
  len : length l.buckets.items ≡ length l.fn.buckets.items;
  empty : (j : ℕ) → j < l.i → get_or l.buckets.items j [] ≡ [];
}
