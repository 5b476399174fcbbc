use Rattle.std.proofs.Common.{◌≡◌, [], replicate}
use Rattle.wp_relax.proofs.buckets.empty_buckets.Given as goal

abbrev pub invariant-loop-cost : goal.invariant-loop-cost
invariant-loop-cost l = l.buckets.items ≡ replicate l._cost []
