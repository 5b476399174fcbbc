use Rattle.std.proofs.Common.{◌≡◌, ◌++◌, ◌-◌, heap_items}
use Rattle.wp_relax.specs.Buckets.{bucket_count, in_buckets, AreBuckets}
use Rattle.wp_relax.proofs.buckets.Buckets.pop.Given as goal

abbrev pub invariant-loop-self : goal.invariant-loop-self
invariant-loop-self l = record {
  buckets : AreBuckets l.self-inside.buckets.items l.self-inside.least (heap_items l.self-inside.far);
  same : in_buckets 0 l.self-inside.buckets.items ++ heap_items l.self-inside.far ≡ l.fn.self;
}

abbrev pub decreases-loop-self : goal.decreases-loop-self
decreases-loop-self l = bucket_count - l.self-inside.least
