use Rattle.std.proofs.Common.{◌≡◌, ◌+◌, ◌*◌, ◌++◌, map}
use Rattle.std.specs.List.{range_with_len}
use Rattle.wp_mutex.specs.PairPlaces.{count_below}
use Rattle.wp_mutex.proofs.index.push_row.Given as goal

abbrev pub invariant-loop-k : goal.invariant-loop-k
invariant-loop-k l = record {
  next : l.next ≡ l.first + count_below l.row (64 * l.k);
  starts : l.starts.items ≡ l.fn.starts.items ++ map (λ k. l.first + count_below l.row (64 * k)) (range_with_len 0 l.k);
}
