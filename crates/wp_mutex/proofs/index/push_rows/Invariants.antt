use Rattle.std.proofs.Common.{◌≡◌, ◌+◌, length}
use Rattle.wp_mutex.specs.PairPlaces.{pairs_before, AreStarts}
use Rattle.wp_mutex.proofs.index.push_rows.Given as goal

abbrev pub invariant-loop-q : goal.invariant-loop-q
invariant-loop-q l = record {
  next : l.next ≡ length l.rows + pairs_before l.rows l.q;
  starts : AreStarts l.rows l.stride l.starts.items l.q;
}
