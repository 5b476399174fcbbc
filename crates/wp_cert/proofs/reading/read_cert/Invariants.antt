use Rattle.std.proofs.Common.{◌≡◌, ◌≤◌, ◌+◌, length}
use Rattle.wp_cert.specs.Format.{header_from, pieces}
use Rattle.wp_cert.proofs.reading.read_cert.Given as goal

abbrev pub invariant-loop-split : goal.invariant-loop-split
invariant-loop-split l = record {
  so_far : header_from l.number (pieces 10 l.rest) ≡ header_from 1 (pieces 10 l.bytes);
  few : l.number + length l.rest ≤ 1 + length l.bytes;
}

abbrev pub decreases-loop-split : goal.decreases-loop-split
decreases-loop-split l = length l.rest
