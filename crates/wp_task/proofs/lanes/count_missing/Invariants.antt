use Rattle.std.proofs.Common.{◌≡◌, ◌*◌, ◌&&◌, not}
use Rattle.std.specs.List.{count_by, range_with_len}
use Rattle.wp_task.specs.Packing.{bit_in}
use Rattle.wp_task.proofs.lanes.count_missing.Given as goal

abbrev pub invariant-loop-i : goal.invariant-loop-i
invariant-loop-i l = l.count ≡ count_by (λ p. bit_in l.wanted p && not (bit_in l.words p)) (range_with_len 0 (64 * (4 * l.i)))

abbrev pub invariant-loop-k : goal.invariant-loop-k
invariant-loop-k l = l.count ≡ count_by (λ p. bit_in l.wanted p && not (bit_in l.words p)) (range_with_len 0 (64 * l.k))
