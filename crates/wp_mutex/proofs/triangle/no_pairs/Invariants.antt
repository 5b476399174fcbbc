use Rattle.std.proofs.Common.{◌≡◌, ◌+◌, false, map, replicate}
use Rattle.std.specs.List.{range_with_len}
use Rattle.wp_mutex.proofs.triangle.no_pairs.Given as goal

abbrev pub invariant-loop-q : goal.invariant-loop-q
invariant-loop-q l = l.rows.items ≡ map (λ q. replicate (q + 1) false) (range_with_len 0 l.q)
