use Rattle.std.proofs.Common.{◌≡◌, ◌+◌, min, take}
use Rattle.std.specs.Prelude.{slice_index}
use Rattle.std.specs.List.{sum_by}
use Rattle.wp_relax.specs.AdditiveCost.{infinite}
use Rattle.wp_relax.proofs.costs.price.Given as goal

abbrev pub invariant-loop-q : goal.invariant-loop-q
invariant-loop-q l = l.total ≡ min infinite (1 + sum_by (slice_index l.costs) (take l.q-index l.q-items))
