use Rattle.std.proofs.Common.{◌≡◌, ◌++◌}
use Rattle.wp_gen.specs.Depot.{each_below, roads_text}
use Rattle.wp_gen.proofs.depot.put_all_roads.Given as goal

abbrev pub invariant-loop-place : goal.invariant-loop-place
invariant-loop-place l = l.out.items ≡ l.fn.out.items ++ each_below roads_text l.place
