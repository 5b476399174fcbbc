use Rattle.std.proofs.Common.{◌≡◌, ◌++◌}
use Rattle.wp_gen.specs.Depot.{each_below, parcel_text}
use Rattle.wp_gen.proofs.depot.put_parcel_names.Given as goal

abbrev pub invariant-loop-parcel : goal.invariant-loop-parcel
invariant-loop-parcel l = l.out.items ≡ l.fn.out.items ++ each_below parcel_text l.parcel
