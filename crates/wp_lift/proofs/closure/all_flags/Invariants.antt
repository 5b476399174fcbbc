use Rattle.std.proofs.Common.{◌≡◌, map}
use Rattle.std.specs.List.{range_with_len}
use Rattle.wp_lift.specs.Typing.{flags_of}
use Rattle.wp_lift.proofs.closure.all_flags.Given as goal

abbrev pub invariant-loop-a : goal.invariant-loop-a
invariant-loop-a l = l.rows.items ≡ map (flags_of l.count) (range_with_len 0 l.a)
