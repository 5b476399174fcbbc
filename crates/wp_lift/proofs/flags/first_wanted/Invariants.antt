use Rattle.std.proofs.Common.{◌*◌}
use Rattle.wp_lift.proofs.WantedLemmas.{NoneBefore}
use Rattle.wp_lift.proofs.flags.first_wanted.Given as goal

abbrev pub invariant-loop-place : goal.invariant-loop-place
invariant-loop-place l = NoneBefore l.words l.within l.beyond (64 * l.place)
