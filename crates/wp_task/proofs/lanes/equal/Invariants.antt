use Rattle.std.proofs.Common.{◌≡◌, ◌*◌, take}
use Rattle.wp_task.proofs.lanes.equal.Given as goal

abbrev pub invariant-loop-i : goal.invariant-loop-i
invariant-loop-i l = take (4 * l.i) l.words ≡ take (4 * l.i) l.others
