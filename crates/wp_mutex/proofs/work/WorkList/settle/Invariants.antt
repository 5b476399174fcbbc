use Rattle.std.proofs.Common.{◌+◌, length}
use Rattle.wp_mutex.specs.WorkList.{missing, IsSettling}
use Rattle.wp_mutex.proofs.work.WorkList.settle.Given as goal

abbrev pub invariant-loop-pair : goal.invariant-loop-pair
invariant-loop-pair l = IsSettling l.task.acts l.task.init l.self

abbrev pub decreases-loop-pair : goal.decreases-loop-pair
decreases-loop-pair l = length l.self.waiting + missing l.self.pairs
