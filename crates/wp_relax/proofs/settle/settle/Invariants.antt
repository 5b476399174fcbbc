use Rattle.std.proofs.Common.{◌≡◌, not, length}
use Rattle.std.specs.List.{count_by}
use Rattle.wp_relax.proofs.InOrder.{IsSettling}
use Rattle.wp_relax.proofs.Supported.{AreSupported}
use Rattle.wp_relax.proofs.settle.settle.Given as goal

abbrev pub invariant-loop-p : goal.invariant-loop-p
invariant-loop-p l = record {
  settling : IsSettling l.task.acts l.s l.frontier.costs l.frontier.settled l.pending.left.items l.pending.prices.items;
  supported : AreSupported l.task.acts l.s l.pending.left.items l.pending.prices.items l.frontier;
  atoms : length l.frontier.costs ≡ length l.fn.frontier.costs;
  left : length l.pending.left.items ≡ length l.task.acts;
  prices : length l.pending.prices.items ≡ length l.task.acts;
}

abbrev pub decreases-loop-p : goal.decreases-loop-p
decreases-loop-p l = count_by not l.frontier.settled
