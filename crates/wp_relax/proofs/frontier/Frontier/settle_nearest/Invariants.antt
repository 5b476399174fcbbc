use Rattle.std.proofs.Common.{◌≡◌, length}
use Rattle.wp_relax.specs.Frontier.{IsFrontier}
use Rattle.wp_relax.proofs.frontier.Frontier.settle_nearest.Given as goal

abbrev pub invariant-loop-first : goal.invariant-loop-first
invariant-loop-first l = record {
  frontier : IsFrontier l.self-inside.costs.items l.self-inside.settled.items l.self-inside.waiting;
  room : length l.self-inside.supporters.items ≡ length l.self-inside.costs.items;
  costs : l.self-inside.costs.items ≡ l.fn.self.costs;
  supporters : l.self-inside.supporters.items ≡ l.fn.self.supporters;
  settled : l.self-inside.settled.items ≡ l.fn.self.settled;
}

abbrev pub decreases-loop-first : goal.decreases-loop-first
decreases-loop-first l = length l.self-inside.waiting
