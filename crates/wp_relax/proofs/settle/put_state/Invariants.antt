use Rattle.std.proofs.Common.{◌≡◌, ◌<◌, ◌≤◌, ℕ, cond, length, get_or}
use Rattle.wp_task.specs.Set.{has}
use Rattle.wp_relax.specs.AdditiveCost.{infinite}
use Rattle.wp_relax.proofs.settle.put_state.Given as goal

abbrev pub invariant-loop-p : goal.invariant-loop-p
invariant-loop-p l = record {
  size : length l.frontier.costs ≡ length l.fn.frontier.costs;
  before : (q : ℕ) → q < l.p → get_or l.frontier.costs q 0 ≡ cond (has l.s q) 0 infinite;
  after : (q : ℕ) → l.p ≤ q → q < length l.s → get_or l.frontier.costs q 0 ≡ infinite;
  supporters : l.frontier.supporters ≡ l.fn.frontier.supporters;
  settled : l.frontier.settled ≡ l.fn.frontier.settled;
}
