use Rattle.std.proofs.Common.{◌≡◌, ◌+◌, ◌-◌, ℕ, min, cond, length, take, get_or}
use Rattle.wp_task.specs.Set.{lists}
use Rattle.wp_relax.specs.AdditiveCost.{infinite}
use Rattle.wp_relax.specs.Frontier.{offered_to, after_offers}
use Rattle.wp_relax.proofs.settle.settle_needers.Given as goal

abbrev pub invariant-loop-a : goal.invariant-loop-a
invariant-loop-a l = record {
  left : (a : ℕ) → get_or l.pending.left.items a 0
      ≡ cond (lists (take l.a-index l.acts) a) (get_or l.fn.pending.left.items a 0 - 1) (get_or l.fn.pending.left.items a 0);
  prices : (a : ℕ) → get_or l.pending.prices.items a 0
      ≡ cond (lists (take l.a-index l.acts) a) (min infinite (get_or l.fn.pending.prices.items a 0 + l.cost)) (get_or l.fn.pending.prices.items a 0);
  lefts : length l.pending.left.items ≡ length l.fn.pending.left.items;
  sizes : length l.pending.prices.items ≡ length l.fn.pending.prices.items;
  costs : length l.frontier.costs ≡ length l.fn.frontier.costs;
  supporters : length l.frontier.supporters ≡ length l.fn.frontier.supporters;
  offers : (p : ℕ) → offered_to l.frontier p
      ≡ after_offers l.task.acts l.pending.left.items l.pending.prices.items (take l.a-index l.acts) p (offered_to l.fn.frontier p);
  settled : l.frontier.settled ≡ l.fn.frontier.settled;
}
