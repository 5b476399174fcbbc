use Rattle.std.proofs.Common.{◌≡◌, ℕ, cond, length, take}
use Rattle.wp_task.specs.Set.{lists}
use Rattle.wp_relax.specs.Frontier.{offered_to, better}
use Rattle.wp_relax.proofs.settle.offer_price.Given as goal

abbrev pub invariant-loop-p : goal.invariant-loop-p
invariant-loop-p l = record {
  size : length l.frontier.costs ≡ length l.fn.frontier.costs;
  room : length l.frontier.supporters ≡ length l.fn.frontier.supporters;
  offers : (p : ℕ) → offered_to l.frontier p
      ≡ cond (lists (take l.p-index l.atoms) p) (better (offered_to l.fn.frontier p) l.a l.price) (offered_to l.fn.frontier p);
  settled : l.frontier.settled ≡ l.fn.frontier.settled;
}
