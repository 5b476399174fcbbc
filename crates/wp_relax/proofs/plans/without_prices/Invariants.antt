use Rattle.std.proofs.Common.{◌≡◌, map, take}
use Rattle.wp_relax.proofs.plans.without_prices.Given as goal

abbrev pub invariant-loop-a : goal.invariant-loop-a
invariant-loop-a l = l.numbers.items ≡ map (λ k. k.1) (take l.a-index l.priced)
