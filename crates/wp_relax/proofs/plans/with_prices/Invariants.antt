use Rattle.std.proofs.Common.{◌≡◌, map}
use Rattle.std.specs.List.{filter, range_with_len}
use Rattle.wp_task.specs.Set.{has}
use Rattle.wp_task.specs.Task.{act_at}
use Rattle.wp_relax.specs.AdditiveCost.{price_of}
use Rattle.wp_relax.proofs.plans.with_prices.Given as goal

abbrev pub invariant-loop-a : goal.invariant-loop-a
invariant-loop-a l =
    l.priced.items ≡ map (λ a. (price_of l.costs.costs (act_at l.task.acts a), a)) (filter (has l.set) (range_with_len 0 l.a))
