use Rattle.std.proofs.Common.{rules}
use Rattle.std.proofs.lemmas.Iterator.{YieldsList-from_map, YieldsList-from_take, items_from_collect}
use Rattle.std.proofs.lemmas.Iterator.Consumers.{YieldsList-at, YieldsList-from_rest}
use Rattle.wp_queue.specs.declared.queue.Waiting.{Waiting}
use Rattle.wp_queue.proofs.OrderLemmas.{in_order}
use Rattle.wp_queue.proofs.queue.front.Goals as goal

pub returns-clause-numbers : goal.returns-clause-numbers
returns-clause-numbers c = items_from_collect _ c.collect.ensures.ran
    (YieldsList-from_map _ (λ (x : Waiting). x.number)
    (YieldsList-at c.map.ensures.source (YieldsList-from_take c.args.n
    (YieldsList-at c.take.ensures.source (YieldsList-from_rest c.args.waiting.now.keys c.iter.ensures.rest))
    c.take.ensures.count))
    c.map.ensures.closure (λ x r q k. search rules))

pub returns-clause-order : goal.returns-clause-order
returns-clause-order c = in_order c.args.waiting.now.keys c.iter.ensures.ordered
