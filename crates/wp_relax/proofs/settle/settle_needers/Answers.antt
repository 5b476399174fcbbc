use Rattle.std.proofs.Common.{◌≡◌, ◌+◌, ◌-◌, ◌<◌, ◌≤◌, min, ℕ, length, get_or, ◌∙◌, arith, length-set}
use Rattle.std.proofs.lemmas.List.Elements.{All-get_or}
use Rattle.wp_relax.specs.AdditiveCost.{infinite}
use Rattle.wp_relax.specs.Frontier.{offered_to}
use Rattle.wp_relax.proofs.StepLemmas.{changed_next, unchanged_yet}
use Rattle.wp_relax.proofs.OfferLemmas.{offers-next}
use Rattle.wp_relax.proofs.settle.settle_needers.Goals as goal

pub settle-requires-clause-waits : goal.settle-requires-clause-waits
settle-requires-clause-waits c =
    let acts = c.args.acts.now in
    let i = c.loop-a.a-index in
    let same : get_or c.loop-a.pending.left.items (get_or acts i 0) 0 ≡ get_or c.args.pending.now.left.items (get_or acts i 0) 0 =
    unchanged_yet (λ n. n - 1) c.args.pending.now.left.items c.loop-a.pending.left.items acts i c.requires.rising c.loop-a-test.true c.loop-a.invariant.left in
    omega (arith, c.requires.waits i 0 c.loop-a-test.true)

pub settle-requires-clause-bounded : goal.settle-requires-clause-bounded
settle-requires-clause-bounded c =
    let acts = c.args.acts.now in
    let i = c.loop-a.a-index in
    let price : ℕ → ℕ = λ n. min infinite (n + c.args.cost) in
    let same : get_or c.loop-a.pending.prices.items (get_or acts i 0) 0 ≡ get_or c.args.pending.now.prices.items (get_or acts i 0) 0 =
    unchanged_yet price c.args.pending.now.prices.items c.loop-a.pending.prices.items acts i c.requires.rising c.loop-a-test.true c.loop-a.invariant.prices in
    let inside : get_or acts i 0 < length c.args.pending.now.prices.items = omega (arith, c.requires.numbers i 0 c.loop-a-test.true, c.requires.room) in
    let small : get_or c.args.pending.now.prices.items (get_or acts i 0) 0 ≤ infinite =
    All-get_or (λ n. n ≤ infinite) c.args.pending.now.prices.items (get_or acts i 0) 0 inside c.requires.bounded in
    omega arith

pub loop-a-preserved : goal.loop-a-preserved
loop-a-preserved c =
    let acts = c.args.acts.now in
    let i = c.loop-a.a-index in
    let x = get_or acts i 0 in
    let left = c.loop-a.pending.left.items in
    let prices = c.loop-a.pending.prices.items in
    let price : ℕ → ℕ = λ n. min infinite (n + c.args.cost) in
    let within : x < length left = omega (arith, c.requires.numbers i 0 c.loop-a-test.true, c.loop-a.invariant.lefts, c.requires.size) in
    let priced : x < length prices = omega (arith, c.requires.numbers i 0 c.loop-a-test.true, c.loop-a.invariant.sizes, c.requires.room) in
    record {
      left = rw c.settle.ensures.left (changed_next (λ n. n - 1) c.args.pending.now.left.items left acts i c.requires.rising c.loop-a-test.true within c.loop-a.invariant.left);
      prices = rw c.settle.ensures.prices (changed_next price c.args.pending.now.prices.items prices acts i c.requires.rising c.loop-a-test.true priced c.loop-a.invariant.prices);
      lefts = rw c.settle.ensures.left (length-set left x (get_or left x 0 - 1) ∙ c.loop-a.invariant.lefts);
      sizes = rw c.settle.ensures.prices (length-set prices x (price (get_or prices x 0)) ∙ c.loop-a.invariant.sizes);
      costs = c.in_ok-offer.ensures.size ∙ c.loop-a.invariant.costs;
      supporters = c.in_ok-offer.ensures.room ∙ c.loop-a.invariant.supporters;
      offers = λ p. offers-next c.args.task.now.acts left prices c.settle.new.self.left.items c.settle.new.self.prices.items acts i
          (get_or left x 0 - 1) (price (get_or prices x 0)) p (offered_to c.args.frontier.now p) (offered_to c.loop-a.frontier p) (offered_to c.offer.new.frontier p)
          c.requires.rising c.loop-a-test.true c.settle.ensures.left c.settle.ensures.prices (c.loop-a.invariant.offers p) (c.in_ok-offer.ensures.offers p);
      settled = c.in_ok-offer.ensures.settled ∙ c.loop-a.invariant.settled;
    }
