use Rattle.std.proofs.Common.{sym, ap, ◌∙◌}
use Rattle.wp_relax.specs.Frontier.{Offered, after_offer}
use Rattle.wp_relax.proofs.OfferLemmas.{offers-range_more}
use Rattle.wp_relax.proofs.settle.offer_all.Goals as goal

pub loop-a-preserved : goal.loop-a-preserved
loop-a-preserved c =
    let acts = c.args.task.now.acts in
    let left = c.args.pending.now.left.items in
    let prices = c.args.pending.now.prices.items in
    record {
      size = c.in_ok-offer.ensures.size ∙ c.loop-a.invariant.size;
      room = c.in_ok-offer.ensures.room ∙ c.loop-a.invariant.room;
      offers = λ p. c.in_ok-offer.ensures.offers p
          ∙ (ap (λ (now : Offered). after_offer acts left prices p now c.loop-a.a) (c.loop-a.invariant.offers p)
          ∙ sym (offers-range_more acts left prices c.loop-a.a p _));
      settled = c.in_ok-offer.ensures.settled ∙ c.loop-a.invariant.settled;
    }
