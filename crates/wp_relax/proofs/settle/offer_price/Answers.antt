use Rattle.std.proofs.Common.{◌∙◌, arith}
use Rattle.wp_relax.proofs.OfferLemmas.{offered-next}
use Rattle.wp_relax.proofs.settle.offer_price.Goals as goal

pub offer-requires : goal.offer-requires
offer-requires c = omega (arith, c.requires.below c.loop-p.p-index 0 c.loop-p-test.true, c.loop-p.invariant.size)

pub loop-p-preserved : goal.loop-p-preserved
loop-p-preserved c = record {
  size = c.in_ok-offer.ensures.size ∙ c.loop-p.invariant.size;
  room = c.in_ok-offer.ensures.room ∙ c.loop-p.invariant.room;
  offers = offered-next c.args.frontier.now c.loop-p.frontier c.offer.new.self c.args.atoms.now c.loop-p.p-index c.args.a c.args.price
      c.requires.rising c.loop-p-test.true c.in_ok-offer.ensures.offers c.loop-p.invariant.offers;
  settled = c.in_ok-offer.ensures.settled ∙ c.loop-p.invariant.settled;
}
