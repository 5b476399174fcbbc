use Rattle.std.proofs.Common.{◌∙◌}
use Rattle.wp_watch.specs.Texts.{fronts_text}
use Rattle.wp_watch.proofs.FrontLemmas.{has_put_none, has_put_more, has_put_all}
use Rattle.wp_watch.proofs.fronts.fronts_text.Goals as goal

pub loop-event-init : goal.loop-event-init
loop-event-init c = rw c.new-out.ensures.items (has_put_none _)

pub loop-event-preserved : goal.loop-event-preserved
loop-event-preserved c =
    has_put_more _ _ _ _ _ _ c.event-item.result c.loop-event.invariant c.loop-event-test.true c.event-item.is c.put_front.ensures.fits
    c.in_ok-least.ensures.line c.in_ok-least.ensures.least

pub returns : goal.returns
unfolding fronts_text
returns c = c.of_vec.ensures ∙ has_put_all _ _ _ _ c.loop-event.invariant c.loop-event-test.false
