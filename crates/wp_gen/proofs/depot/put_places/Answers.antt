use Rattle.wp_gen.specs.Depot.{place_text}
use Rattle.wp_gen.proofs.TextLemmas.{put_more}
use Rattle.wp_gen.proofs.depot.put_places.Goals as goal

pub loop-place-preserved : goal.loop-place-preserved
loop-place-preserved c = put_more place_text c.args.out.now.items c.loop-place.out.items _ c.loop-place.place c.loop-place.invariant c.in_ok-put_place.ensures
