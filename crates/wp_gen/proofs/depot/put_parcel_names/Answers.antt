use Rattle.wp_gen.specs.Depot.{parcel_text}
use Rattle.wp_gen.proofs.TextLemmas.{put_more}
use Rattle.wp_gen.proofs.depot.put_parcel_names.Goals as goal

pub loop-parcel-preserved : goal.loop-parcel-preserved
loop-parcel-preserved c = put_more parcel_text c.args.out.now.items c.loop-parcel.out.items _ c.loop-parcel.parcel c.loop-parcel.invariant c.in_ok-put_parcel.ensures
