use Rattle.wp_app.proofs.PutLemmas.{put_more}
use Rattle.wp_app.proofs.put.put_all.Goals as goal

pub loop-done-preserved : goal.loop-done-preserved
loop-done-preserved g c = put_more _ _ _ _ _ _ _ _ _ c.loop-done.invariant c.in_ok-done.ensures.ok c.in_ok-done.ensures.later
