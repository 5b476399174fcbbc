use Rattle.std.proofs.Common.{length}
use Rattle.wp_succ.specs.Tree.{reached_by_count}
use Rattle.wp_succ.proofs.ReachedLemmas.{put}
use Rattle.wp_succ.proofs.growing.Growing.put.Goals as goal

pub returns-clause-more : goal.returns-clause-more
returns-clause-more c = λ s a.
    let it = c.args.self.now in
    put s (reached_by_count s it.nodes.items) it.way.items it.acts.items c.push.new.self.items (length it.nodes.items) c.args.act a c.in_ok-push.ensures.items
