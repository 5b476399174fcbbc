use Rattle.wp_commit.proofs.TakeLemmas.{takes-first}
use Rattle.wp_commit.proofs.store.StoreBestFirst.take.Goals as goal

pub returns : goal.returns
returns g c lent asked m stands =
    let s = c.args.self.now in
    takes-first s.run.task s.run.settings s.searched (g.T.Shown.shown lent) m stands.0 c.first_is_least.ensures c.take.new.self c.take.result stands.1
    c.take.ensures.taken c.take.ensures.empty
