use Rattle.wp_commit.proofs.store.StoreBestFirst.counts.Goals as goal

pub returns : goal.returns
returns g c lent asked m holds =
    let s = c.args.self.now in
    c.counts_of.ensures s.run.task s.run.settings (g.T.Shown.shown lent) m holds.1 holds.0.pairs_are
