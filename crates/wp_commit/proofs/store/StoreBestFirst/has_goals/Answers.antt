use Rattle.std.proofs.Common.{◌≡◌, ◌==◌, ℕ, sym, ap, ◌∙◌}
use Rattle.wp_task.specs.Novelty.{Generated}
use Rattle.wp_commit.specs.Searched.{shown_kept, shown}
use Rattle.wp_commit.proofs.TakeLemmas.{kept_is}
use Rattle.wp_commit.proofs.store.StoreBestFirst.has_goals.Goals as goal

pub returns : goal.returns
returns g c lent asked m node taken =
    let s = c.args.self.now in
    let k = c.node_at.result.now in
    let same : shown_kept k ≡ shown node =
    kept_is s.run.task s.run.settings s.searched (g.T.Shown.shown lent) m taken.1.holds node k taken.1.there c.node_at.ensures.there (c.node_at.ensures.named ∙ sym taken.1.named) in
    ap (λ (p : Generated × ℕ). p.0.counters.0 == 0) same
