use Rattle.std.proofs.Common.{◌≡◌, ℕ, List, sym, ap, ◌∙◌}
use Rattle.std.proofs.lemmas.Result.{IfOk-weaker}
use Rattle.wp_nodes.specs.Links.{IsAlongLinks}
use Rattle.wp_plain.specs.Nodes.{Node, path_at}
use Rattle.wp_plain.specs.Run.{Moment}
use Rattle.wp_plain.specs.Steps.{Asked}
use Rattle.wp_commit.specs.Lending.{IsRunOf}
use Rattle.wp_commit.specs.Searched.{plans_in, IsTakenAt}
use Rattle.wp_commit.proofs.TakeLemmas.{plans-follow}
use Rattle.wp_commit.proofs.store.StoreBestFirst.plan_to.Goals as goal

pub returns : goal.returns
returns g c =
    let s = c.args.self.now in
    let number = c.node_at-node.result.now.number in
    IfOk-weaker c.plan_to.result (λ (plan : List ℕ). IsAlongLinks s.searched.nodes.kept number plan)
    (λ (plan : List ℕ). (lent : _) (asked : Asked) (m : Moment) (node : Node) →
    IsRunOf _ s.run asked s.pairs (g.T.Shown.shown lent) s.searched.nodes s.broods
    × IsTakenAt s.run.task s.run.settings s.searched (g.T.Shown.shown lent) m node c.args.number → plan ≡ (path_at m.paths node.generated.number).acts)
    (λ plan links lent asked m node taken.
    links (plans_in m.paths) (plans-follow s.run.task s.searched.nodes m taken.1.holds.nodes) ∙ ap (plans_in m.paths) (c.node_at-node.ensures.named ∙ sym taken.1.named))
    c.plan_to.ensures.links
