use Rattle.std.proofs.Common.{◌≡◌, ℕ, List, sym, ap, ◌∙◌}
use Rattle.std.proofs.lemmas.Result.{IfOk-weaker}
use Rattle.wp_plain.specs.Nodes.{Node, path_at}
use Rattle.wp_plain.specs.Run.{Moment}
use Rattle.wp_plain.specs.Steps.{Asked}
use Rattle.wp_plain.specs.Explored.{AreActsTo, IsTakenAt}
use Rattle.wp_plain.proofs.search.ExploredBestFirst.plan_to.Goals as goal

pub returns : goal.returns
returns c =
    let e = c.args.self.now in
    IfOk-weaker c.plan_to.result (AreActsTo e c.args.number)
    (λ (plan : List ℕ). (lent : Unit {0}) (asked : Asked) (m : Moment) (node : Node) → IsTakenAt asked.task e m node c.args.number → plan ≡ (path_at m.paths node.generated.number).acts)
    (λ plan acts lent asked m node taken.
    let number = ap (λ (n : Node). n.generated.number) (sym taken.node_is) ∙ (taken.stands.reached.each c.args.number taken.within).numbered in
    acts asked.task m.paths taken.stands.reached ∙ ap (λ (k : ℕ). (path_at m.paths k).acts) (sym number))
    c.plan_to.ensures
