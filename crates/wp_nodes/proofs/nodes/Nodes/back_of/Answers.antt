use Rattle.std.proofs.Common.{◌≡◌, ◌<◌, ◌==◌, ℕ, IfSome, sym, ap, ◌∙◌, subst}
use Rattle.std.proofs.lemmas.Bool.{eqb-true}
use Rattle.std.proofs.lemmas.List.Elements.{All-contains}
use Rattle.wp_nodes.specs.declared.kept.Kept.{Kept}
use Rattle.wp_nodes.specs.KeptNodes.{IsKept}
use Rattle.wp_nodes.specs.Links.{along}
use Rattle.wp_nodes.proofs.NumberLemmas.{find-gives}
use Rattle.wp_nodes.proofs.nodes.Nodes.back_of.Goals as goal

pub returns-clause-link : goal.returns-clause-link
returns-clause-link c = λ plans follows.
    let k = c.in_ok-get.field-0.now in
    let kept = c.args.self.now.kept in
    let parts = find-gives (λ (x : Kept). x.number == c.args.number) kept k (sym c.in_ok-get.ensures.node) in
    sym (ap plans (eqb-true k.number c.args.number parts.1))
    ∙ All-contains (λ (x : Kept). plans x.number ≡ along plans x.back) kept k follows parts.0

pub returns-clause-parent : goal.returns-clause-parent
returns-clause-parent c =
    let k = c.in_ok-get.field-0.now in
    let kept = c.args.self.now.kept in
    let parts = find-gives (λ (x : Kept). x.number == c.args.number) kept k (sym c.in_ok-get.ensures.node) in
    subst (λ (n : ℕ). IfSome k.back (λ back. (back.parent < n) × IsKept kept back.parent)) (eqb-true k.number c.args.number parts.1)
    (All-contains (λ (x : Kept). IfSome x.back (λ back. (back.parent < x.number) × IsKept kept back.parent)) kept k
    c.in_ok-get.ensures.linked.parents parts.0)
