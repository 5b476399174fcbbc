use Rattle.std.proofs.Common.{◌≡◌, ◌≢◌, false, Some, sym, subst}
use Rattle.std.specs.List.{All}
use Rattle.std.proofs.lemmas.List.Elements.{All-weaker}
use Rattle.wp_nodes.specs.declared.kept.Kept.{Kept}
use Rattle.wp_nodes.specs.KeptNodes.{Keeping, node_of, has_state}
use Rattle.wp_nodes.proofs.StateLemmas.{same_state, no_state}
use Rattle.wp_nodes.proofs.NumberLemmas.{find-gives, find-none, node-contained}
use Rattle.wp_nodes.proofs.nodes.Nodes.find.Goals as goal

pub returns-in_err-found-clause-none : goal.returns-in_err-found-clause-none
returns-in_err-found-clause-none c =
    let kept = c.self.inside.nodes.keys in
    let none : All (λ k. k.state ≢ c.args.state.now) kept =
    All-weaker (λ (k : Kept). has_state c.args.state.now k ≡ false) (λ (k : Kept). k.state ≢ c.args.state.now)
    (λ k h. no_state c.args.state.now k h) kept (find-none (has_state c.args.state.now) kept (sym c.in_err-found.ensures.key)) in
    rw c.from_residual.ensures (subst (λ (n : Keeping). All (λ k. k.state ≢ c.args.state.now) n.kept) c.self.view_is none)

pub returns-clause-found : goal.returns-clause-found
returns-clause-found c =
    let k = c.in_ok-found.found.now in
    let kept = c.self.inside.nodes.keys in
    let parts = find-gives (has_state c.args.state.now) kept k (sym c.in_ok-found.ensures.key) in
    let node : node_of kept k.number ≡ Some k = node-contained kept k c.self.invariant.rising parts.0 in
    let now : node_of c.args.self.now.kept k.number ≡ Some k = subst (λ (n : Keeping). node_of n.kept k.number ≡ Some k) c.self.view_is node in
    let found : (x : Kept) × (node_of c.args.self.now.kept k.number ≡ Some x) × (x.state ≡ c.args.state.now) = (k, now, same_state c.args.state.now k parts.1) in
    subst (λ (y : Kept). (x : Kept) × (node_of c.args.self.now.kept y.number ≡ Some x) × (x.state ≡ c.args.state.now)) (sym c.found.view_is) found
