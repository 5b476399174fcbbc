use Rattle.std.proofs.Common.{◌≡◌, ◌≢◌, ◌==◌, ℕ, false, List, Some, get_or, refl, sym, ap, ◌∙◌, subst}
use Rattle.std.specs.List.{All}
use Rattle.std.proofs.lemmas.Bool.{eqb-true, both_ways, eq-eqb}
use Rattle.std.proofs.lemmas.List.Elements.{All-weaker}
use Rattle.std.proofs.lemmas.Option.{slice_get_read}
use Rattle.wp_nodes.specs.declared.kept.Kept.{Kept}
use Rattle.wp_nodes.specs.KeptNodes.{Keeping, node_of}
use Rattle.wp_nodes.proofs.NumberLemmas.{find-gives, find-none}
use Rattle.wp_nodes.proofs.nodes.Nodes.get.Goals as goal

other_number : (number : ℕ) (k : Kept) → (k.number == number) ≡ false → k.number ≢ number
other_number number k differs same = both_ways (k.number == number) differs (eq-eqb k.number number same)

pub returns-in_err-place-clause-none : goal.returns-in_err-place-clause-none
returns-in_err-place-clause-none c =
    let kept = c.as_slice.result.now in
    let keys : kept ≡ c.args.self.now.kept = c.as_slice.ensures.keys ∙ ap (λ (n : Keeping). n.kept) c.self.view_is in
    let none : All (λ k. k.number ≢ c.args.number) kept =
    All-weaker (λ (k : Kept). (k.number == c.args.number) ≡ false) (λ (k : Kept). k.number ≢ c.args.number) (other_number c.args.number) kept
    (find-none (λ (k : Kept). k.number == c.args.number) kept c.in_err-place.ensures.none) in
    rw c.from_residual.ensures (subst (All (λ (k : Kept). k.number ≢ c.args.number)) keys none)

node_is : (c : goal.After-found) → node_of c.args.self.now.kept c.args.number ≡ Some c.found.inside.node
node_is c =
    let now = ap (λ (n : Keeping). n.kept) c.self.view_is in
    let keys : c.as_slice.result.now ≡ c.as_slice-2.result.now = c.as_slice.ensures.keys ∙ sym c.as_slice-2.ensures.keys in
    let there : node_of c.as_slice.result.now c.args.number ≡ Some c.index-as_slice-place.result =
    c.in_ok-place.ensures.found ∙ slice_get_read _ _ _ _ refl c.in_ok-place.ensures.within
    (c.index-as_slice-place.is ∙ ap (λ (l : List Kept). get_or l c.in_ok-place.place c.index-as_slice-place.result) (sym keys)) in
    subst (λ (l : List Kept). node_of l c.args.number ≡ Some c.found.inside.node) (c.as_slice.ensures.keys ∙ now) (there ∙ ap Some (sym c.found.view_is))

pub returns-clause-node : goal.returns-clause-node
returns-clause-node c = sym (node_is c)

pub returns-clause-found : goal.returns-clause-found
returns-clause-found c =
    let parts = find-gives (λ (k : Kept). k.number == c.args.number) c.args.self.now.kept c.found.inside.node (node_is c) in
    (parts.0, eqb-true c.found.inside.node.number c.args.number parts.1)
