use Rattle.std.proofs.Common.{◌≡◌, ◌≢◌, ◌<◌, List, [], ◌∷◌, ◌++◌, IfSome, length, sym, ap, ◌∙◌, subst}
use Rattle.std.specs.List.{All}
use Rattle.wp_nodes.specs.declared.kept.Kept.{Kept}
use Rattle.wp_nodes.specs.KeptNodes.{Keeping, IsKept, AreLinked}
use Rattle.wp_nodes.proofs.StateLemmas.{keys_after}
use Rattle.wp_nodes.proofs.LinkedLemmas.{linked_more}
use Rattle.wp_nodes.proofs.nodes.Nodes.add.Goals as goal

pub invariant_of-self-2 : goal.invariant_of-self-2
invariant_of-self-2 c =
    let nodes : Keeping = record { kept = c.self.inside.nodes.keys; tracks = c.self.inside.tracks.items } in
    let back = sym c.self.view_is in
    let new : All (λ k. k.state ≢ c.args.node.state) nodes.kept = subst (λ (n : Keeping). All (λ k. k.state ≢ c.args.node.state) n.kept) back c.requires.state in
    let keys : c.insert.new.self.keys ≡ nodes.kept ++ c.args.node ∷ [] = c.in_ok-insert.ensures.keys ∙ keys_after nodes.kept c.args.node new in
    subst (λ (kept : List Kept). AreLinked (record { kept = kept; tracks = nodes.tracks })) (sym keys)
    (linked_more nodes c.args.node c.self.invariant
    (subst (λ (n : Keeping). All (λ k. k.number < c.args.node.number) n.kept) back c.requires.number)
    new
    (subst (λ (n : Keeping). IfSome c.args.node.back (λ b. IsKept n.kept b.parent)) back c.requires.parent)
    (subst (λ (n : Keeping). c.args.node.mark.track < length n.tracks) back c.requires.track))

pub returns-clause-added : goal.returns-clause-added
returns-clause-added c =
    let nodes : Keeping = record { kept = c.self.inside.nodes.keys; tracks = c.self.inside.tracks.items } in
    let new : All (λ k. k.state ≢ c.args.node.state) nodes.kept =
    subst (λ (n : Keeping). All (λ k. k.state ≢ c.args.node.state) n.kept) (sym c.self.view_is) c.requires.state in
    let keys : c.insert.new.self.keys ≡ c.args.self.now.kept ++ c.args.node ∷ [] =
    c.in_ok-insert.ensures.keys ∙ keys_after nodes.kept c.args.node new ∙ ap (λ (n : Keeping). n.kept ++ c.args.node ∷ []) c.self.view_is in
    let tracks : c.self.inside.tracks.items ≡ c.args.self.now.tracks = ap (λ (n : Keeping). n.tracks) c.self.view_is in
    (λ j. let n : Keeping = record { kept = keys j; tracks = tracks j } in n)
