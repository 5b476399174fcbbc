use Rattle.std.proofs.Common.{◌≢◌, ap, ◌∙◌}
use Rattle.std.proofs.lemmas.List.Elements.{All-contains}
use Rattle.wp_nodes.specs.declared.kept.Kept.{Kept}
use Rattle.wp_commit.proofs.TakeLemmas.{kept_for}
use Rattle.wp_commit.proofs.searched.node_at.Goals as goal

pub unreachable-requires : goal.unreachable-requires
unreachable-requires c =
    let s = c.args.searched.now in
    let at = c.requires.taken in
    let taken = at.1.2.2 in
    let k = kept_for at.0 at.1.0 s at.1.1 at.1.2.0 taken.holds at.1.2.1 taken.there taken.kept in
    All-contains (λ (x : Kept). x.number ≢ c.args.number) s.nodes.kept k.0 c.in-None.ensures.none k.1
    (ap (λ p. p.0.number) k.2 ∙ taken.named)
