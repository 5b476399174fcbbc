use Rattle.std.proofs.Common.{◌≤◌, ℕ, ◌∙◌, subst}
use Rattle.std.specs.Prelude.{IfSome, IfNone, ◌≡◌, ◌^◌}
use Rattle.wp_tuples.proofs.RankLemmas.{extends_then}
use Rattle.wp_arrive.specs.Seen.{PassView}
use Rattle.wp_novel.proofs.GrowthLemmas.{can_grow}
use Rattle.wp_novel.proofs.home.Home.growth.Goals as goal

pub returns-clause-can : goal.returns-clause-can
returns-clause-can c =
    let home = c.args.self.now in
    let shared = c.in_ok-shared.shared in
    can_grow c.args.atoms c.args.births.now c.args.pair home c.rank_births.new.ranks shared c.requires.filled c.requires.whole
    (extends_then home.ranking c.in_ok-ranks.ranks c.rank_births.new.ranks c.in_ok-ranks.ensures.extends c.in_ok-rank_births.ensures.extends)
    (c.in_ok-rank_births.ensures.atoms ∙ c.in_ok-ranks.ensures.atoms) c.atoms.ensures.apart c.atoms.ensures.within
    (subst (λ (need : ℕ). IfNone shared (need ≤ home.table.words)) c.len.ensures.value c.in_ok-shared.ensures.kept)
    (subst (λ (need : ℕ). IfSome shared (λ (pass : PassView). (need ≤ pass.table.words) × (pass.marks ≡ home.marks) × (pass.parts ≡ 2 ^ 32))) c.len.ensures.value c.in_ok-shared.ensures.more)
    c.in_ok-rank_births.ensures.held
