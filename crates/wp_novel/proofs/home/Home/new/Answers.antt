use Rattle.std.proofs.Common.{sym, subst}
use Rattle.wp_tuples.specs.Placing.{AreApart}
use Rattle.wp_tuples.specs.Ranking.{Ranking, ranked, HoldsAtoms}
use Rattle.wp_novel.specs.NoveltyTables.{bare, IsFilled}
use Rattle.wp_novel.proofs.GrowLemmas.{bare_filled}
use Rattle.wp_novel.proofs.home.Home.new.Goals as goal

pub returns-clause-filled : goal.returns-clause-filled
returns-clause-filled c = λ atoms.
    let is = c.of_none-ranks.ensures in
    subst (λ (r : Ranking). IsFilled c.args.width atoms (bare r)) (sym is)
    (bare_filled c.args.width atoms (subst (λ (r : Ranking). AreApart (ranked r)) is c.atoms.ensures.apart) (subst (λ (r : Ranking). HoldsAtoms r) is c.atoms.ensures.within))
