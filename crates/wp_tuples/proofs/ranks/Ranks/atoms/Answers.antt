use Rattle.std.proofs.Common.{subst}
use Rattle.wp_tuples.specs.Placing.{AreApart}
use Rattle.wp_tuples.specs.Ranking.{Ranking, ranked}
use Rattle.wp_tuples.proofs.RankLemmas.{ranked_apart}
use Rattle.wp_tuples.proofs.ranks.Ranks.atoms.Goals as goal

pub returns-clause-apart : goal.returns-clause-apart
returns-clause-apart c =
    let inside : Ranking = record { width = c.self.inside.width; ranks = c.self.inside.ranks.items; used = c.self.inside.used } in
    subst (λ (r : Ranking). AreApart (ranked r)) c.self.view_is (ranked_apart inside c.self.invariant)
