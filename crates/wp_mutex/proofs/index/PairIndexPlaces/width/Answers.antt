use Rattle.std.proofs.Common.{Bool, List, subst}
use Rattle.wp_tuples.specs.Placing.{AreApart}
use Rattle.wp_mutex.specs.PairPlaces.{possible_placed}
use Rattle.wp_mutex.proofs.PlaceLemmas.{possible_apart}
use Rattle.wp_mutex.proofs.index.PairIndexPlaces.width.Goals as goal

pub returns-clause-apart : goal.returns-clause-apart
returns-clause-apart c =
    subst (λ (pairs : List (List Bool)). AreApart (possible_placed pairs)) c.self.view_is
    (possible_apart c.self.inside.rows.items c.self.invariant.few)
