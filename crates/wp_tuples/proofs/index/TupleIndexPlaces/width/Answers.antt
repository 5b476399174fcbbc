use Rattle.std.proofs.Common.{subst}
use Rattle.wp_tuples.specs.TuplePlaces.{Indexed}
use Rattle.wp_tuples.specs.Placing.{AreApart, all_placed}
use Rattle.wp_tuples.proofs.PlacingLemmas.{all_apart}
use Rattle.wp_tuples.proofs.index.TupleIndexPlaces.width.Goals as goal

pub returns-clause-apart : goal.returns-clause-apart
returns-clause-apart c =
    let inside : Indexed = record { atoms = c.self.inside.atoms; width = c.self.inside.width } in
    subst (λ (i : Indexed). AreApart (all_placed i)) c.self.view_is (all_apart inside c.self.invariant.0 c.self.invariant.1.0 c.self.invariant.1.1)
