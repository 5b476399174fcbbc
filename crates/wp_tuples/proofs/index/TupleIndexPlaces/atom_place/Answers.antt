use Rattle.std.proofs.Common.{◌<◌, sym, subst}
use Rattle.wp_tuples.specs.TuplePlaces.{Indexed}
use Rattle.wp_tuples.proofs.PlaceLemmas.{single_within}
use Rattle.wp_tuples.proofs.index.TupleIndexPlaces.atom_place.Goals as goal

pub returns-clause-within : goal.returns-clause-within
returns-clause-within c = rw (c.from.ensures, ← c.self.view_is)
    (single_within c.self.inside.atoms c.self.inside.width c.args.p c.self.invariant.1.0 c.self.invariant.1.1 (subst (λ (i : Indexed). c.args.p < i.atoms) (sym c.self.view_is) c.requires))
