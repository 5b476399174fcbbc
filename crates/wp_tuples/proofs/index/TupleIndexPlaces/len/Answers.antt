use Rattle.std.proofs.Common.{◌≡◌, ◌+◌, sym, ap, ◌∙◌, subst, arith}
use Rattle.wp_tuples.specs.TuplePlaces.{Indexed}
use Rattle.wp_tuples.specs.Placing.{AreApart, all_placed}
use Rattle.wp_tuples.proofs.Triangles.{triangle}
use Rattle.wp_tuples.proofs.CountLemmas.{length-tuples_one, length-tuples_two}
use Rattle.wp_tuples.proofs.PlacingLemmas.{all_apart}
use Rattle.wp_tuples.proofs.index.TupleIndexPlaces.len.Goals as goal

pub returns-then-self-eq1-clause-tuples : goal.returns-then-self-eq1-clause-tuples
returns-then-self-eq1-clause-tuples c = rw (← c.self.view_is, c.if-self-eq1.true)
    (c.from-atoms.ensures ∙ sym (length-tuples_one c.self.inside.atoms))

pub returns-clause-tuples : goal.returns-clause-tuples
returns-clause-tuples c =
    let two : c.self.inside.width ≡ 2 = omega (arith, c.self.invariant.1.0, c.self.invariant.1.1) in
    let pairs : c.pairs_below.result ≡ triangle c.self.inside.atoms = c.pairs_below.ensures.value ∙ ap triangle c.from-atoms.ensures in
    rw (← c.self.view_is, two) ((λ j. c.from-atoms.ensures j + pairs j) ∙ sym (length-tuples_two c.self.inside.atoms))

pub returns-then-self-eq1-clause-apart : goal.returns-then-self-eq1-clause-apart
returns-then-self-eq1-clause-apart c =
    let inside : Indexed = record { atoms = c.self.inside.atoms; width = c.self.inside.width } in
    subst (λ (i : Indexed). AreApart (all_placed i)) c.self.view_is (all_apart inside c.self.invariant.0 c.self.invariant.1.0 c.self.invariant.1.1)

pub returns-clause-apart : goal.returns-clause-apart
returns-clause-apart c =
    let inside : Indexed = record { atoms = c.self.inside.atoms; width = c.self.inside.width } in
    subst (λ (i : Indexed). AreApart (all_placed i)) c.self.view_is (all_apart inside c.self.invariant.0 c.self.invariant.1.0 c.self.invariant.1.1)
