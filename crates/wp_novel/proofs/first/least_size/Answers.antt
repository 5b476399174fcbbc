use Rattle.std.proofs.Common.{sym, ◌∙◌, eq-eqb}
use Rattle.wp_tuples.specs.Placing.{HasPlace}
use Rattle.wp_novel.proofs.WalkLemmas.{of_singles, of_pairs}
use Rattle.wp_novel.proofs.first.least_size.Goals as goal

pub has_late_atom-requires-clause-tuples : goal.has_late_atom-requires-clause-tuples
has_late_atom-requires-clause-tuples g c κs live =
    let places = g.P.Places.places c.args.index.now in
    of_singles (HasPlace places) places.width c.args.old.now c.args.new.now c.requires.tuples

pub has_late_pair-requires-clause-tuples : goal.has_late_pair-requires-clause-tuples
has_late_pair-requires-clause-tuples g c κs live =
    let places = g.P.Places.places c.args.index.now in
    of_pairs (HasPlace places) places.width c.args.old.now c.args.new.now (eq-eqb places.width 2 (sym c.width-width.ensures.value ∙ c.if-width-eq2.true)) c.requires.tuples
