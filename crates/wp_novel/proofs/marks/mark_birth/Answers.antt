use Rattle.std.proofs.Common.{◌≡◌, ◌<◌, ◌^◌, List, ℕ, sym, ◌∙◌, subst, arith}
use Rattle.std.specs.List.{All}
use Rattle.wp_tuples.specs.Placing.{HasPlace}
use Rattle.wp_novel.specs.NoveltyTables.{counters_of}
use Rattle.wp_novel.specs.MarkedTuples.{old_atoms, tuples_with_new}
use Rattle.wp_novel.proofs.PairLemmas.{same_counters}
use Rattle.wp_novel.proofs.marks.mark_birth.Goals as goal

pub mark_tuples-requires-clause-tuples : goal.mark_tuples-requires-clause-tuples
mark_tuples-requires-clause-tuples g c κs live =
    let places = g.P.Places.places c.args.index.now in
    let b = c.args.birth.now in
    let same : counters_of c.args.pair ≡ b.node.counters = sym (same_counters b.node.counters (counters_of c.args.pair) (sym c.has_pair.ensures ∙ c.if-has_pair.true)) in
    subst (λ (old : List ℕ). All (HasPlace places) (tuples_with_new places.width old c.new_atoms.result.now)) (sym c.old_atoms.ensures)
    (subst (λ (new : List ℕ). All (HasPlace places) (tuples_with_new places.width (old_atoms b) new)) (sym c.new_atoms.ensures) (c.requires.birth same).tuples)

pub mark_tuples-requires-clause-number : goal.mark_tuples-requires-clause-number
mark_tuples-requires-clause-number g c κs live =
    let b = c.args.birth.now in
    let same : counters_of c.args.pair ≡ b.node.counters = sym (same_counters b.node.counters (counters_of c.args.pair) (sym c.has_pair.ensures ∙ c.if-has_pair.true)) in
    let low : b.node.number < 2 ^ 63 = (c.requires.birth same).number in
    omega (arith, c.number.ensures)
