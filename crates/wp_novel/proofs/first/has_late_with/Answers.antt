use Rattle.std.proofs.Common.{◌≡◌, ◌<◌, List, ℕ, get_or, map, sym, ap, ◌∙◌, arith}
use Rattle.std.specs.List.{list_any}
use Rattle.std.proofs.lemmas.List.{take_all}
use Rattle.wp_tuples.specs.Placing.{HasPlace, place_in}
use Rattle.wp_arrive.specs.FirstArrival.{first}
use Rattle.wp_arrive.specs.Seen.{PassView}
use Rattle.wp_novel.specs.Marks.{is_late}
use Rattle.wp_novel.proofs.WalkLemmas.{with_atom, of_each, late_from, early_from, any_at, none_more}
use Rattle.wp_novel.proofs.first.has_late_with.Goals as goal

pub place_of_pair-requires-clause-pair : goal.place_of_pair-requires-clause-pair
place_of_pair-requires-clause-pair g c κs live =
    of_each (HasPlace (g.P.Places.places c.args.index.now)) (with_atom c.args.q) c.args.atoms.now c.loop-p.p-index c.loop-p-test.true c.requires.tuples

pub look-requires-clause-whole : goal.look-requires-clause-whole
look-requires-clause-whole g c = ap (λ (s : PassView). s.parts) c.loop-p.invariant.same ∙ c.requires.whole

pub look-requires-clause-place : goal.look-requires-clause-place
look-requires-clause-place g c =
    omega (arith, c.place_of_pair.ensures.within, ap (λ (s : PassView). s.table.words) c.loop-p.invariant.same, c.requires.words)

pub returns-then-look-number-clause-late : goal.returns-then-look-number-clause-late
returns-then-look-number-clause-late g c =
    let places = g.P.Places.places c.args.index.now in
    let marks = c.args.shared.now.marks in
    let tuple : List ℕ = with_atom c.args.q (get_or c.args.atoms.now c.loop-p.p-index 0) in
    let at : c.look.result ≡ first marks (place_in places tuple) = c.look.ensures.first
    ∙ (λ j. first (ap (λ (s : PassView). s.marks) c.loop-p.invariant.same j) (c.place_of_pair.ensures.place j)) in
    sym (any_at (is_late places marks c.args.number) (with_atom c.args.q) c.args.atoms.now c.loop-p.p-index c.loop-p-test.true
    (late_from places marks c.args.number c.look.result tuple at c.if-look-number.true))

pub loop-p-preserved : goal.loop-p-preserved
loop-p-preserved g c =
    let places = g.P.Places.places c.args.index.now in
    let marks = c.args.shared.now.marks in
    let tuple : List ℕ = with_atom c.args.q (get_or c.args.atoms.now c.loop-p.p-index 0) in
    let at : c.look.result ≡ first marks (place_in places tuple) = c.look.ensures.first
    ∙ (λ j. first (ap (λ (s : PassView). s.marks) c.loop-p.invariant.same j) (c.place_of_pair.ensures.place j)) in
    let early : c.look.result < c.args.number = omega (arith, c.if-look-number.false) in
    record {
      same = c.look.ensures.same ∙ c.loop-p.invariant.same;
      none = none_more (is_late places marks c.args.number) (with_atom c.args.q) c.args.atoms.now c.loop-p.p-index c.loop-p-test.true c.loop-p.invariant.none
          (early_from places marks c.args.number c.look.result tuple at early);
    }

pub returns-clause-late : goal.returns-clause-late
returns-clause-late g c =
    let late = is_late (g.P.Places.places c.args.index.now) c.args.shared.now.marks c.args.number in
    sym c.loop-p.invariant.none
    ∙ ap (λ (l : List ℕ). list_any late (map (with_atom c.args.q) l)) (take_all c.loop-p.p-index c.args.atoms.now (omega (arith, c.loop-p-test.false)))
