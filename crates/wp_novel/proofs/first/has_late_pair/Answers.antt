use Rattle.std.proofs.Common.{◌≡◌, true, false, List, ℕ, get_or, map, take, sym, ap, ◌∙◌, arith}
use Rattle.std.specs.List.{list_any}
use Rattle.std.proofs.lemmas.List.{take_all}
use Rattle.wp_tuples.specs.Placing.{HasPlace}
use Rattle.wp_arrive.specs.Seen.{PassView}
use Rattle.wp_novel.specs.MarkedTuples.{pairs_after}
use Rattle.wp_novel.specs.Marks.{is_late}
use Rattle.wp_novel.proofs.WalkLemmas.{with_atom, at_old, at_new, any_old, any_new, none_of_atom}
use Rattle.wp_novel.proofs.first.has_late_pair.Goals as goal

pub has_late_with-requires-clause-tuples : goal.has_late_with-requires-clause-tuples
has_late_with-requires-clause-tuples g c κs live =
    at_old (HasPlace (g.P.Places.places c.args.index.now)) c.args.old.now c.args.new.now c.loop-place.place c.loop-place-test.true c.requires.tuples

pub has_late_with-requires-in-loop-place-clause-tuples : goal.has_late_with-requires-in-loop-place-clause-tuples
has_late_with-requires-in-loop-place-clause-tuples g c κs live =
    at_new (HasPlace (g.P.Places.places c.args.index.now)) c.args.old.now c.args.new.now c.loop-place.place c.loop-place-test.true c.requires.tuples

pub returns-then-has_late_with-clause-late : goal.returns-then-has_late_with-clause-late
returns-then-has_late_with-clause-late g c =
    let late = is_late (g.P.Places.places c.args.index.now) c.args.shared.now.marks c.args.number in
    let old = c.args.old.now in
    let new = c.args.new.now in
    let k = c.loop-place.place in
    let some : list_any late (map (with_atom (get_or new k 0)) old) ≡ true =
    ap (λ (s : PassView). list_any (is_late (g.P.Places.places c.args.index.now) s.marks c.args.number) (map (with_atom (get_or new k 0)) old)) (sym c.loop-place.invariant.same)
    ∙ (sym c.has_late_with.ensures.late ∙ c.if-has_late_with.true) in
    sym (any_old late old new k c.loop-place-test.true some)

pub returns-then-has_late_with-2-clause-late : goal.returns-then-has_late_with-2-clause-late
returns-then-has_late_with-2-clause-late g c =
    let late = is_late (g.P.Places.places c.args.index.now) c.args.shared.now.marks c.args.number in
    let old = c.args.old.now in
    let new = c.args.new.now in
    let k = c.loop-place.place in
    let same = c.has_late_with.ensures.same ∙ c.loop-place.invariant.same in
    let some : list_any late (map (with_atom (get_or new k 0)) (take k new)) ≡ true =
    ap (λ (s : PassView). list_any (is_late (g.P.Places.places c.args.index.now) s.marks c.args.number) (map (with_atom (get_or new k 0)) (take k new))) (sym same)
    ∙ (sym c.has_late_with-in-loop-place.ensures.late ∙ c.if-has_late_with-2.true) in
    sym (any_new late old new k c.loop-place-test.true some)

pub loop-place-preserved : goal.loop-place-preserved
loop-place-preserved g c =
    let late = is_late (g.P.Places.places c.args.index.now) c.args.shared.now.marks c.args.number in
    let old = c.args.old.now in
    let new = c.args.new.now in
    let k = c.loop-place.place in
    let first_same = c.loop-place.invariant.same in
    let same = c.has_late_with.ensures.same ∙ first_same in
    let one : list_any late (map (with_atom (get_or new k 0)) old) ≡ false =
    ap (λ (s : PassView). list_any (is_late (g.P.Places.places c.args.index.now) s.marks c.args.number) (map (with_atom (get_or new k 0)) old)) (sym first_same)
    ∙ (sym c.has_late_with.ensures.late ∙ c.if-has_late_with.false) in
    let other : list_any late (map (with_atom (get_or new k 0)) (take k new)) ≡ false =
    ap (λ (s : PassView). list_any (is_late (g.P.Places.places c.args.index.now) s.marks c.args.number) (map (with_atom (get_or new k 0)) (take k new))) (sym same)
    ∙ (sym c.has_late_with-in-loop-place.ensures.late ∙ c.if-has_late_with-2.false) in
    record {
      same = c.has_late_with-in-loop-place.ensures.same ∙ same;
      none = none_of_atom late old new k c.loop-place-test.true c.loop-place.invariant.none one other;
    }

pub returns-clause-late : goal.returns-clause-late
returns-clause-late g c =
    let late = is_late (g.P.Places.places c.args.index.now) c.args.shared.now.marks c.args.number in
    sym c.loop-place.invariant.none
    ∙ ap (λ (l : List ℕ). list_any late (pairs_after c.args.old.now l)) (take_all c.loop-place.place c.args.new.now (omega (arith, c.loop-place-test.false)))
