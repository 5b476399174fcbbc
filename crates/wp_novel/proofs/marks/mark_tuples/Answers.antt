use Rattle.std.proofs.Common.{◌≡◌, ◌==◌, ◌<◌, ◌≤◌, ◌++◌, Bool, true, false, ℕ, List, length, drop, map, sym, ap, ◌∙◌, subst, ⊎_elim, append-nil, eq-eqb, ne_eqb, arith}
use Rattle.std.proofs.lemmas.Bool.{cases_lt, both_ways}
use Rattle.std.specs.List.{All}
use Rattle.wp_tuples.specs.Placing.{HasPlace}
use Rattle.wp_arrive.specs.declared.view.Arrival.{Arrival}
use Rattle.wp_arrive.specs.FirstArrival.{mark}
use Rattle.wp_arrive.specs.Rule.{latest}
use Rattle.wp_arrive.specs.Seen.{PassView, seen}
use Rattle.wp_novel.specs.MarkedTuples.{pairs_after}
use Rattle.wp_novel.specs.Marks.{marks_at}
use Rattle.wp_novel.proofs.PassLemmas.{latest-push}
use Rattle.wp_novel.proofs.WalkLemmas.{single, of_singles, of_pairs, of_first, of_rest, marks_of_singles, marks_of_all, rest_is, no_tuples}
use Rattle.wp_novel.proofs.marks.mark_tuples.Goals as goal

some : (new : List ℕ) (b : Bool) → b ≡ (length new == 0) → b ≡ false → 0 < length new
some new b is other = ⊎_elim
    (λ (h : 0 < length new). h)
    (λ (none : length new ≤ 0). absurd (both_ways (length new == 0) (sym is ∙ other) (eq-eqb (length new) 0 (omega arith))))
    (cases_lt 0 (length new))

pub returns-then-is_empty : goal.returns-then-is_empty
returns-then-is_empty g c =
    let was = c.args.pass.now in
    let places = g.P.Places.places c.args.index.now in
    ap (λ (l : List Arrival). seen was.table l was.parts)
    (sym (append-nil was.marks) ∙ ap (λ (l : List (List ℕ)). was.marks ++ marks_at places c.args.number l)
    (sym (no_tuples places.width c.args.old.now c.args.new.now (sym c.is_empty.ensures ∙ c.if-is_empty.true))))

pub atom_place-requires : goal.atom_place-requires
atom_place-requires g c =
    let places = g.P.Places.places c.args.index.now in
    of_first (HasPlace places) c.args.new.now (some c.args.new.now c.is_empty.result c.is_empty.ensures c.if-is_empty.false)
    (of_singles (HasPlace places) places.width c.args.old.now c.args.new.now c.requires.tuples)

pub mark_atoms-requires-clause-tuples : goal.mark_atoms-requires-clause-tuples
mark_atoms-requires-clause-tuples g c κs live =
    let places = g.P.Places.places c.args.index.now in
    subst (λ (l : List ℕ). All (HasPlace places) (map single l)) (sym (rest_is c.args.new.now))
    (of_rest (HasPlace places) c.args.new.now (of_singles (HasPlace places) places.width c.args.old.now c.args.new.now c.requires.tuples))

pub mark_atoms-requires-clause-latest : goal.mark_atoms-requires-clause-latest
mark_atoms-requires-clause-latest g c κs live = ap (λ (p : PassView). latest p.marks) c.mark.ensures ∙ latest-push c.args.pass.now.marks (mark c.atom_place.result c.args.number)

pub mark_pairs-requires-clause-tuples : goal.mark_pairs-requires-clause-tuples
mark_pairs-requires-clause-tuples g c κs live =
    let places = g.P.Places.places c.args.index.now in
    of_pairs (HasPlace places) places.width c.args.old.now c.args.new.now (eq-eqb places.width 2 (sym c.width.ensures.value ∙ c.if-width-eq2.true)) c.requires.tuples

pub returns-then-width-eq2 : goal.returns-then-width-eq2
returns-then-width-eq2 g c =
    let places = g.P.Places.places c.args.index.now in
    let was = c.args.pass.now in
    let old = c.args.old.now in
    let new = c.args.new.now in
    let number = c.args.number in
    let rest : List Arrival = marks_at places number (map single (drop 1 new)) in
    let pairs : List Arrival = marks_at places number (pairs_after old new) in
    let atoms : c.mark_atoms.new.pass ≡ seen c.mark.new.pass.table (c.mark.new.pass.marks ++ rest) c.mark.new.pass.parts =
    c.mark_atoms.ensures.marked ∙ ap (λ (l : List ℕ). seen c.mark.new.pass.table (c.mark.new.pass.marks ++ marks_at places number (map single l)) c.mark.new.pass.parts) (rest_is new) in
    c.mark_pairs.ensures
    ∙ (ap (λ (p : PassView). seen p.table (p.marks ++ pairs) p.parts) atoms
    ∙ (ap (λ (p : PassView). seen p.table ((p.marks ++ rest) ++ pairs) p.parts) c.mark.ensures
    ∙ ap (λ (l : List Arrival). seen was.table l was.parts)
    (ap (λ (l : List Arrival). l ++ pairs) (marks_of_singles places number was.marks new c.atom_place.result
    (some new c.is_empty.result c.is_empty.ensures c.if-is_empty.false) c.atom_place.ensures.place)
    ∙ marks_of_all places number places.width was.marks old new true (eq-eqb places.width 2 (sym c.width.ensures.value ∙ c.if-width-eq2.true)))))

pub returns-else-width-eq2 : goal.returns-else-width-eq2
returns-else-width-eq2 g c =
    let places = g.P.Places.places c.args.index.now in
    let was = c.args.pass.now in
    let old = c.args.old.now in
    let new = c.args.new.now in
    let number = c.args.number in
    let rest : List Arrival = marks_at places number (map single (drop 1 new)) in
    let alone : List Arrival = was.marks ++ marks_at places number (map single new) in
    let atoms : c.mark_atoms.new.pass ≡ seen c.mark.new.pass.table (c.mark.new.pass.marks ++ rest) c.mark.new.pass.parts =
    c.mark_atoms.ensures.marked ∙ ap (λ (l : List ℕ). seen c.mark.new.pass.table (c.mark.new.pass.marks ++ marks_at places number (map single l)) c.mark.new.pass.parts) (rest_is new) in
    atoms
    ∙ (ap (λ (p : PassView). seen p.table (p.marks ++ rest) p.parts) c.mark.ensures
    ∙ ap (λ (l : List Arrival). seen was.table l was.parts)
    (marks_of_singles places number was.marks new c.atom_place.result (some new c.is_empty.result c.is_empty.ensures c.if-is_empty.false) c.atom_place.ensures.place
    ∙ (sym (append-nil alone)
    ∙ marks_of_all places number places.width was.marks old new false (ne_eqb places.width 2 (λ same. c.if-width-eq2.false (c.width.ensures.value ∙ same))))))
