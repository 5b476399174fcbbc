use Rattle.std.proofs.Common.{◌++◌, ℕ, List, get_or, map, take, sym, ap, ◌∙◌, append-nil, arith}
use Rattle.std.proofs.lemmas.List.{take_all}
use Rattle.wp_tuples.specs.Placing.{HasPlace}
use Rattle.wp_arrive.specs.declared.view.Arrival.{Arrival}
use Rattle.wp_arrive.specs.Seen.{PassView, seen}
use Rattle.wp_novel.specs.MarkedTuples.{pairs_after}
use Rattle.wp_novel.specs.Marks.{marks_at}
use Rattle.wp_novel.proofs.WalkLemmas.{with_atom, at_old, at_new, marks_of_atom}
use Rattle.wp_novel.proofs.marks.mark_pairs.Goals as goal

pub loop-place-init : goal.loop-place-init
loop-place-init g c = record {
  pass = ap (λ (l : List Arrival). seen c.args.pass.now.table l c.args.pass.now.parts) (sym (append-nil c.args.pass.now.marks));
  latest_is = c.requires.latest;
}

pub mark_with-requires-clause-tuples : goal.mark_with-requires-clause-tuples
mark_with-requires-clause-tuples g c κs live =
    at_old (HasPlace (g.P.Places.places c.args.index.now)) c.args.old.now c.args.new.now c.loop-place.place c.loop-place-test.true c.requires.tuples

pub mark_with-requires-in-loop-place-clause-tuples : goal.mark_with-requires-in-loop-place-clause-tuples
mark_with-requires-in-loop-place-clause-tuples g c κs live =
    at_new (HasPlace (g.P.Places.places c.args.index.now)) c.args.old.now c.args.new.now c.loop-place.place c.loop-place-test.true c.requires.tuples

pub loop-place-preserved : goal.loop-place-preserved
loop-place-preserved g c =
    let places = g.P.Places.places c.args.index.now in
    let was = c.args.pass.now in
    let new = c.args.new.now in
    let k = c.loop-place.place in
    let olds : List Arrival = marks_at places c.args.number (map (with_atom (get_or new k 0)) c.args.old.now) in
    let news : List Arrival = marks_at places c.args.number (map (with_atom (get_or new k 0)) (take k new)) in
    record {
      pass = c.mark_with-in-loop-place.ensures.marked
          ∙ (ap (λ (p : PassView). seen p.table (p.marks ++ news) p.parts) c.mark_with.ensures.marked
          ∙ (ap (λ (p : PassView). seen p.table ((p.marks ++ olds) ++ news) p.parts) c.loop-place.invariant.pass
          ∙ ap (λ (l : List Arrival). seen was.table l was.parts) (marks_of_atom places c.args.number was.marks c.args.old.now new k c.loop-place-test.true)));
      latest_is = c.mark_with-in-loop-place.ensures.latest;
    }

pub returns : goal.returns
returns g c =
    let was = c.args.pass.now in
    c.loop-place.invariant.pass
    ∙ ap (λ (l : List ℕ). seen was.table (was.marks ++ marks_at (g.P.Places.places c.args.index.now) c.args.number (pairs_after c.args.old.now l)) was.parts)
    (take_all c.loop-place.place c.args.new.now (omega (arith, c.loop-place-test.false)))
