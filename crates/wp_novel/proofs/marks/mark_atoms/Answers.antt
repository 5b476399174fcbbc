use Rattle.std.proofs.Common.{◌∷◌, ◌++◌, [], ℕ, List, map, ap, ◌∙◌, arith}
use Rattle.std.proofs.lemmas.List.{take_all}
use Rattle.wp_tuples.specs.Placing.{HasPlace}
use Rattle.wp_arrive.specs.declared.view.Arrival.{Arrival}
use Rattle.wp_arrive.specs.FirstArrival.{mark}
use Rattle.wp_arrive.specs.Rule.{latest}
use Rattle.wp_arrive.specs.Seen.{PassView, seen}
use Rattle.wp_novel.specs.Marks.{marks_at}
use Rattle.wp_novel.proofs.PassLemmas.{latest-push}
use Rattle.wp_novel.proofs.WalkLemmas.{single, of_each, marks_more}
use Rattle.wp_novel.proofs.marks.mark_atoms.Goals as goal

pub atom_place-requires : goal.atom_place-requires
atom_place-requires g c =
    of_each (HasPlace (g.P.Places.places c.args.index.now)) (single) c.args.atoms.now c.loop-p.p-index c.loop-p-test.true c.requires.tuples

pub mark_again-requires-clause-table : goal.mark_again-requires-clause-table
mark_again-requires-clause-table g c = ap (λ (p : PassView). p.table) c.loop-p.invariant.pass ∙ c.requires.table

pub mark_again-requires-clause-part : goal.mark_again-requires-clause-part
mark_again-requires-clause-part g c = omega (arith, ap (λ (p : PassView). p.parts) c.loop-p.invariant.pass, c.requires.part)

pub mark_again-requires-clause-latest : goal.mark_again-requires-clause-latest
mark_again-requires-clause-latest g c = c.loop-p.invariant.latest_is

pub loop-p-preserved : goal.loop-p-preserved
loop-p-preserved g c =
    let was = c.args.pass.now in
    let here : Arrival = mark c.atom_place.result c.args.number in
    record {
      pass = c.mark_again.ensures
          ∙ (ap (λ (p : PassView). seen p.table (p.marks ++ here ∷ []) p.parts) c.loop-p.invariant.pass
          ∙ ap (λ (l : List Arrival). seen was.table l was.parts)
          (marks_more (g.P.Places.places c.args.index.now) c.args.number (single) was.marks c.args.atoms.now c.loop-p.p-index c.atom_place.result c.loop-p-test.true
          c.atom_place.ensures.place));
      latest_is = ap (λ (p : PassView). latest p.marks) c.mark_again.ensures ∙ latest-push c.loop-p.pass.marks here;
    }

pub returns-clause-marked : goal.returns-clause-marked
returns-clause-marked g c =
    let was = c.args.pass.now in
    c.loop-p.invariant.pass
    ∙ ap (λ (l : List ℕ). seen was.table (was.marks ++ marks_at (g.P.Places.places c.args.index.now) c.args.number (map (single) l)) was.parts)
    (take_all c.loop-p.p-index c.args.atoms.now (omega (arith, c.loop-p-test.false)))

pub returns-clause-latest : goal.returns-clause-latest
returns-clause-latest g c = c.loop-p.invariant.latest_is
