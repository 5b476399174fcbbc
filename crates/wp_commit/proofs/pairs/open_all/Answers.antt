use Rattle.std.proofs.Common.{arith, ◌≡◌, ◌+◌, ◌*◌, ◌++◌, [], ◌∷◌, ℕ, List, length, map, sym, ap, ◌∙◌, subst, append_assoc}
use Rattle.std.specs.Vec.Iter.{into_iter_items}
use Rattle.std.proofs.lemmas.List.{length_push}
use Rattle.wp_novel.specs.declared.birth.Pair.{Pair}
use Rattle.wp_novel.specs.NoveltyTables.{placed, counters_of, open_pairs}
use Rattle.wp_commit.specs.Newborns.{AreUnopened}
use Rattle.wp_commit.proofs.pairs.open_all.Goals as goal

pub open-requires-clause-unopened : goal.open-requires-clause-unopened
open-requires-clause-unopened g c κs bounds =
    (subst (λ (ps : List Pair). AreUnopened (open_pairs (placed g.P.Places.places c.loop-pair.tables)) (map counters_of ps)) c.in-Some.ensures.steps.0 c.loop-pair.invariant.unopened).0

pub loop-pair-preserved : goal.loop-pair-preserved
loop-pair-preserved g c =
    let was = placed g.P.Places.places c.loop-pair.tables in
    let now = placed g.P.Places.places c.open.new.tables in
    let rest = into_iter_items c.next.new.self in
    let held = c.loop-pair.invariant in
    let here = c.in-Some.ensures.steps.0 in
    let opened = c.in_ok-open.ensures.pairs in
    let count : length (open_pairs now) + length rest ≡ length (open_pairs was) + length (into_iter_items c.loop-pair.pair-iterator) =
    omega (arith, ap (λ (ps : List (ℕ × ℕ)). length ps) opened ∙ length_push (open_pairs was) (counters_of c.in-Some.pair), ap (λ (xs : List Pair). length xs) here) in
    let words : (length (open_pairs now) + length rest) * now.index.len
    ≡ (length (open_pairs was) + length (into_iter_items c.loop-pair.pair-iterator)) * was.index.len =
    λ j. count j * (c.in_ok-open.ensures.index j).len in record {
      unopened = subst (λ (ps : List (ℕ × ℕ)). AreUnopened ps (map counters_of rest)) (sym opened)
          (subst (λ (ps : List Pair). AreUnopened (open_pairs was) (map counters_of ps)) here held.unopened).1;
      within = omega (arith, c.in_ok-open.ensures.limit);
      home = c.in_ok-open.ensures.home;
      pairs = ap (λ (ps : List (ℕ × ℕ)). ps ++ map counters_of rest) opened
          ∙ (append_assoc (open_pairs was) (counters_of c.in-Some.pair ∷ []) (map counters_of rest)
          ∙ (ap (λ (xs : List Pair). open_pairs was ++ map counters_of xs) (sym here) ∙ held.pairs));
      index = c.in_ok-open.ensures.index ∙ held.index;
      limit = c.in_ok-open.ensures.limit ∙ held.limit;
      last = c.in_ok-open.ensures.last ∙ held.last;
      stands = λ births stands. c.in_ok-open.ensures.stands births (held.stands births stands);
    }
