use Rattle.std.proofs.Common.{◌≡◌, ◌<◌, [], Bool, List, length, get_or, ap, ◌∙◌, arith}
use Rattle.std.proofs.lemmas.List.{get_or_default}
use Rattle.wp_mutex.specs.PairPlaces.{count_below}
use Rattle.wp_mutex.proofs.PlaceLemmas.{pairs_before_few, pairs_before_more, starts_more}
use Rattle.wp_mutex.proofs.index.push_rows.Goals as goal

pub push_row-requires-clause-few : goal.push_row-requires-clause-few
push_row-requires-clause-few c =
    omega (
      arith,
      c.loop-q.invariant.next,
      c.requires.few,
      pairs_before_few c.args.rows.now c.loop-q.q (omega (arith, c.requires.few, c.loop-q-test.true)),
    )

pub loop-q-preserved : goal.loop-q-preserved
loop-q-preserved c =
    let rows = c.args.rows.now in
    let q = c.loop-q.q in
    let inside : q < length rows = omega (arith, c.loop-q-test.true, c.requires.few) in
    let is : c.index-rows-q.result ≡ get_or rows q [] = c.index-rows-q.is ∙ get_or_default rows q c.index-rows-q.result [] inside in
    let row : count_below c.index-rows-q.result q ≡ count_below (get_or rows q []) q = ap (λ (r : List Bool). count_below r q) is in
    record {
      next = omega (arith, c.in_ok-next.ensures.next, c.loop-q.invariant.next, pairs_before_more rows q, row);
      starts = starts_more rows c.args.stride c.loop-q.starts.items c.push_row.new.starts.items q c.loop-q.next c.index-rows-q.result
          c.loop-q.invariant.starts is c.loop-q.invariant.next c.in_ok-next.ensures.starts;
    }
