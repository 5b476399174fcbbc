use Rattle.std.proofs.Common.{◌+◌, ◌*◌, ◌<◌, ◌++◌, ◌∷◌, [], ℕ, List, map, sym, ap, ◌∙◌, append_assoc, arith}
use Rattle.std.specs.Int.{from_bool}
use Rattle.std.specs.List.{range_with_len}
use Rattle.std.proofs.lemmas.List.FromFn.{map-range_with_len_more}
use Rattle.wp_mutex.specs.PairPlaces.{count_below}
use Rattle.wp_mutex.proofs.PlaceLemmas.{count_below_few, row_counted}
use Rattle.wp_mutex.proofs.index.push_row.Goals as goal

pub overflow_add-next : goal.overflow_add-next
overflow_add-next c =
    omega (
      arith,
      c.loop-k.invariant.next,
      c.word_count-next.ensures.few,
      count_below_few c.args.row.now (64 * c.loop-k.k),
      c.requires.few,
      c.requires.words.1,
      c.loop-k-test.true,
    )

pub loop-k-preserved : goal.loop-k-preserved
loop-k-preserved c =
    let first = c.args.first in
    let row = c.args.row.now in
    let k = c.loop-k.k in
    let f : ℕ → ℕ = λ i. first + count_below row (64 * i) in
    record {
      next = omega (arith, c.loop-k.invariant.next, c.word_count-next.ensures.value);
      starts = c.in_ok-push.ensures.items
          ∙ ((λ j. c.loop-k.invariant.starts j ++ c.loop-k.invariant.next j ∷ [])
          ∙ (append_assoc c.args.starts.now.items (map f (range_with_len 0 k)) (f k ∷ [])
          ∙ ap (λ (l : List ℕ). c.args.starts.now.items ++ l) (sym (map-range_with_len_more f 0 k k (omega arith)))));
    }

pub overflow_sub-result : goal.overflow_sub-result
overflow_sub-result c =
    let within : c.args.q < 64 * c.loop-k.k = omega (arith, c.requires.words.0, c.requires.words.1, c.loop-k-test.false) in
    (row_counted c.args.row.now c.args.q (64 * c.loop-k.k) c.loop-k.next c.args.first c.from.result c.requires.row within
    c.loop-k.invariant.next (c.from.ensures ∙ ap from_bool c.has.ensures)).0

pub returns-clause-next : goal.returns-clause-next
returns-clause-next c =
    let within : c.args.q < 64 * c.loop-k.k = omega (arith, c.requires.words.0, c.requires.words.1, c.loop-k-test.false) in
    (row_counted c.args.row.now c.args.q (64 * c.loop-k.k) c.loop-k.next c.args.first c.from.result c.requires.row within
    c.loop-k.invariant.next (c.from.ensures ∙ ap from_bool c.has.ensures)).1
