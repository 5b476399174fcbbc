use Rattle.std.proofs.Common.{◌≡◌, ◌<◌, ◌+◌, ℕ, Bool, true, List, length, get_or, slice_set, refl, sym, subst, arith}
use Rattle.wp_lift.specs.Typing.{is_flagged}
use Rattle.wp_lift.specs.Rows.{IsReached}
use Rattle.wp_lift.proofs.SearchLemmas.{IsClosing, closing-step, closing-end, order-below, taken-more}
use Rattle.wp_lift.proofs.closure.close.Goals as goal

pub search_from-requires-clause-below : goal.search_from-requires-clause-below
search_from-requires-clause-below c =
    let below = order-below c.args.count c.args.order.now c.loop-a.a-index c.requires.order c.loop-a-test.true in
    rw c.as_slice.ensures.value (omega (arith, c.loop-a.invariant.0.square.count))

pub index_mut-requires : goal.index_mut-requires
index_mut-requires c =
    let below = order-below c.args.count c.args.order.now c.loop-a.a-index c.requires.order c.loop-a-test.true in
    omega (arith, c.loop-a.invariant.0.square.count)

pub loop-a-preserved : goal.loop-a-preserved
loop-a-preserved c =
    let start = c.args.rows.now.items in
    let rows = c.loop-a.rows.items in
    let closed = c.loop-a.closed in
    let order = c.args.order.now in
    let a = get_or order c.loop-a.a-index 0 in
    let row = c.in_ok-rows.field-0 in
    let closing = c.loop-a.invariant.0 in
    let below : a < c.args.count = order-below c.args.count order c.loop-a.a-index c.requires.order c.loop-a-test.true in
    let wide : length row ≡ length rows = rw c.as_slice.ensures.value at c.in_ok-rows.ensures.width in
    let reached : IsReached rows a row = rw c.as_slice.ensures.value at c.in_ok-rows.ensures.reached in
    subst (λ (now : List Bool). IsClosing c.args.count start (slice_set rows a row) now
    × ((k : ℕ) → k < c.loop-a.a-index + 1 → is_flagged now (get_or order k 0) ≡ true)) (sym c.set.ensures) (
      closing-step c.args.count start rows closed a row below wide reached closing,
      taken-more closed order c.loop-a.a-index a (omega (arith, closing.width)) refl c.loop-a.invariant.1,
    )

pub returns : goal.returns
returns c =
    closing-end c.args.count c.args.order.now c.args.rows.now.items c.loop-a.rows.items c.loop-a.closed c.requires.order c.loop-a.invariant.0
    (λ k h. c.loop-a.invariant.1 k (omega arith))
