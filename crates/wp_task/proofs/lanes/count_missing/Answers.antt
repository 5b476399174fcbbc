use Rattle.std.proofs.Common.{◌*◌, ◌^◌, ◌<◌, ℕ, get_or, arith}
use Rattle.wp_task.proofs.MissingLemmas.{more_missing, four_more_missing, missing_few, missing_in-few}
use Rattle.wp_task.proofs.lanes.count_missing.Goals as goal

pub overflow_add-count : goal.overflow_add-count
overflow_add-count c =
    let fit : (i : ℕ) → get_or c.args.words.now i 0 < 2 ^ 64 = λ i. (c.type_inv.words i).fits in
    let few = missing_few c.args.words.now c.args.wanted.now fit (64 * (4 * c.loop-i.i)) in
    omega (arith, few, c.loop-i.invariant, c.missing_in_four-count.ensures.few, c.as_chunks.ensures.front_len, c.loop-i-test.true, c.requires.few)

pub loop-i-preserved : goal.loop-i-preserved
loop-i-preserved c =
    let fit : (k : ℕ) → get_or c.args.words.now k 0 < 2 ^ 64 = λ k. (c.type_inv.words k).fits in
    let more = four_more_missing c.args.words.now c.args.wanted.now fit c.as_chunks.result.0.now c.as_chunks-2.result.0.now c.loop-i.i
    c.as_chunks.ensures.front c.as_chunks-2.ensures.front c.requires.len (omega (arith, c.as_chunks.ensures.front_len, c.loop-i-test.true)) in
    omega (arith, more, c.loop-i.invariant, c.missing_in_four-count.ensures.value)

pub overflow_add-count-in-loop-k : goal.overflow_add-count-in-loop-k
overflow_add-count-in-loop-k c =
    let fit : (i : ℕ) → get_or c.args.words.now i 0 < 2 ^ 64 = λ i. (c.type_inv.words i).fits in
    let few = missing_few c.args.words.now c.args.wanted.now fit (64 * c.loop-k.k) in
    let one = missing_in-few (get_or c.args.words.now c.loop-k.k 0) (get_or c.args.wanted.now c.loop-k.k 0) in
    omega (arith, few, one, c.loop-k.invariant, c.from-count.ensures, c.loop-k-test.true, c.requires.few)

pub loop-k-preserved : goal.loop-k-preserved
loop-k-preserved c =
    let fit : (i : ℕ) → get_or c.args.words.now i 0 < 2 ^ 64 = λ i. (c.type_inv.words i).fits in
    let more = more_missing c.args.words.now c.args.wanted.now fit c.loop-k.k in
    omega (arith, more, c.loop-k.invariant, c.from-count.ensures)
