use Rattle.std.proofs.Common.{◌≡◌, ◌*◌, ◌/◌, [], take, drop, length, get_or, nat_eq, sym, ap, ◌∙◌, arith}
use Rattle.std.specs.Cmp.Lexicographic.{pointwise}
use Rattle.wp_task.proofs.LaneLemmas.{four_at, more_equal, rest_decides}
use Rattle.wp_task.proofs.lanes.equal.Goals as goal

pub loop-i-preserved : goal.loop-i-preserved
loop-i-preserved c =
    let words = c.args.words.now in
    let others = c.args.others.now in
    let i = c.loop-i.i in
    let four : get_or c.as_chunks.result.0.now i [] ≡ take 4 (drop (4 * i) words) =
    ap (λ l. get_or l i []) c.as_chunks.ensures.front ∙ four_at (length words / 4) i words [] (omega (arith, c.as_chunks.ensures.front_len, c.loop-i-test.true)) in
    let other_four : get_or c.as_chunks-2.result.0.now i [] ≡ take 4 (drop (4 * i) others) =
    ap (λ l. get_or l i []) c.as_chunks-2.ensures.front ∙ four_at (length others / 4) i others [] (omega (arith, c.as_chunks.ensures.front_len, c.loop-i-test.true, c.requires)) in
    more_equal words others i c.loop-i.invariant
    ((λ j. pointwise nat_eq (sym four j) (sym other_four j)) ∙ (sym c.equal_four.ensures ∙ c.if-not-equal_four.false))

pub returns : goal.returns
returns c =
    let words = c.args.words.now in
    let others = c.args.others.now in
    let end : 4 * c.loop-i.i ≡ length words / 4 * 4 = omega (arith, c.as_chunks.ensures.front_len, c.loop-i-test.false, c.loop-i.auto.i-end) in
    let front : take (length words / 4 * 4) words ≡ take (length words / 4 * 4) others =
    ap (λ n. take n words) (sym end) ∙ (c.loop-i.invariant ∙ ap (λ n. take n others) end) in
    c.eq.ensures
    ∙ ((λ j. pointwise nat_eq (c.as_chunks.ensures.back j) (c.as_chunks-2.ensures.back j))
    ∙ rest_decides words others (length words / 4 * 4) (length others / 4 * 4) (omega (arith, c.requires)) front)
