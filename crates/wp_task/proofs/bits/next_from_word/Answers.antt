use Rattle.std.proofs.Common.{◌+◌, ◌*◌, ◌<◌, ◌≤◌, ⊎_elim, arith}
use Rattle.std.proofs.lemmas.Bool.{cases_lt}
use Rattle.wp_task.specs.Packing.{IsNextBit}
use Rattle.wp_task.proofs.NextLemmas.{next_in_word, next_from_earlier, none_in_word, none_past}
use Rattle.wp_task.proofs.bits.next_from_word.Goals as goal

pub returns-in-Some-clause-found : goal.returns-in-Some-clause-found
returns-in-Some-clause-found c =
    let words = c.args.words.now in
    let here : IsNextBit words (64 * c.loop-at.at + 0) (64 * c.loop-at.at + c.in-Some.bit) =
    next_in_word words c.loop-at.at 0 c.in-Some.bit c.in-Some.ensures.found.0 c.in-Some.ensures.found.1 in
    next_from_earlier words (64 * c.args.place) (64 * c.loop-at.at + 0) (64 * c.loop-at.at + c.in-Some.bit) (omega arith)
    (λ q late before. c.loop-at.invariant q late (omega arith)) here

pub loop-at-preserved : goal.loop-at-preserved
loop-at-preserved c = λ q late before. ⊎_elim
    (λ (earlier : q < 64 * c.loop-at.at). c.loop-at.invariant q late earlier)
    (λ (here : 64 * c.loop-at.at ≤ q). none_in_word c.args.words.now c.loop-at.at 0 c.in_default.ensures.none q (omega arith) (omega arith))
    (cases_lt q (64 * c.loop-at.at))

pub returns-clause-none : goal.returns-clause-none
returns-clause-none c = λ q late. ⊎_elim
    (λ (earlier : q < 64 * c.loop-at.at). c.loop-at.invariant q late earlier)
    (λ (past : 64 * c.loop-at.at ≤ q). none_past c.args.words.now q (omega arith))
    (cases_lt q (64 * c.loop-at.at))
