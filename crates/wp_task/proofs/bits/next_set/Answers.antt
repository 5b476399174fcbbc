use Rattle.std.proofs.Common.{◌≡◌, ◌+◌, ◌*◌, ◌/◌, ◌%◌, ◌<◌, ◌≤◌, ℕ, false, get_or, sym, subst, ⊎_elim, arith}
use Rattle.std.proofs.lemmas.Bool.{cases_lt}
use Rattle.wp_task.specs.Packing.{bit_in, IsNextBit, IsLeastBit}
use Rattle.wp_task.proofs.NextLemmas.{next_in_word, next_from_earlier, none_in_word}
use Rattle.wp_task.proofs.OptionLemmas.{IfSome-weaker, IfNone-weaker}
use Rattle.wp_task.proofs.bits.next_set.Goals as goal

pub returns-in-Some-clause-found : goal.returns-in-Some-clause-found
returns-in-Some-clause-found c =
    let words = c.args.words.now in
    let from : c.args.from ≡ 64 * (c.args.from / 64) + c.args.from % 64 = omega arith in
    let least : IsLeastBit (get_or words (c.args.from / 64) 0) (c.args.from % 64) c.in-Some.bit =
    rw c.word_at.ensures at c.in-Some.ensures.found.1 in
    let P : ℕ → Type 0 = λ n. IsNextBit words n (64 * (c.args.from / 64) + c.in-Some.bit) in
    subst P (sym from) (next_in_word words (c.args.from / 64) (c.args.from % 64) c.in-Some.bit c.in-Some.ensures.found.0 least)

pub returns-in-None-clause-found : goal.returns-in-None-clause-found
returns-in-None-clause-found c =
    let words = c.args.words.now in
    IfSome-weaker (IsNextBit words (64 * (c.args.from / 64 + 1))) (IsNextBit words c.args.from)
    (λ p next. next_from_earlier words c.args.from (64 * (c.args.from / 64 + 1)) p (omega arith)
    (λ q late before. none_in_word words (c.args.from / 64) (c.args.from % 64) (rw c.word_at.ensures at c.in-None.ensures.none) q (omega arith) (omega arith)) next)
    c.next_from_word.result c.next_from_word.ensures.found

pub returns-in-None-clause-none : goal.returns-in-None-clause-none
returns-in-None-clause-none c =
    let words = c.args.words.now in
    IfNone-weaker ((q : ℕ) → 64 * (c.args.from / 64 + 1) ≤ q → bit_in words q ≡ false) ((q : ℕ) → c.args.from ≤ q → bit_in words q ≡ false)
    (λ none q late. ⊎_elim
    (λ (here : q < 64 * (c.args.from / 64 + 1)).
    none_in_word words (c.args.from / 64) (c.args.from % 64) (rw c.word_at.ensures at c.in-None.ensures.none) q (omega arith) (omega arith))
    (λ (then : 64 * (c.args.from / 64 + 1) ≤ q). none q then)
    (cases_lt q (64 * (c.args.from / 64 + 1))))
    c.next_from_word.result c.next_from_word.ensures.none
