use Rattle.std.proofs.Common.{◌≡◌, ◌*◌, ◌-◌, ◌/◌, ◌%◌, ◌^◌, ◌<◌, ◌≤◌, get_or, bit_and, ap, ◌∙◌, arith}
use Rattle.std.specs.Int.RustNames.{count_ones}
use Rattle.std.proofs.Math.Nat.{mod-eq_of_lt}
use Rattle.std.proofs.Math.Pow.{pow-lt}
use Rattle.std.proofs.lemmas.Nat.{and_mask}
use Rattle.wp_task.proofs.MissingLemmas.{ones_below}
use Rattle.wp_task.proofs.bits.count_in_word.Goals as goal

pub returns : goal.returns
returns c =
    let w = c.args.p % 64 in
    let few : w < 64 = omega arith in
    let once : 1 * 2 ^ w ≡ 2 ^ w = omega arith in
    let fits : 1 * 2 ^ w % 2 ^ 64 ≡ 2 ^ w = ap (λ k. k % 2 ^ 64) once ∙ mod-eq_of_lt (pow-lt few) in
    ap (λ m. count_ones (bit_and c.word_at.result (m - 1))) fits
    ∙ (ap count_ones (and_mask c.word_at.result w)
    ∙ (ap (λ word. count_ones (word % 2 ^ w)) c.word_at.ensures
    ∙ ones_below c.args.words.now (c.args.p / 64) w (omega arith)))
