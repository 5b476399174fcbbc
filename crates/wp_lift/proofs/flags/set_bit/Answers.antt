use Rattle.std.proofs.Common.{◌≡◌, ◌==◌, ◌*◌, ◌/◌, ◌%◌, ◌^◌, ◌<◌, ap, ◌∙◌, w64, length, get_or, bit_or, arith}
use Rattle.std.specs.Int.{bit_at}
use Rattle.std.proofs.lemmas.Nat.Bits.{bit_at_set_same, bit_at_set_other}
use Rattle.std.proofs.lemmas.List.{get_or_read}
use Rattle.wp_lift.specs.Rows.{bit_in}
use Rattle.wp_lift.proofs.FlagLemmas.{bit_in-set_same, bit_in-set_other, with_bit}
use Rattle.wp_lift.proofs.flags.set_bit.Goals as goal

pub returns-clause-bits : goal.returns-clause-bits
returns-clause-bits c =
    let words = c.args.words.now.items in
    let p = c.args.place in
    let old = c.index_mut.result.now in
    let new = bit_or old (1 * 2 ^ (p % 64) % 2 ^ 64) in
    let place : p % 64 < 64 = omega arith in
    let there : p / 64 < length words = omega arith in
    let read : old ≡ get_or words (p / 64) 0 = get_or_read words (p / 64) old there c.index_mut.ensures.value 0 in
    with_bit _ (bit_in words) p
    (bit_in-set_same words p new there ∙ ap (λ b. b == 1) (bit_at_set_same w64 old (p % 64) place))
    (bit_in-set_other words p new there (λ i within other. bit_at_set_other w64 old (p % 64) place i other ∙ ap (λ w. bit_at w i) read))
