use Rattle.std.proofs.Common.{◌==◌, ◌%◌, ap, ◌∙◌}
use Rattle.std.specs.Int.{bit_at}
use Rattle.std.proofs.lemmas.Nat.Bits.{shr_and_one}
use Rattle.wp_lift.specs.Rows.{bit_in}
use Rattle.wp_lift.proofs.flags.is_set.Goals as goal

pub returns : goal.returns
unfolding bit_in
returns c = ap (λ b. b == 1) (shr_and_one c.word_at.result (c.args.place % 64))
    ∙ ap (λ word. bit_at word (c.args.place % 64) == 1) c.word_at.ensures
