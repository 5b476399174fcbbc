use Rattle.std.proofs.Common.{◌≡◌, ◌∷◌, ℕ, suc, ◌+◌, List, drop, take, sym, ap, ◌∙◌, arith}
use Rattle.std.proofs.lemmas.List.{take_rest}
use Rattle.wp_cert.specs.Format.{pieces}
use Rattle.wp_cert.proofs.WordLemmas.{piece_ends, one_piece}
use Rattle.wp_cert.proofs.words.first_piece.Goals as goal

pub returns-then-bytes-at-clause-value : goal.returns-then-bytes-at-clause-value
returns-then-bytes-at-clause-value c =
    let k = c.loop-at.at in
    let bytes = c.args.bytes.now in
    let next : suc k ≡ k + 1 = omega arith in
    piece_ends c.args.mark bytes k c.loop-at-test.true c.if-bytes-at.true c.loop-at.invariant
    ∙ ap (λ (l : List ℕ). take k bytes ∷ pieces c.args.mark l) (ap (λ (j : ℕ). drop j bytes) next ∙ sym (take_rest bytes (k + 1)))

pub returns-clause-value : goal.returns-clause-value
returns-clause-value c = one_piece c.args.mark c.args.bytes.now (λ j below. c.loop-at.invariant j (omega (arith, below)))

pub returns-clause-alone : goal.returns-clause-alone
returns-clause-alone c = one_piece c.args.mark c.args.bytes.now (λ j below. c.loop-at.invariant j (omega (arith, below)))
