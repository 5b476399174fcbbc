use Rattle.std.proofs.Common.{◌≡◌, ◌*◌, ◌+◌, sym, ap, ◌∙◌, arith, rules, ℕ}
use Rattle.wp_plain.specs.Pairs.{tuple_count}
use Rattle.wp_plain.proofs.TupleLemmas.{ones, twos, half}
use Rattle.wp_plain.proofs.pairs.tuple_count.Goals as goal

pub returns-then-width-eq1-clause-value : goal.returns-then-width-eq1-clause-value
returns-then-width-eq1-clause-value c =
    let same : c.from-atoms.result ≡ c.args.atoms = search rules in
    same ∙ (sym (ones c.args.atoms) ∙ ap (λ (w : ℕ). tuple_count w c.args.atoms) (sym c.if-width-eq1.true))

pub returns-else-width-eq1-clause-value : goal.returns-else-width-eq1-clause-value
returns-else-width-eq1-clause-value c =
    let same : c.from-atoms.result ≡ c.args.atoms = search rules in
    let two : c.args.width ≡ 2 = omega (arith, c.if-width-eq1.false) in
    half (tuple_count 2 c.from-atoms.result) (c.from-atoms.result * c.from-atoms.result + c.from-atoms.result) (twos c.from-atoms.result)
    ∙ (λ j. tuple_count (sym two j) (same j))
