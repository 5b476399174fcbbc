use Rattle.std.proofs.Common.{◌≡◌, ℕ, List, length, sym, ap, ◌∙◌, arith}
use Rattle.wp_arrive.specs.declared.rule.Origin.{Origin}
use Rattle.wp_arrive.proofs.arrivals.Arrivals.grown.Goals as goal

pub invariant_of-result : goal.invariant_of-result
invariant_of-result c =
    let e = c.in_ok-table.ensures in
    let size : c.in_ok-table.table.shared.table_id.words ≡ c.args.words =
    e.0 ∙ (ap (λ (l : List ℕ). length l) c.as_slice.ensures.value ∙ c.in_ok-first.ensures.firsts.size) in
    (ap (λ (o : Origin). o.words) e.5 ∙ sym size, omega (arith, c.in_ok-first.ensures.some, c.requires.words.0, size), omega (arith, c.requires.words.1, size))
