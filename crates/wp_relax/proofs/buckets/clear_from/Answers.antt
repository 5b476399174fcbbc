use Rattle.std.proofs.Common.{ℕ, List, [], length, replicate, sym, ◌∙◌, arith}
use Rattle.std.proofs.lemmas.List.{length-replicate, get_or-replicate, ext_get_or}
use Rattle.wp_relax.proofs.buckets.clear_from.Goals as goal

pub returns : goal.returns
returns c =
    let now = c.loop-i.buckets.items in
    let count = length c.args.buckets.now.items in
    ext_get_or [] now (replicate count [])
    (c.loop-i.invariant.len ∙ sym (length-replicate {A = List ℕ} count []))
    (λ j within. c.loop-i.invariant.empty j (omega (arith, c.loop-i-test.false, c.len-i-end.ensures, c.loop-i.invariant.len))
    ∙ sym (get_or-replicate {A = List ℕ} count j [] [] (omega (arith, c.loop-i.invariant.len))))
