use Rattle.std.proofs.Common.{◌∙◌, ℕ, List, Some, map, ap, sym, Bor}
use Rattle.wp_words.proofs.KindLemmas.{kinds_in-begins, kinds_in-ends, kinds_in-goes_on, kinds_in-stops}
use Rattle.wp_words.proofs.kinds.kinds_in.Goals as goal

-- src/kinds.rt:17:5
pub loop-name-init : goal.loop-name-init
loop-name-init c =
    kinds_in-begins _ _ c.args.text.now c.new-kinds.ensures.items
    (ap (map (λ (name : Bor (List ℕ)). name.now)) c.deref-name-items.ensures.value ∙ c.in_ok-names.ensures)

-- src/kinds.rt:19:13
pub returns-in_default-clause-usage : goal.returns-in_default-clause-usage
returns-in_default-clause-usage c =
    λ _. kinds_in-stops _ _ c.deref-name-items.result.now _ c.args.text.now c.loop-name-test.true c.loop-name.invariant c.in_default.ensures

-- src/kinds.rt:17:5
pub loop-name-preserved : goal.loop-name-preserved
loop-name-preserved c =
    kinds_in-goes_on _ _ _ _ c.deref-name-items.result.now _ c.args.text.now c.loop-name-test.true c.loop-name.invariant
    c.in-Some.ensures c.in_ok-put_kind.ensures

-- src/kinds.rt:11:1
pub returns-clause-ok : goal.returns-clause-ok
returns-clause-ok c =
    kinds_in-ends _ _ c.deref-name-items.result.now c.args.text.now c.loop-name-test.false c.loop-name.invariant
    ∙ ap Some (sym c.of_vec.ensures)
