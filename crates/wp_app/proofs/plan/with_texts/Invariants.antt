use Rattle.std.proofs.Common.{◌≡◌, ◌++◌, ℕ, List, drop}
use Rattle.std.specs.List.{flat_map}
use Rattle.wp_app.proofs.plan.with_texts.Given as goal

abbrev pub invariant-loop-more : goal.invariant-loop-more
invariant-loop-more l =
    l.text.items ++ flat_map (λ (text : List ℕ). text) (drop l.more-index l.more-items)
    ≡ l.fn.reply.text ++ flat_map (λ (text : List ℕ). text) l.texts
