use Rattle.std.proofs.Common.{◌+◌, ◌++◌, ◌∷◌, [], false, ℕ, replicate, sym, ◌∙◌, arith}
use Rattle.std.proofs.lemmas.List.FromFn.{map-range_with_len_more}
use Rattle.wp_mutex.proofs.triangle.no_pairs.Goals as goal

pub loop-q-preserved : goal.loop-q-preserved
loop-q-preserved c =
    c.in_ok-push.ensures.items
    ∙ ((λ j. c.loop-q.invariant j ++ c.in_ok-row.ensures j ∷ [])
    ∙ sym (map-range_with_len_more (λ (q : ℕ). replicate (q + 1) false) 0 c.loop-q.q c.loop-q.q (omega arith)))
