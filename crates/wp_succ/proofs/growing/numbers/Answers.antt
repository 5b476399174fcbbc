use Rattle.std.proofs.Common.{◌≡◌, ◌++◌, ◌∷◌, [], ap, sym, ◌∙◌, arith}
use Rattle.std.specs.List.{range_with_len}
use Rattle.wp_succ.proofs.CountLemmas.{range-more}
use Rattle.wp_succ.proofs.growing.numbers.Goals as goal

pub loop-n-preserved : goal.loop-n-preserved
loop-n-preserved c =
    c.in_ok-push.ensures.items ∙ (ap (λ l. l ++ c.loop-n.n ∷ []) c.loop-n.invariant ∙ sym (range-more c.loop-n.n))

pub returns : goal.returns
returns c = let all : c.loop-n.n ≡ c.args.count = omega arith in c.loop-n.invariant ∙ ap (range_with_len 0) all
