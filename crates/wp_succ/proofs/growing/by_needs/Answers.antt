use Rattle.std.proofs.Common.{ℕ, List, ap, ◌∙◌, subst}
use Rattle.std.specs.List.{range_with_len}
use Rattle.std.specs.List.Sorted.{IsPermutation}
use Rattle.wp_succ.proofs.growing.by_needs.Goals as goal

pub returns : goal.returns
returns c =
    subst (λ (l : List ℕ). IsPermutation l c.sort_by.new.self.items)
    (c.in_ok-order.ensures ∙ ap (range_with_len 0) c.act_count.ensures.value) c.in_ok-sort_by.ensures.permutation
