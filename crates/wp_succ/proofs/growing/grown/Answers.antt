use Rattle.std.proofs.Common.{◌≡◌, ◌&&◌, ℕ, Bool, List, [], cond, map, length, nat_lt, get_or, sym, ap, ◌∙◌, subst}
use Rattle.std.specs.List.{list_all, range_with_len}
use Rattle.std.specs.List.Sorted.{IsPermutation}
use Rattle.std.proofs.lemmas.List.{length-map}
use Rattle.wp_task.specs.declared.acts.Act.{Act}
use Rattle.wp_task.specs.Set.{has}
use Rattle.wp_succ.specs.Tree.{times}
use Rattle.wp_succ.proofs.CountLemmas.{once, times-order}
use Rattle.wp_succ.proofs.growing.grown.Goals as goal

pub returns-clause-whole : goal.returns-clause-whole
returns-clause-whole c = λ s a.
    let acts = c.args.task.now.acts in
    let needs = map (λ (act : Act). act.pre) acts in
    let holds = list_all (has s) (get_or needs a []) in
    let moved : IsPermutation (range_with_len 0 (length acts)) c.as_slice.result.now =
    subst (λ (l : List ℕ). IsPermutation (range_with_len 0 (length acts)) l) (sym c.as_slice.ensures.value) c.in_ok-order.ensures in
    ap (λ l. times l a) (c.in_ok-close_to.ensures.same s)
    ∙ (c.in_ok-add_all.ensures.whole s a
    ∙ (times-order (length acts) c.as_slice.result.now a holds moved
    ∙ ap (λ n. once (nat_lt a n && holds)) (sym (length-map acts (λ (act : Act). act.pre)))))
