use Rattle.std.proofs.Common.{◌≡◌, ◌++◌, ◌∷◌, [], ◌<◌, ℕ, cond, length, sym, ap, ◌∙◌, subst, arith}
use Rattle.std.specs.List.{All, filter, range_with_len}
use Rattle.std.proofs.lemmas.List.Elements.{All-filter}
use Rattle.wp_task.specs.Task.{act_at, applies, applicable_in}
use Rattle.wp_task.proofs.AddersLemmas.{filter-range_more}
use Rattle.wp_task.proofs.TaskLemmas.{range_below}
use Rattle.wp_succ.proofs.plain.PlainSuccessors.list.Goals as goal

pub loop-a-preserved : goal.loop-a-preserved
loop-a-preserved c =
    c.in_ok-push_if.ensures
    ∙ ((λ j. c.loop-a.invariant j ++ cond (c.applies.ensures j) (c.loop-a.a ∷ []) [])
    ∙ sym (filter-range_more (λ a. applies (act_at c.args.task.now.acts a) c.args.s.now) c.loop-a.a))

pub returns-clause-value : goal.returns-clause-value
returns-clause-value c =
    let all : c.loop-a.a ≡ length c.args.task.now.acts = omega (arith, c.act_count-a-end.ensures.value) in
    c.of_vec.ensures ∙ (c.loop-a.invariant
    ∙ ap (λ (n : ℕ). filter (λ a. applies (act_at c.args.task.now.acts a) c.args.s.now) (range_with_len 0 n)) all)

pub returns-clause-numbers : goal.returns-clause-numbers
returns-clause-numbers c =
    let acts = c.args.task.now.acts in
    let all : c.loop-a.a ≡ length acts = omega (arith, c.act_count-a-end.ensures.value) in
    let is : c.of_vec.result ≡ applicable_in acts c.args.s.now =
    c.of_vec.ensures ∙ (c.loop-a.invariant
    ∙ ap (λ (n : ℕ). filter (λ a. applies (act_at acts a) c.args.s.now) (range_with_len 0 n)) all) in
    subst (All (λ a. a < length acts)) (sym is)
    (All-filter (λ a. applies (act_at acts a) c.args.s.now) (λ a. a < length acts) (range_with_len 0 (length acts)) (range_below (length acts)))
