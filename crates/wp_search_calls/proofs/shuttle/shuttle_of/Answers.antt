use Rattle.std.proofs.Common.{◌≡◌, ◌++◌, ◌∷◌, [], ℕ, List, sym, ap, ◌∙◌, subst, rules}
use Rattle.std.specs.List.{All}
use Rattle.std.proofs.lemmas.List.Elements.{All-nil, All-push}
use Rattle.wp_task.specs.declared.acts.Act.{Act}
use Rattle.wp_task.specs.Set.{set_of}
use Rattle.wp_task.specs.Task.{PlanningTask, IsAct}
use Rattle.wp_search_calls.specs.Shuttle.{shuttle}
use Rattle.wp_search_calls.proofs.shuttle.shuttle_of.Goals as goal

pub task_of-requires : goal.task_of-requires
task_of-requires c =
    subst (All (IsAct 3)) (sym c.of_vec.ensures)
    (subst (All (IsAct 3)) (sym c.in_ok-push-2.ensures.items)
    (All-push (IsAct 3) c.push.new.self.items c.in_ok-back.back
    (subst (All (IsAct 3)) (sym c.in_ok-push.ensures.items)
    (All-push (IsAct 3) c.new-acts.result.items c.in_ok-go.go
    (subst (All (IsAct 3)) (sym c.new-acts.ensures.items) (All-nil (IsAct 3))) c.in_ok-go.ensures.fits)) c.in_ok-back.ensures.fits))

pub returns : goal.returns
returns c =
    let go = c.in_ok-go.go in
    let back = c.in_ok-back.back in
    let go_pre : go.pre ≡ 1 ∷ [] = c.in_ok-go.ensures.value.0 in
    let go_add : go.add ≡ 2 ∷ [] = c.in_ok-go.ensures.value.1 in
    let go_del : go.del ≡ 1 ∷ [] = c.in_ok-go.ensures.value.2 in
    let back_pre : back.pre ≡ 2 ∷ [] = c.in_ok-back.ensures.value.0 in
    let back_add : back.add ≡ 1 ∷ [] = c.in_ok-back.ensures.value.1 in
    let back_del : back.del ≡ 2 ∷ [] = c.in_ok-back.ensures.value.2 in
    let acts : c.of_vec.result ≡ go ∷ back ∷ [] =
    c.of_vec.ensures ∙ (c.in_ok-push-2.ensures.items ∙ ap (λ l. l ++ back ∷ []) (c.in_ok-push.ensures.items ∙ ap (λ l. l ++ go ∷ []) c.new-acts.ensures.items)) in
    let rows : go ∷ back ∷ [] ≡ shuttle.acts = λ j. (
    let one : Act = record { pre = go_pre j; add = go_add j; del = go_del j } in
    let other : Act = record { pre = back_pre j; add = back_add j; del = back_del j } in one ∷ other ∷ []) in
    let with_acts : List Act → PlanningTask = λ l. record { atoms = 3; init = set_of (0 ∷ 1 ∷ []) 3; goals = 2 ∷ []; acts = l } in
    c.in_ok-task.ensures ∙ ap with_acts (acts ∙ rows)
