-- One action of a plan.
use Rattle.std.proofs.Common.{◌≡◌, ◌&&◌, ◌||◌, not, ◌+◌, ◌<◌, ◌∷◌, ℕ, Bool, true, false, List, Option, None, length, drop, get_or, nat_lt, sym, ap, ◌∙◌}
use Rattle.std.proofs.lemmas.Bool.{lt-ltb, and_from}
use Rattle.std.proofs.lemmas.List.{drop_more}
use Rattle.std.proofs.lemmas.List.FromFn.{length-map-range_with_len}
use Rattle.wp_task.specs.declared.acts.Act.{Act}
use Rattle.wp_task.specs.Set.{has, lists}
use Rattle.wp_task.specs.Task.{act_at, applies, result_of, leads_to}

pub leads_to-step : (acts : List Act) (state : List Bool) (a : ℕ) (plan : List ℕ) →
    a < length acts → applies (act_at acts a) state ≡ true →
    leads_to acts state (a ∷ plan) ≡ leads_to acts (result_of (act_at acts a) state) plan
leads_to-step acts state a plan within passes =
    ap (λ (b : Bool). elim b as (λ _. Option (List Bool)) [ true ↦ leads_to acts (result_of (act_at acts a) state) plan | false ↦ None ])
    (and_from (nat_lt a (length acts)) (applies (act_at acts a) state) (lt-ltb a (length acts) within) passes)

-- the rest of a plan, one action on
pub plan_goes : (acts : List Act) (state next : List Bool) (plan : List ℕ) (i : ℕ) → i < length plan →
    get_or plan i 0 < length acts → applies (act_at acts (get_or plan i 0)) state ≡ true →
    next ≡ result_of (act_at acts (get_or plan i 0)) state →
    leads_to acts next (drop (i + 1) plan) ≡ leads_to acts state (drop i plan)
plan_goes acts state next plan i there within passes is_next =
    ap (λ s. leads_to acts s (drop (i + 1) plan)) is_next
    ∙ (sym (leads_to-step acts state (get_or plan i 0) (drop (i + 1) plan) within passes)
    ∙ ap (leads_to acts state) (sym (drop_more plan i 0 there)))

pub length-result_of : (act : Act) (state : List Bool) → length (result_of act state) ≡ length state
length-result_of act state =
    length-map-range_with_len (λ p. (has state p && not (lists act.del p)) || lists act.add p) 0 (length state)
