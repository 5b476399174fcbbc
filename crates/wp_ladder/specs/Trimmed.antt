-- Action elimination: a plan without steps that it does not need. After Nakhost and Mueller (ICAPS 2010), by one pass from the
-- first step to the last; the steps are given up with those that rest on them.
-- Ours: a step that is tried in vain is not tried again, also where a later step has gone since.
use Rattle.std.specs.Prelude.{◌≡◌, ◌⊎◌, ◌+◌, ◌≤◌, ℕ, zero, suc, nat_lt, true, false, Bool, List, [], ◌∷◌, ◌++◌, length, take, drop, fold}
use Rattle.std.specs.List.{list_all}
use Rattle.wp_task.specs.Set.{has}
use Rattle.wp_task.specs.Task.{PlanningTask, act_at, applies, result_of, is_plan}
use Rattle.wp_task.specs.declared.acts.Act.{Act}

-- the first list is left of the second where some of its items are left out
abbrev pub IsSubsequence : List ℕ → List ℕ → Type 0
IsSubsequence [] longer = Unit {0}
IsSubsequence (a ∷ shorter) [] = ⊥
IsSubsequence (a ∷ shorter) (b ∷ longer) = ((a ≡ b) × IsSubsequence shorter longer) ⊎ IsSubsequence (a ∷ shorter) longer

-- the state after the steps, where each applies in its turn
abbrev pub state_after : List Act → List Bool → List ℕ → List Bool
state_after acts state plan = fold (λ s a. result_of (act_at acts a) s) state plan

-- the steps that apply in the state that is then reached, in order
abbrev pub applying : List Act → List Bool → List ℕ → List ℕ
applying acts state [] = []
applying acts state (a ∷ plan) = elim (applies (act_at acts a) state) [
  | true ↦ a ∷ applying acts (result_of (act_at acts a) state) plan
  | false ↦ applying acts state plan
]

-- whether all goals hold after the steps that apply
abbrev pub reaches : PlanningTask → List Bool → List ℕ → Bool
reaches task state plan = list_all (has (state_after task.acts state (applying task.acts state plan))) task.goals

-- the plan without the step at a place, and without each later step that does not apply then
abbrev pub without_step : PlanningTask → List ℕ → ℕ → List ℕ
without_step task plan place =
    take place plan ++ applying task.acts (state_after task.acts task.init (take place plan)) (drop (place + 1) plan)

-- at most so many tries from a place on: where the shorter list is a plan, it is tried at the same place again, else at the next
abbrev pub trimmed_from : PlanningTask → ℕ → ℕ → List ℕ → List ℕ
trimmed_from task zero place plan = plan
trimmed_from task (suc tries) place plan = elim (nat_lt place (length plan)) [
  | true ↦ elim (is_plan task (without_step task plan place)) [
    | true ↦ trimmed_from task tries place (without_step task plan place)
    | false ↦ trimmed_from task tries (place + 1) plan
  ]
  | false ↦ plan
]

-- the trimmed plan: each try leaves one step fewer to try, so there are at most as many as steps
abbrev pub trimmed : PlanningTask → List ℕ → List ℕ
trimmed task plan = trimmed_from task (length plan) 0 plan

-- the trimmed plan is a plan, and left of the plan where some of its steps are left out
pub record IsTrimmed (task : PlanningTask) (plan : List ℕ) : Type 0 where
  pub valid : is_plan task (trimmed task plan) ≡ true
  pub steps : IsSubsequence (trimmed task plan) plan
  pub enough : (tries : ℕ) → length plan ≤ tries → trimmed_from task tries 0 plan ≡ trimmed task plan

abbrev pub PlansAreTrimmed : Type 0
PlansAreTrimmed = (task : PlanningTask) (plan : List ℕ) → is_plan task plan ≡ true → IsTrimmed task plan
