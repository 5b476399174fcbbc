-- The trimmed plan: it is a plan, a subsequence, and more tries change nothing; and one try of it.
use Rattle.std.proofs.Common.{◌≡◌, ◌+◌, ◌-◌, ◌<◌, ◌≤◌, ℕ, zero, suc, Bool, true, false, List, [], ◌∷◌, ◌++◌, inl, inr, length, take, drop, get_or, nat_lt, refl, sym, ap, ◌∙◌, subst, add-one, arith, length-append, length-drop}
use Rattle.std.specs.List.{All}
use Rattle.std.proofs.lemmas.Bool.{lt-ltb, ltb-true, le-ltb}
use Rattle.std.proofs.lemmas.List.{length-take-le, take_at, take_rest}
use Rattle.std.proofs.lemmas.List.Elements.{All-drop}
use Rattle.wp_task.specs.declared.acts.Act.{Act}
use Rattle.wp_task.specs.Task.{PlanningTask, act_at, applies, result_of, leads_to, has_goals, is_plan}
use Rattle.wp_ladder.specs.Trimmed.{IsSubsequence, state_after, applying, reaches, without_step, trimmed_from, trimmed, PlansAreTrimmed}
use Rattle.wp_ladder.proofs.StepLemmas.{plan_numbers, leads_to-taken, leads_to-applying, length-applying, state_after-more}

-- ---- subsequences
same_steps : (plan : List ℕ) → IsSubsequence plan plan
same_steps [] = tt
same_steps (a ∷ plan) = inl (refl, same_steps plan)

left_out : (a : ℕ) (shorter longer : List ℕ) → IsSubsequence shorter longer → IsSubsequence shorter (a ∷ longer)
left_out a [] longer is = tt
left_out a (b ∷ shorter) longer is = inr is

left_out_twice : (x y z : List ℕ) → IsSubsequence x y → IsSubsequence y z → IsSubsequence x z
left_out_twice [] y z first second = tt
left_out_twice (a ∷ x) [] z first second = absurd first
left_out_twice (a ∷ x) (b ∷ y) [] first second = absurd second
left_out_twice (a ∷ x) (b ∷ y) (c ∷ z) (inl first) (inl second) = inl (first.0 ∙ second.0, left_out_twice x y z first.1 second.1)
left_out_twice (a ∷ x) (b ∷ y) (c ∷ z) (inr first) (inl second) = inr (left_out_twice (a ∷ x) y z first second.1)
left_out_twice (a ∷ x) (b ∷ y) (c ∷ z) first (inr second) = inr (left_out_twice (a ∷ x) (b ∷ y) z first second)

front_kept : (place : ℕ) (plan others : List ℕ) → IsSubsequence others (drop (suc place) plan) → IsSubsequence (take place plan ++ others) plan
front_kept zero [] others is = is
front_kept zero (a ∷ plan) others is = left_out a others plan is
front_kept (suc place) [] others is = is
front_kept (suc place) (a ∷ plan) others is = inl (refl, front_kept place plan others is)

applying_are : (acts : List Act) (state : List Bool) (plan : List ℕ) → IsSubsequence (applying acts state plan) plan
applying_are acts state [] = tt
applying_are acts state (a ∷ plan) =
    by (applies (act_at acts a) state) (applying_are acts (result_of (act_at acts a) state) plan) (applying_are acts state plan) where
      by : (b : Bool) → IsSubsequence (applying acts (result_of (act_at acts a) state) plan) plan → IsSubsequence (applying acts state plan) plan →
          IsSubsequence (elim b as (λ _. List ℕ) [ true ↦ a ∷ applying acts (result_of (act_at acts a) state) plan | false ↦ applying acts state plan ]) (a ∷ plan)
      by true next same = inl (refl, next)
      by false next same = left_out a (applying acts state plan) plan same

without_step_is : (task : PlanningTask) (plan : List ℕ) (place : ℕ) → IsSubsequence (without_step task plan place) plan
without_step_is task plan place =
    front_kept place plan (applying task.acts (state_after task.acts task.init (take place plan)) (drop (place + 1) plan))
    (subst (λ n. IsSubsequence (applying task.acts (state_after task.acts task.init (take place plan)) (drop (place + 1) plan)) (drop n plan))
    (add-one place)
    (applying_are task.acts (state_after task.acts task.init (take place plan)) (drop (place + 1) plan)))

length-without_step : (task : PlanningTask) (plan : List ℕ) (place : ℕ) → place < length plan → length (without_step task plan place) < length plan
length-without_step task plan place within =
    let rest = drop (place + 1) plan in
    let state = state_after task.acts task.init (take place plan) in
    omega (
      arith,
      length-append (take place plan) (applying task.acts state rest),
      length-take-le place plan (omega arith),
      length-applying task.acts state rest,
      length-drop (place + 1) plan,
    )

-- ---- tries
-- what a plan ends as is a plan and left of it
record IsLeftOf (task : PlanningTask) (plan end : List ℕ) : Type 0 where
  valid : is_plan task end ≡ true
  steps : IsSubsequence end plan

left_of : (task : PlanningTask) (tries place : ℕ) (plan : List ℕ) → is_plan task plan ≡ true → IsLeftOf task plan (trimmed_from task tries place plan)
left_of task zero place plan is = record { valid = is; steps = same_steps plan }
left_of task (suc tries) place plan is =
    by (nat_lt place (length plan)) (is_plan task (without_step task plan place)) refl
    (left_of task tries place (without_step task plan place)) (left_of task tries (place + 1) plan is) where
      by : (b c : Bool) → is_plan task (without_step task plan place) ≡ c →
          (is_plan task (without_step task plan place) ≡ true → IsLeftOf task (without_step task plan place) (trimmed_from task tries place (without_step task plan place))) →
          IsLeftOf task plan (trimmed_from task tries (place + 1) plan) →
          IsLeftOf task plan (elim b as (λ _. List ℕ) [
            | true ↦ elim c as (λ _. List ℕ) [ true ↦ trimmed_from task tries place (without_step task plan place) | false ↦ trimmed_from task tries (place + 1) plan ]
            | false ↦ plan
          ])
      by true true passes next later = record {
        valid = (next passes).valid;
        steps = left_out_twice (trimmed_from task tries place (without_step task plan place)) (without_step task plan place) plan
            (next passes).steps (without_step_is task plan place);
      }
      by true false passes next later = later
      by false c passes next later = record { valid = is; steps = same_steps plan }

-- past the last step there is no try
none_left : (task : PlanningTask) (tries place : ℕ) (plan : List ℕ) → length plan ≤ place → trimmed_from task (suc tries) place plan ≡ plan
none_left task tries place plan past =
    ap (λ (b : Bool). elim b as (λ _. List ℕ) [
      | true ↦ elim (is_plan task (without_step task plan place)) as (λ _. List ℕ) [
        | true ↦ trimmed_from task tries place (without_step task plan place)
        | false ↦ trimmed_from task tries (place + 1) plan
      ]
      | false ↦ plan
    ]) (le-ltb place (length plan) past)

-- a try with success, and one in vain
with_success : (task : PlanningTask) (tries place : ℕ) (plan : List ℕ) → place < length plan →
    is_plan task (without_step task plan place) ≡ true →
    trimmed_from task (suc tries) place plan ≡ trimmed_from task tries place (without_step task plan place)
with_success task tries place plan within passes =
    ap (λ (b : Bool). elim b as (λ _. List ℕ) [
      | true ↦ elim (is_plan task (without_step task plan place)) as (λ _. List ℕ) [
        | true ↦ trimmed_from task tries place (without_step task plan place)
        | false ↦ trimmed_from task tries (place + 1) plan
      ]
      | false ↦ plan
    ]) (lt-ltb place (length plan) within)
    ∙ ap (λ (b : Bool). elim b as (λ _. List ℕ) [
      | true ↦ trimmed_from task tries place (without_step task plan place)
      | false ↦ trimmed_from task tries (place + 1) plan
    ]) passes

in_vain : (task : PlanningTask) (tries place : ℕ) (plan : List ℕ) → place < length plan →
    is_plan task (without_step task plan place) ≡ false → trimmed_from task (suc tries) place plan ≡ trimmed_from task tries (place + 1) plan
in_vain task tries place plan within fails =
    ap (λ (b : Bool). elim b as (λ _. List ℕ) [
      | true ↦ elim (is_plan task (without_step task plan place)) as (λ _. List ℕ) [
        | true ↦ trimmed_from task tries place (without_step task plan place)
        | false ↦ trimmed_from task tries (place + 1) plan
      ]
      | false ↦ plan
    ]) (lt-ltb place (length plan) within)
    ∙ ap (λ (b : Bool). elim b as (λ _. List ℕ) [
      | true ↦ trimmed_from task tries place (without_step task plan place)
      | false ↦ trimmed_from task tries (place + 1) plan
    ]) fails

-- as many tries as steps are left are enough
enough : (task : PlanningTask) (n m place : ℕ) (plan : List ℕ) → length plan ≤ place + n → length plan ≤ place + m →
    trimmed_from task n place plan ≡ trimmed_from task m place plan
enough task zero zero place plan few also = refl
enough task zero (suc m) place plan few also = sym (none_left task m place plan (omega arith))
enough task (suc n) zero place plan few also = none_left task n place plan (omega arith)
enough task (suc n) (suc m) place plan few also =
    by (nat_lt place (length plan)) (is_plan task (without_step task plan place)) refl
    (λ within. let shorter : length (without_step task plan place) < length plan = length-without_step task plan place within in
    enough task n m place (without_step task plan place) (omega arith) (omega arith))
    (enough task n m (place + 1) plan (omega arith) (omega arith)) where
      by : (b c : Bool) → nat_lt place (length plan) ≡ b →
          (place < length plan → trimmed_from task n place (without_step task plan place) ≡ trimmed_from task m place (without_step task plan place)) →
          trimmed_from task n (place + 1) plan ≡ trimmed_from task m (place + 1) plan →
          elim b as (λ _. List ℕ) [
            | true ↦ elim c as (λ _. List ℕ) [ true ↦ trimmed_from task n place (without_step task plan place) | false ↦ trimmed_from task n (place + 1) plan ]
            | false ↦ plan
          ]
          ≡ elim b as (λ _. List ℕ) [
            | true ↦ elim c as (λ _. List ℕ) [ true ↦ trimmed_from task m place (without_step task plan place) | false ↦ trimmed_from task m (place + 1) plan ]
            | false ↦ plan
          ]
      by true true is next later = next (ltb-true place (length plan) is)
      by true false is next later = later
      by false c is next later = refl

pub plans_are_trimmed : PlansAreTrimmed
plans_are_trimmed task plan is =
    let end = left_of task (length plan) 0 plan is in
    record {
      valid = end.valid;
      steps = end.steps;
      enough = λ tries many. enough task tries (length plan) 0 plan (omega arith) (omega arith);
    }

-- ---- one try
-- the plan so far, and the state before its next step: they trim to what the plan does
pub record IsHalfway (task : PlanningTask) (plan steps : List ℕ) (place : ℕ) (before : List Bool) : Type 0 where
  pub within : place ≤ length steps
  pub before_is : before ≡ state_after task.acts task.init (take place steps)
  pub valid : is_plan task steps ≡ true
  pub left : trimmed_from task (length steps - place) place steps ≡ trimmed task plan

pub halfway_end : (task : PlanningTask) (plan steps : List ℕ) (place : ℕ) (before : List Bool) → IsHalfway task plan steps place before →
    length steps ≤ place → steps ≡ trimmed task plan
halfway_end task plan steps place before half past =
    enough task 0 (length steps - place) place steps (omega arith) (omega arith) ∙ half.left

module _ (task : PlanningTask) (plan steps : List ℕ) (place : ℕ) (before : List Bool) (half : IsHalfway task plan steps place before)
    (within : place < length steps) where
  pub numbers : All (λ a. a < length task.acts) steps
  numbers = plan_numbers task.goals task.acts task.init steps half.valid

  -- the steps after the place, as a slice has them
  pub later_is : (given : List ℕ) → given ≡ steps → take (length given - (place + 1)) (drop (place + 1) given) ≡ drop (place + 1) steps
  later_is given is = take_rest given (place + 1) ∙ ap (drop (place + 1)) is

  pub later_numbers : (given : List ℕ) → given ≡ steps →
      All (λ a. a < length task.acts) (take (length given - (place + 1)) (drop (place + 1) given))
  later_numbers given is =
      subst (All (λ a. a < length task.acts)) (sym (later_is given is)) (All-drop (λ a. a < length task.acts) (place + 1) steps numbers)

  -- the goals hold after the steps that apply exactly where these make the shorter list a plan
  shorter_is : without_step task steps place ≡ take place steps ++ applying task.acts before (drop (place + 1) steps)
  shorter_is = ap (λ s. take place steps ++ applying task.acts s (drop (place + 1) steps)) (sym half.before_is)

  goals_tell : is_plan task (without_step task steps place)
      ≡ reaches task before (drop (place + 1) steps)
  goals_tell =
      ap (is_plan task) shorter_is
      ∙ (ap (has_goals task.goals)
      (leads_to-taken task.goals task.acts task.init place steps (applying task.acts before (drop (place + 1) steps)) half.valid)
      ∙ (ap (λ s. has_goals task.goals (leads_to task.acts s (applying task.acts before (drop (place + 1) steps)))) (sym half.before_is)
      ∙ ap (has_goals task.goals)
      (leads_to-applying task.acts before (drop (place + 1) steps) (All-drop (λ a. a < length task.acts) (place + 1) steps numbers))))

  one_less : length steps - place ≡ suc (length steps - (place + 1))
  one_less = omega arith

  pub halfway_kept : (next : List Bool) → next ≡ result_of (act_at task.acts (get_or steps place 0)) before →
      reaches task before (drop (place + 1) steps) ≡ false →
      IsHalfway task plan steps (place + 1) next
  halfway_kept next next_is unmet = record {
    within = omega arith;
    before_is = next_is ∙ (ap (result_of (act_at task.acts (get_or steps place 0))) half.before_is
        ∙ sym (state_after-more task.acts task.init steps place within));
    valid = half.valid;
    left = sym (in_vain task (length steps - (place + 1)) place steps within (goals_tell ∙ unmet))
        ∙ (ap (λ n. trimmed_from task n place steps) (sym one_less) ∙ half.left);
  }

  pub shorter_than : length (take place steps ++ applying task.acts before (drop (place + 1) steps)) < length steps
  shorter_than = subst (λ l. length l < length steps) shorter_is (length-without_step task steps place within)

  pub halfway_shorter : (shorter : List ℕ) → shorter ≡ take place steps ++ applying task.acts before (drop (place + 1) steps) →
      reaches task before (drop (place + 1) steps) ≡ true →
      IsHalfway task plan shorter place before
  halfway_shorter shorter is met =
      let without : shorter ≡ without_step task steps place = is ∙ sym shorter_is in
      let fewer : length shorter < length steps = subst (λ l. length l < length steps) (sym without) (length-without_step task steps place within) in
      let front : take place shorter ≡ take place steps =
      ap (take place) is ∙ take_at (take place steps) (applying task.acts before (drop (place + 1) steps)) place (length-take-le place steps half.within) in
      let reaches : place ≤ length shorter =
      omega (arith, ap length is, length-append (take place steps) (applying task.acts before (drop (place + 1) steps)), length-take-le place steps half.within) in
      record {
        within = reaches;
        before_is = half.before_is ∙ ap (state_after task.acts task.init) (sym front);
        valid = ap (is_plan task) without ∙ (goals_tell ∙ met);
        left =
            enough task (length shorter - place) (length steps - (place + 1)) place shorter (omega arith) (omega arith)
            ∙ (ap (trimmed_from task (length steps - (place + 1)) place) without
            ∙ (sym (with_success task (length steps - (place + 1)) place steps within (goals_tell ∙ met))
            ∙ (ap (λ n. trimmed_from task n place steps) (sym one_less) ∙ half.left)));
      }
