-- What a plan leads to step by step, and the steps of it that apply.
use Rattle.std.proofs.Common.{◌≡◌, ◌&&◌, ◌+◌, ◌<◌, ◌≤◌, ℕ, zero, suc, Bool, true, false, List, [], ◌∷◌, ◌++◌, Option, Some, None, length, take, get_or, nat_lt, refl, sym, ap, ◌∙◌, arith}
use Rattle.std.specs.List.{All}
use Rattle.std.proofs.lemmas.Bool.{and_parts, ltb-true}
use Rattle.std.proofs.lemmas.List.{take_more, append-nil}
use Rattle.std.proofs.lemmas.List.Elements.{All-nil, All-cons}
use Rattle.std.proofs.lemmas.List.Sums.{fold-append}
use Rattle.wp_task.specs.declared.acts.Act.{Act}
use Rattle.wp_task.specs.Task.{act_at, applies, result_of, leads_to, has_goals}
use Rattle.wp_task.proofs.PlanLemmas.{leads_to-step, length-result_of}
use Rattle.wp_ladder.specs.Trimmed.{state_after, applying}

-- the first item of a list for which something holds, and the others
pub All-first : {X : Type 0} (P : X → Type 0) (x : X) (xs : List X) → All P (x ∷ xs) → P x
All-first P x xs all = all 0 x (omega arith)

pub All-rest : {X : Type 0} (P : X → Type 0) (x : X) (xs : List X) → All P (x ∷ xs) → All P xs
All-rest P x xs all = λ k d within. all (suc k) d (omega arith)

pub length-state_after : (acts : List Act) (state : List Bool) (plan : List ℕ) → length (state_after acts state plan) ≡ length state
length-state_after acts state [] = refl
length-state_after acts state (a ∷ plan) =
    length-state_after acts (result_of (act_at acts a) state) plan ∙ length-result_of (act_at acts a) state

-- one step more
pub state_after-more : (acts : List Act) (state : List Bool) (plan : List ℕ) (place : ℕ) → place < length plan →
    state_after acts state (take (place + 1) plan)
    ≡ result_of (act_at acts (get_or plan place 0)) (state_after acts state (take place plan))
state_after-more acts state plan place within =
    ap (state_after acts state) (take_more plan place 0 within)
    ∙ fold-append (λ s a. result_of (act_at acts a) s) state (take place plan) (get_or plan place 0 ∷ [])

-- where a plan leads to some goals, its steps are actions
pub plan_numbers : (goals : List ℕ) (acts : List Act) (state : List Bool) (plan : List ℕ) →
    has_goals goals (leads_to acts state plan) ≡ true → All (λ a. a < length acts) plan
plan_numbers goals acts state [] is = All-nil (λ a. a < length acts)
plan_numbers goals acts state (a ∷ plan) is =
    by (nat_lt a (length acts) && applies (act_at acts a) state) refl is (plan_numbers goals acts (result_of (act_at acts a) state) plan) where
      by : (b : Bool) → (nat_lt a (length acts) && applies (act_at acts a) state) ≡ b →
          has_goals goals (elim b as (λ _. Option (List Bool)) [ true ↦ leads_to acts (result_of (act_at acts a) state) plan | false ↦ None ]) ≡ true →
          (has_goals goals (leads_to acts (result_of (act_at acts a) state) plan) ≡ true → All (λ a. a < length acts) plan) →
          All (λ a. a < length acts) (a ∷ plan)
      by true passes is rest = All-cons (λ a. a < length acts) a plan
          (ltb-true a (length acts) (and_parts (nat_lt a (length acts)) (applies (act_at acts a) state) passes).0) (rest is)
      by false passes is rest = absurd (cc)

-- a plan keeps its first steps: other steps after them start from the state that these lead to
pub leads_to-taken : (goals : List ℕ) (acts : List Act) (state : List Bool) (place : ℕ) (plan others : List ℕ) →
    has_goals goals (leads_to acts state plan) ≡ true →
    leads_to acts state (take place plan ++ others) ≡ leads_to acts (state_after acts state (take place plan)) others
leads_to-taken goals acts state zero plan others is = refl
leads_to-taken goals acts state (suc place) [] others is = refl
leads_to-taken goals acts state (suc place) (a ∷ plan) others is =
    by (nat_lt a (length acts) && applies (act_at acts a) state) is (leads_to-taken goals acts (result_of (act_at acts a) state) place plan others) where
      by : (b : Bool) →
          has_goals goals (elim b as (λ _. Option (List Bool)) [ true ↦ leads_to acts (result_of (act_at acts a) state) plan | false ↦ None ]) ≡ true →
          (has_goals goals (leads_to acts (result_of (act_at acts a) state) plan) ≡ true →
          leads_to acts (result_of (act_at acts a) state) (take place plan ++ others)
          ≡ leads_to acts (state_after acts (result_of (act_at acts a) state) (take place plan)) others) →
          elim b as (λ _. Option (List Bool)) [ true ↦ leads_to acts (result_of (act_at acts a) state) (take place plan ++ others) | false ↦ None ]
          ≡ leads_to acts (state_after acts (result_of (act_at acts a) state) (take place plan)) others
      by true is rest = rest is
      by false is rest = absurd (cc)

-- the steps that apply lead on
pub leads_to-applying : (acts : List Act) (state : List Bool) (plan : List ℕ) → All (λ a. a < length acts) plan →
    leads_to acts state (applying acts state plan) ≡ Some (state_after acts state (applying acts state plan))
leads_to-applying acts state [] all = refl
leads_to-applying acts state (a ∷ plan) all =
    by (applies (act_at acts a) state) refl
    (leads_to-applying acts (result_of (act_at acts a) state) plan (All-rest (λ a. a < length acts) a plan all))
    (leads_to-applying acts state plan (All-rest (λ a. a < length acts) a plan all)) where
      by : (b : Bool) → applies (act_at acts a) state ≡ b →
          leads_to acts (result_of (act_at acts a) state) (applying acts (result_of (act_at acts a) state) plan)
          ≡ Some (state_after acts (result_of (act_at acts a) state) (applying acts (result_of (act_at acts a) state) plan)) →
          leads_to acts state (applying acts state plan) ≡ Some (state_after acts state (applying acts state plan)) →
          leads_to acts state (elim b as (λ _. List ℕ) [ true ↦ a ∷ applying acts (result_of (act_at acts a) state) plan | false ↦ applying acts state plan ])
          ≡ Some (state_after acts state (elim b as (λ _. List ℕ) [ true ↦ a ∷ applying acts (result_of (act_at acts a) state) plan | false ↦ applying acts state plan ]))
      by true passes next same =
          leads_to-step acts state a (applying acts (result_of (act_at acts a) state) plan) (All-first (λ a. a < length acts) a plan all) passes ∙ next
      by false passes next same = same

pub length-applying : (acts : List Act) (state : List Bool) (plan : List ℕ) → length (applying acts state plan) ≤ length plan
length-applying acts state [] = omega arith
length-applying acts state (a ∷ plan) =
    by (applies (act_at acts a) state) (length-applying acts (result_of (act_at acts a) state) plan) (length-applying acts state plan) where
      by : (b : Bool) → length (applying acts (result_of (act_at acts a) state) plan) ≤ length plan → length (applying acts state plan) ≤ length plan →
          length (elim b as (λ _. List ℕ) [ true ↦ a ∷ applying acts (result_of (act_at acts a) state) plan | false ↦ applying acts state plan ])
          ≤ length (a ∷ plan)
      by true next same = omega arith
      by false next same = omega arith

-- one step more of those that apply, or that does not
pub applying-more : (acts : List Act) (state : List Bool) (plan : List ℕ) (a : ℕ) →
    applying acts state (plan ++ a ∷ [])
    ≡ applying acts state plan
    ++ elim (applies (act_at acts a) (state_after acts state (applying acts state plan))) as (λ _. List ℕ) [ true ↦ a ∷ [] | false ↦ [] ]
applying-more acts state [] a = refl
applying-more acts state (b ∷ plan) a =
    by (applies (act_at acts b) state) (applying-more acts (result_of (act_at acts b) state) plan a) (applying-more acts state plan a) where
      by : (c : Bool) →
          applying acts (result_of (act_at acts b) state) (plan ++ a ∷ [])
          ≡ applying acts (result_of (act_at acts b) state) plan
          ++ elim (applies (act_at acts a) (state_after acts (result_of (act_at acts b) state) (applying acts (result_of (act_at acts b) state) plan))) as (λ _. List ℕ) [ true ↦ a ∷ [] | false ↦ [] ] →
          applying acts state (plan ++ a ∷ [])
          ≡ applying acts state plan ++ elim (applies (act_at acts a) (state_after acts state (applying acts state plan))) as (λ _. List ℕ) [ true ↦ a ∷ [] | false ↦ [] ] →
          elim c as (λ _. List ℕ) [ true ↦ b ∷ applying acts (result_of (act_at acts b) state) (plan ++ a ∷ []) | false ↦ applying acts state (plan ++ a ∷ []) ]
          ≡ elim c as (λ _. List ℕ) [ true ↦ b ∷ applying acts (result_of (act_at acts b) state) plan | false ↦ applying acts state plan ]
          ++ elim (applies (act_at acts a) (state_after acts state (elim c as (λ _. List ℕ) [ true ↦ b ∷ applying acts (result_of (act_at acts b) state) plan | false ↦ applying acts state plan ]))) as (λ _. List ℕ) [ true ↦ a ∷ [] | false ↦ [] ]
      by true then same = ap (λ l. b ∷ l) then
      by false then same = same

-- ---- the first steps of a list that were followed: the state that is reached, and those that applied
pub record IsFollowed (acts : List Act) (start : List Bool) (steps : List ℕ) (place : ℕ) (state : List Bool) (taken : List ℕ) : Type 0 where
  pub size : length state ≡ length start
  pub taken_are : taken ≡ applying acts start (take place steps)
  pub state_is : state ≡ state_after acts start taken

module _ (acts : List Act) (start : List Bool) (steps : List ℕ) (place : ℕ) (state : List Bool) (taken : List ℕ)
    (followed : IsFollowed acts start steps place state taken) (within : place < length steps) where
  next_by : (b : Bool) → applies (act_at acts (get_or steps place 0)) state ≡ b →
      applying acts start (take (place + 1) steps) ≡ taken ++ elim b as (λ _. List ℕ) [ true ↦ get_or steps place 0 ∷ [] | false ↦ [] ]
  next_by b is =
      let same : applies (act_at acts (get_or steps place 0)) (state_after acts start (applying acts start (take place steps))) ≡ b =
      ap (applies (act_at acts (get_or steps place 0))) (ap (state_after acts start) (sym followed.taken_are) ∙ sym followed.state_is) ∙ is in
      ap (applying acts start) (take_more steps place 0 within)
      ∙ (applying-more acts start (take place steps) (get_or steps place 0)
      ∙ (λ j. sym followed.taken_are j ++ elim (same j) as (λ _. List ℕ) [ true ↦ get_or steps place 0 ∷ [] | false ↦ [] ]))

  pub followed_taken : (next : List Bool) (more : List ℕ) → applies (act_at acts (get_or steps place 0)) state ≡ true →
      next ≡ result_of (act_at acts (get_or steps place 0)) state → more ≡ taken ++ get_or steps place 0 ∷ [] →
      IsFollowed acts start steps (place + 1) next more
  followed_taken next more passes next_is more_is = record {
    size = ap length next_is ∙ (length-result_of (act_at acts (get_or steps place 0)) state ∙ followed.size);
    taken_are = more_is ∙ sym (next_by true passes);
    state_is = next_is
        ∙ (ap (result_of (act_at acts (get_or steps place 0))) followed.state_is
        ∙ (sym (fold-append (λ s b. result_of (act_at acts b) s) start taken (get_or steps place 0 ∷ []))
        ∙ ap (state_after acts start) (sym more_is)));
  }

  pub followed_passed : (next : List Bool) (more : List ℕ) → applies (act_at acts (get_or steps place 0)) state ≡ false →
      next ≡ state → more ≡ taken → IsFollowed acts start steps (place + 1) next more
  followed_passed next more fails next_is more_is = record {
    size = ap length next_is ∙ followed.size;
    taken_are = more_is ∙ (sym (append-nil taken) ∙ sym (next_by false fails));
    state_is = next_is ∙ (followed.state_is ∙ ap (state_after acts start) (sym more_is));
  }
