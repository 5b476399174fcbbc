-- What is found is a plan.
use Rattle.std.proofs.Common.{◌≡◌, ◌&&◌, not, ℕ, ◌+◌, Bool, true, false, cond, List, [], ◌∷◌, refl, sym, ap, ◌∙◌, subst, arith}
use Rattle.std.specs.List.{list_all}
use Rattle.std.proofs.lemmas.List.Sums.{sum_by-cons}
use Rattle.wp_task.specs.Set.{has}
use Rattle.wp_task.specs.Task.{goal_counter, has_goals, leads_to}
use Rattle.wp_task.proofs.Members.{In}
use Rattle.wp_plain.specs.declared.ending.How.TheVariants.{Found}
use Rattle.wp_plain.specs.Run.{run}
use Rattle.wp_plain.specs.Laws.{FoundIsPlan}
use Rattle.wp_plain.proofs.StepCases.{first_there, IsEnd}
use Rattle.wp_plain.proofs.TraceLemmas.{ended}

-- #g is 0 exactly where all goals hold
pub all_met : (goals : List ℕ) (state : List Bool) → goal_counter goals state ≡ 0 → list_all (has state) goals ≡ true
all_met [] state none = refl
all_met (p ∷ goals) state none =
    by (has state p) (sym (sum_by-cons (λ q. cond (not (has state q)) 1 0) p goals) ∙ none) (all_met goals state) where
      by : (b : Bool) → cond (not b) 1 0 + goal_counter goals state ≡ 0 → (goal_counter goals state ≡ 0 → list_all (has state) goals ≡ true) →
          (b && list_all (has state) goals) ≡ true
      by true is rest = rest (omega arith)
      by false is rest = absurd (omega arith)

pub none_unmet : (goals : List ℕ) (state : List Bool) → list_all (has state) goals ≡ true → goal_counter goals state ≡ 0
none_unmet [] state all = refl
none_unmet (p ∷ goals) state all =
    sum_by-cons (λ q. cond (not (has state q)) 1 0) p goals ∙ by (has state p) all (none_unmet goals state) where
      by : (b : Bool) → (b && list_all (has state) goals) ≡ true → (list_all (has state) goals ≡ true → goal_counter goals state ≡ 0) →
          cond (not b) 1 0 + goal_counter goals state ≡ 0
      by true is rest = let later : goal_counter goals state ≡ 0 = rest is in omega arith
      by false is rest = absurd (cc)

pub found_is_plan : FoundIsPlan
found_is_plan task settings tuples plan is =
    let end = ended task settings tuples (λ m. Unit {0}) tt (λ m node traced there holds x. tt) in
    let reason : IsEnd task settings tuples (run task settings tuples).1 (Found plan) = subst (IsEnd task settings tuples (run task settings tuples).1) is end.reason in
    let m = (run task settings tuples).1 in
    let node = reason.0 in
    let there : In node m.nodes = first_there m.nodes node reason.1 in
    let traced = end.traced.each node there in
    let met : list_all (has node.generated.state) task.goals ≡ true =
    all_met task.goals node.generated.state (sym traced.unmet ∙ reason.2) in
    ap (λ acts. has_goals task.goals (leads_to task.acts task.init acts)) reason.3
    ∙ (ap (has_goals task.goals) traced.leads ∙ met)
