-- The evaluated children of a node are the definition's successors, with their counters.
use Rattle.std.proofs.Common.{◌≡◌, ℕ, ◌+◌, nat_lt, Bool, true, false, List, [], ◌∷◌, ◌++◌, map, cond, refl, ap}
use Rattle.std.specs.Bool.{beq}
use Rattle.std.specs.Cmp.Lexicographic.{pointwise}
use Rattle.std.specs.List.{All, list_any}
use Rattle.std.proofs.lemmas.List.Elements.{All-head, All-tail}
use Rattle.wp_task.specs.declared.track.Mark.{Mark}
use Rattle.wp_task.specs.Task.{PlanningTask, act_at, applicable_in, goal_counter, result_of}
use Rattle.wp_task.specs.Novelty.{Generated}
use Rattle.wp_count.specs.declared.brood.Child.{Child}
use Rattle.wp_count.specs.Broods.{with_achieved, base_child, later_child, child_of, children_of}
use Rattle.wp_count.specs.Laws.{IsEvaluated}
use Rattle.wp_plain.specs.Nodes.{Successor}
use Rattle.wp_plain.specs.Expansion.{path_counters, successors_of, unseen, generated_at, fresh_of}
use Rattle.wp_plain.specs.Explored.{bare, numbered, all_numbered, ChildrenAreNumbered}
use Rattle.wp_plain.proofs.NodeLemmas.{pairs_in-numbered}

map-made : {X Y Z : Type 0} (f : X → Y) (h : Y → Z) (g : X → Z) → ((x : X) → h (f x) ≡ g x) → (xs : List X) → map h (map f xs) ≡ map g xs
map-made f h g same [] = refl
map-made f h g same (x ∷ xs) = λ j. same x j ∷ map-made f h g same xs j

bare-child : (task : PlanningTask) (mark : Mark) (track : List ℕ) (a : ℕ) (state : List Bool) →
    ◌≡◌ {A = Successor} (bare (child_of task mark track a state)) (record { act = a; state = state })
bare-child task mark track a state = by (nat_lt (goal_counter task.goals state) mark.g) where
  by : (b : Bool) → ◌≡◌ {A = Successor}
      (bare (cond b (base_child task a state) (later_child task a state (with_achieved mark.got track state))))
      (record { act = a; state = state })
  by true = refl
  by false = refl

pub bare-children : (task : PlanningTask) (state : List Bool) (mark : Mark) (track : List ℕ) →
    map bare (children_of task state mark track) ≡ successors_of task.acts state
bare-children task state mark track =
    map-made (λ a. child_of task mark track a (result_of (act_at task.acts a) state)) bare
    (λ a. record { act = a; state = result_of (act_at task.acts a) state })
    (λ a. bare-child task mark track a (result_of (act_at task.acts a) state)) (applicable_in task.acts state)

-- ---- what is unseen
pub unseen-bare : (seen : List (List Bool)) (cs : List Child) → unseen (λ x. x.state) seen (map bare cs) ≡ map bare (unseen (λ c. c.state) seen cs)
unseen-bare seen [] = refl
unseen-bare seen (c ∷ cs) = by (list_any (pointwise beq c.state) seen) (unseen-bare seen cs) (unseen-bare (seen ++ c.state ∷ []) cs) where
  by : (b : Bool) → unseen (λ x. x.state) seen (map bare cs) ≡ map bare (unseen (λ x. x.state) seen cs) →
      unseen (λ x. x.state) (seen ++ c.state ∷ []) (map bare cs) ≡ map bare (unseen (λ x. x.state) (seen ++ c.state ∷ []) cs) →
      elim b as (λ _. List Successor) [
        | true ↦ unseen (λ x. x.state) seen (map bare cs)
        | false ↦ bare c ∷ unseen (λ x. x.state) (seen ++ c.state ∷ []) (map bare cs)
      ]
      ≡ map bare (elim b as (λ _. List Child) [
        | true ↦ unseen (λ x. x.state) seen cs
        | false ↦ c ∷ unseen (λ x. x.state) (seen ++ c.state ∷ []) cs
      ])
  by true there new = there
  by false there new = ap (λ l. bare c ∷ l) new

-- ---- counters
pub fresh-numbered : (task : PlanningTask) (states : List (List Bool)) (track : List ℕ) (n : ℕ) (cs : List Child) →
    All (IsEvaluated task states track) cs → all_numbered n cs ≡ fresh_of (path_counters task) states n (map bare cs)
fresh-numbered task states track n [] evaluated = refl
fresh-numbered task states track n (c ∷ cs) evaluated =
    let counters = (All-head (IsEvaluated task states track) c cs evaluated).counters in
    let first : numbered n c ≡ generated_at (path_counters task) states n c.state =
    λ j. (let g : Generated = record { number = n; counters = (counters.unmet j, counters.relaxed j); state = c.state } in g) in
    λ j. first j ∷ fresh-numbered task states track (n + 1) cs (All-tail (IsEvaluated task states track) c cs evaluated) j

pub children_are_numbered : ChildrenAreNumbered
children_are_numbered = record {
  successors = bare-children;
  fresh = unseen-bare;
  numbered = fresh-numbered;
  pairs = pairs_in-numbered;
}
