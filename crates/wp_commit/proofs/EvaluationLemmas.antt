-- Leaving the repeats out before children are evaluated is the same as leaving them out after it.
use Rattle.std.proofs.Common.{◌≡◌, ◌&&◌, ℕ, zero, suc, ◌+◌, ◌-◌, ◌<◌, ◌≤◌, Option, Some, None, inl, inr, nat_lt, cond, Bool, true, false, List, [], ◌∷◌, ◌++◌, length, map, refl, sym, ap, ◌∙◌, append_assoc, arith}
use Rattle.std.specs.Bool.{beq}
use Rattle.std.specs.Cmp.Lexicographic.{pointwise}
use Rattle.std.specs.Prelude.{IfSome}
use Rattle.std.specs.List.{All, list_any, range_with_len}
use Rattle.std.proofs.lemmas.List.{length-map}
use Rattle.std.proofs.lemmas.List.FromFn.{length-range_with_len}
use Rattle.std.proofs.lemmas.List.Elements.{All-nil, All-cons}
use Rattle.std.proofs.lemmas.List.Sums.{count_by-le-length, length-filter}
use Rattle.wp_task.specs.declared.acts.Act.{Act}
use Rattle.wp_task.specs.declared.track.Mark.{Mark}
use Rattle.wp_task.specs.Task.{PlanningTask, IsReachable, act_at, applies, applicable_in, leads_to, goal_counter, result_of}
use Rattle.wp_task.proofs.Members.{In, In-map_cases, In-filter_cases}
use Rattle.wp_task.proofs.PlanLemmas.{leads_to-step, length-result_of}
use Rattle.wp_count.specs.declared.brood.Child.{Child}
use Rattle.wp_count.specs.Broods.{EvaluatedNode, with_achieved, base_child, later_child, child_of, children_of}
use Rattle.wp_nodes.specs.declared.kept.Kept.{Kept}
use Rattle.wp_nodes.specs.KeptNodes.{Keeping, node_of}
use Rattle.wp_plain.specs.Expansion.{unseen}
use Rattle.wp_plain.proofs.UnseenLemmas.{unseen-few, unseen-all}
use Rattle.wp_ahead.specs.Jobs.{track_of}
use Rattle.wp_ahead.specs.KeptBroods.{IsBroodAt}
use Rattle.wp_commit.specs.declared.made.Evaluated.{Evaluated}
use Rattle.wp_commit.specs.declared.unseen.Reached.{Reached}
use Rattle.wp_commit.specs.MadeChildren.{reached_as, child_as}
use Rattle.wp_commit.proofs.ConditionLemmas.{all-from}
use Rattle.wp_commit.specs.Expansions.{states_of, successors_by, brood_of, AreNoRepeats}

-- one item more of a list that is made one by one
pub map-next : {X Y : Type 0} (f : X → Y) (done now : List Y) (x : X) (y : Y) (before left : List X) → before ≡ x ∷ left → now ≡ done ++ y ∷ [] →
    y ≡ f x → now ++ map f left ≡ done ++ map f before
map-next f done now x y before left steps pushed same =
    ap (λ l. l ++ map f left) pushed
    ∙ (append_assoc done (y ∷ []) (map f left)
    ∙ ((λ j. done ++ same j ∷ map f left) ∙ ap (λ l. done ++ map f l) (sym steps)))

-- what is unseen of made items is made of what is unseen
unseen-map : {X Y : Type 0} (f : X → Y) (one : X → List Bool) (other : Y → List Bool) → ((x : X) → other (f x) ≡ one x) →
    (seen : List (List Bool)) (xs : List X) → unseen other seen (map f xs) ≡ map f (unseen one seen xs)
unseen-map f one other same seen [] = refl
unseen-map {X = X} {Y = Y} f one other same seen (x ∷ xs) =
    ap (λ s. elim (list_any (pointwise beq s) seen) as (λ _. List Y) [
      | true ↦ unseen other seen (map f xs)
      | false ↦ f x ∷ unseen other (seen ++ s ∷ []) (map f xs)
    ]) (same x)
    ∙ by (list_any (pointwise beq (one x)) seen) (unseen-map f one other same seen xs) (unseen-map f one other same (seen ++ one x ∷ []) xs) where
      by : (b : Bool) → unseen other seen (map f xs) ≡ map f (unseen one seen xs) →
          unseen other (seen ++ one x ∷ []) (map f xs) ≡ map f (unseen one (seen ++ one x ∷ []) xs) →
          elim b as (λ _. List Y) [
            | true ↦ unseen other seen (map f xs)
            | false ↦ f x ∷ unseen other (seen ++ one x ∷ []) (map f xs)
          ]
          ≡ map f (elim b as (λ _. List X) [
            | true ↦ unseen one seen xs
            | false ↦ x ∷ unseen one (seen ++ one x ∷ []) xs
          ])
      by true there new = there
      by false there new = ap (λ l. f x ∷ l) new

map-again : {X Y Z : Type 0} (f : X → Y) (h : Y → Z) (xs : List X) → map h (map f xs) ≡ map (λ x. h (f x)) xs
map-again f h [] = refl
map-again f h (x ∷ xs) = ap (λ l. h (f x) ∷ l) (map-again f h xs)

module _ (task : PlanningTask) (mark : Mark) (track : List ℕ) where
  pub state-kept : (a : ℕ) (state : List Bool) → (child_of task mark track a state).state ≡ state
  state-kept a state = by (nat_lt (goal_counter task.goals state) mark.g) where
    by : (b : Bool) → (cond b (base_child task a state) (later_child task a state (with_achieved mark.got track state))).state ≡ state
    by true = refl
    by false = refl

  pub evaluated-unseen : (seen : List (List Bool)) (state : List Bool) →
      map (λ (x : Reached ℕ). child_of task mark track x.rest x.state) (unseen (λ x. x.state) seen (successors_by task.acts state (applicable_in task.acts state)))
      ≡ unseen (λ c. c.state) seen (children_of task state mark track)
  evaluated-unseen seen state =
      let numbers = applicable_in task.acts state in
      let child : Reached ℕ → Child = λ x. child_of task mark track x.rest x.state in
      sym (unseen-map child (λ x. x.state) (λ c. c.state) (λ x. state-kept x.rest x.state) seen (successors_by task.acts state numbers))
      ∙ ap (unseen (λ c. c.state) seen)
      (map-again (λ (a : ℕ). let x : Reached ℕ = record { state = result_of (act_at task.acts a) state; rest = a } in x) child numbers)

-- ---- states that are reached
leads_to-push : (acts : List Act) (state last : List Bool) (plan : List ℕ) (a : ℕ) → leads_to acts state plan ≡ Some last →
    a < length acts → applies (act_at acts a) last ≡ true → leads_to acts state (plan ++ a ∷ []) ≡ Some (result_of (act_at acts a) last)
leads_to-push acts state last [] a leads within applied =
    let same : state ≡ last = cc in
    ap (λ s. leads_to acts s (a ∷ [])) same ∙ leads_to-step acts last a [] within applied
leads_to-push acts state last (b ∷ plan) a leads within applied =
    by (nat_lt b (length acts) && applies (act_at acts b) state) leads (leads_to-push acts (result_of (act_at acts b) state) last plan a) where
      by : (t : Bool) → elim t as (λ _. Option (List Bool)) [ true ↦ leads_to acts (result_of (act_at acts b) state) plan | false ↦ None ] ≡ Some last →
          (leads_to acts (result_of (act_at acts b) state) plan ≡ Some last → a < length acts → applies (act_at acts a) last ≡ true →
          leads_to acts (result_of (act_at acts b) state) (plan ++ a ∷ []) ≡ Some (result_of (act_at acts a) last)) →
          elim t as (λ _. Option (List Bool)) [ true ↦ leads_to acts (result_of (act_at acts b) state) (plan ++ a ∷ []) | false ↦ None ]
          ≡ Some (result_of (act_at acts a) last)
      by true is rest = rest is within applied
      by false is rest = absurd (cc)

range-below : (a n k : ℕ) → In k (range_with_len a n) → k < a + n
range-below a zero k there = absurd there
range-below a (suc n) k (inl same) = omega arith
range-below a (suc n) k (inr later) = let below : k < a + 1 + n = range-below (a + 1) n k later in omega arith

-- the children of a node that can be reached can be reached
pub children-reached : (task : PlanningTask) (state : List Bool) (mark : Mark) (track : List ℕ) → IsReachable task state →
    All (λ c. IsReachable task c.state) (children_of task state mark track)
children-reached task state mark track from =
    all-from (λ (c : Child). IsReachable task c.state) (children_of task state mark track) (λ c there.
    let acts = task.acts in
    let child : ℕ → Child = λ a. child_of task mark track a (result_of (act_at acts a) state) in
    let found : (a : ℕ) × In a (applicable_in acts state) × (c ≡ child a) = In-map_cases child (applicable_in acts state) c there in
    let parts = In-filter_cases (λ a. applies (act_at acts a) state) (range_with_len 0 (length acts)) found.0 found.1 in
    let within : found.0 < 0 + length acts = range-below 0 (length acts) found.0 parts.0 in
    let state_is : c.state ≡ result_of (act_at acts found.0) state =
    ap (λ (d : Child). d.state) found.2 ∙ state-kept task mark track found.0 (result_of (act_at acts found.0) state) in
    record {
      actions = from.actions ++ found.0 ∷ [];
      leads = leads_to-push acts task.init state from.actions found.0 from.leads (omega arith) parts.1 ∙ ap (λ s. Some s) (sym state_is);
    })

-- ---- how many, and of what size
pub successors-sized : (acts : List Act) (state : List Bool) (atoms : ℕ) (numbers : List ℕ) → length state ≡ atoms →
    All (λ x. length x.state ≡ atoms) (successors_by acts state numbers)
successors-sized acts state atoms [] size = All-nil (λ (x : Reached ℕ). length x.state ≡ atoms)
successors-sized acts state atoms (a ∷ numbers) size =
    All-cons (λ (x : Reached ℕ). length x.state ≡ atoms) (record { state = result_of (act_at acts a) state; rest = a }) (successors_by acts state numbers)
    (length-result_of (act_at acts a) state ∙ size) (successors-sized acts state atoms numbers size)

pub unseen-sized : (acts : List Act) (state : List Bool) (atoms : ℕ) (numbers : List ℕ) (seen : List (List Bool)) (reached : List (Reached ℕ)) → length state ≡ atoms →
    reached ≡ unseen (λ x. x.state) seen (successors_by acts state numbers) → All (λ x. length x.state ≡ atoms) reached
unseen-sized acts state atoms numbers seen reached size is =
    rw is (unseen-all (λ (x : Reached ℕ). x.state) (λ x. length x.state ≡ atoms) seen (successors_by acts state numbers) (successors-sized acts state atoms numbers size))

pub successors-few : (acts : List Act) (state : List Bool) (numbers : List ℕ) (seen : List (List Bool)) (reached : List (Reached ℕ)) →
    reached ≡ unseen (λ x. x.state) seen (successors_by acts state numbers) → length reached ≤ length numbers
successors-few acts state numbers seen reached is =
    omega (
      arith,
      ap length is,
      unseen-few (λ (x : Reached ℕ). x.state) seen (successors_by acts state numbers),
      length-map numbers (λ (a : ℕ). let x : Reached ℕ = record { state = result_of (act_at acts a) state; rest = a } in x),
    )

pub applicable-few : (acts : List Act) (state : List Bool) → length (applicable_in acts state) ≤ length acts
applicable-few acts state =
    let test : ℕ → Bool = λ a. applies (act_at acts a) state in
    let numbers = range_with_len 0 (length acts) in
    omega (arith, length-filter test numbers, count_by-le-length test numbers, length-range_with_len 0 (length acts))

-- a node has no more children than there are actions
pub brood-few : (task : PlanningTask) (nodes : Keeping) (k : Kept) → length (brood_of task nodes k) ≤ length task.acts
brood-few task nodes k =
    let child : ℕ → Child = λ a. child_of task k.mark (track_of nodes k) a (result_of (act_at task.acts a) k.state) in
    omega (arith, length-map (applicable_in task.acts k.state) child, applicable-few task.acts k.state)

-- ---- the children that are evaluated now
pub evaluated-now : (task : PlanningTask) (nodes : Keeping) (k : Kept) (numbers track : List ℕ) (reached : List (Reached ℕ)) (children : List Child) (repeats : ℕ) →
    numbers ≡ applicable_in task.acts k.state → track ≡ track_of nodes k →
    reached ≡ unseen (λ y. y.state) (states_of nodes.kept) (successors_by task.acts k.state numbers) →
    children ≡ map (λ y. child_of task k.mark track y.rest y.state) reached → repeats ≡ length numbers - length reached →
    AreNoRepeats (states_of nodes.kept) (brood_of task nodes k) children repeats
evaluated-now task nodes k numbers track reached children repeats numbers_are track_is reached_are children_are repeats_are =
    let acts = task.acts in
    let brood : List Child = brood_of task nodes k in
    let child : ℕ → Child = λ a. child_of task k.mark (track_of nodes k) a (result_of (act_at acts a) k.state) in
    let made : Reached ℕ → Child = λ y. child_of task k.mark track y.rest y.state in
    let all : length brood ≡ length numbers = length-map (applicable_in acts k.state) child ∙ ap length (sym numbers_are) in
    let rest : length children ≡ length reached = ap length children_are ∙ length-map reached made in
    let few : length reached ≤ length numbers = successors-few acts k.state numbers (states_of nodes.kept) reached reached_are in
    record {
      unseen_are = children_are
          ∙ ((λ j. map (λ (y : Reached ℕ). child_of task k.mark (track_is j) y.rest y.state)
          ((reached_are ∙ ap (λ l. unseen (λ (y : Reached ℕ). y.state) (states_of nodes.kept) (successors_by acts k.state l)) numbers_are) j))
          ∙ evaluated-unseen task k.mark (track_of nodes k) (states_of nodes.kept) k.state);
      repeats_are = omega (arith, all, rest, few, repeats_are);
    }

-- ---- the children that were made ahead
-- a brood that is kept under a node's number is that node's
pub made-of : (task : PlanningTask) (nodes : Keeping) (number : ℕ) (k : Kept) (made : Option EvaluatedNode) → node_of nodes.kept number ≡ Some k →
    IfSome made (IsBroodAt task nodes number) → IfSome made (λ brood. brood.children ≡ brood_of task nodes k)
made-of task nodes number k None found is = tt
made-of task nodes number k (Some brood) found is =
    let same : is.node ≡ k = one (node_of nodes.kept number) is.node is.found found in
    ap (λ (b : EvaluatedNode). b.children) is.is ∙ ap (brood_of task nodes) same where
      one : (o : Option Kept) (x : Kept) → o ≡ Some x → o ≡ Some k → x ≡ k
      one o x first other = cc

same-children : (cs : List Child) → map (λ c. child_as (reached_as c)) cs ≡ cs
same-children [] = refl
same-children (c ∷ cs) = ap (λ l. c ∷ l) (same-children cs)

-- what is unseen of a brood, by its states
pub made-ahead : (seen : List (List Bool)) (brood : List Child) (reached : List (Reached Evaluated)) (children : List Child) (repeats : ℕ) →
    reached ≡ unseen (λ x. x.state) seen (map reached_as brood) → children ≡ map child_as reached → repeats ≡ length brood - length reached →
    AreNoRepeats seen brood children repeats
made-ahead seen brood reached children repeats reached_are children_are repeats_are =
    let left = unseen (λ (c : Child). c.state) seen brood in
    let are : reached ≡ map reached_as left =
    reached_are ∙ unseen-map reached_as (λ (c : Child). c.state) (λ (x : Reached Evaluated). x.state) (λ c. refl) seen brood in
    let same : children ≡ left = children_are ∙ (ap (map child_as) are ∙ (map-again reached_as child_as left ∙ same-children left)) in
    let count : length reached ≡ length left = ap length are ∙ length-map left reached_as in
    record {
      unseen_are = same;
      repeats_are = omega (arith, ap length same, count, unseen-few (λ (c : Child). c.state) seen brood, repeats_are);
    }

pub made-few : (seen : List (List Bool)) (brood : List Child) (reached : List (Reached Evaluated)) →
    reached ≡ unseen (λ x. x.state) seen (map reached_as brood) → length reached ≤ length brood
made-few seen brood reached are =
    omega (arith, ap length are, unseen-few (λ (x : Reached Evaluated). x.state) seen (map reached_as brood), length-map brood reached_as)
