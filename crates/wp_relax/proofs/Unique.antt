-- One table of costs meets the fixpoint facts. By induction on the cost: a finite price is above the costs of the
-- preconditions, so these agree first.
use Rattle.std.proofs.Common.{◌≡◌, ◌⊎◌, ◌<◌, ◌≤◌, ◌+◌, ℕ, zero, suc, Bool, true, false, cond, List, length, map, get_or, sym, ap, ◌∙◌, subst, inl, inr, ⊎_elim, arith}
use Rattle.std.specs.List.{sum_by, range_with_len}
use Rattle.std.proofs.lemmas.Bool.{cases_lt, cases_Bool, both_ways}
use Rattle.std.proofs.lemmas.List.{ext_get_or, get_or_past, get_or-map}
use Rattle.std.proofs.lemmas.List.Elements.{All-contains}
use Rattle.std.proofs.lemmas.List.FromFn.{get_or-range_with_len, length-range_with_len}
use Rattle.wp_task.specs.declared.acts.Act.{Act}
use Rattle.wp_task.specs.Set.{has, lists}
use Rattle.wp_task.specs.Task.{act_at, adders_of}
use Rattle.wp_task.proofs.Members.{In, In-at, Contains-from_In, In-filter, In-filter_cases, In-map, In-map_cases}
use Rattle.wp_task.proofs.TaskLemmas.{adders_below}
use Rattle.wp_relax.specs.AdditiveCost.{infinite, price_of, improved, costs_after, costs_of}
use Rattle.wp_relax.specs.Laws.{IsAdder, IsFixed, OneTable}
use Rattle.wp_relax.proofs.CostLemmas.{length-costs_after, costs_after-bounded}
use Rattle.wp_relax.proofs.Settling.{cost_after, next-at, falls, costs_settle}
use Rattle.wp_relax.proofs.SumLemmas.{fold_min-cases, fold_min-le, member-le-sum, sum-le}

pub price-le : (b c : List ℕ) (act : Act) → ((q : ℕ) → In q act.pre → get_or b q 0 ≤ get_or c q 0) → price_of b act ≤ price_of c act
price-le b c act each =
    let sums : sum_by (λ k. get_or b k 0) act.pre ≤ sum_by (λ k. get_or c k 0) act.pre =
    sum-le (λ k. get_or b k 0) (λ k. get_or c k 0) act.pre each in
    omega arith

-- ---- adders
pub adder-in : (acts : List Act) (p a : ℕ) → IsAdder acts p a → In a (adders_of acts p)
adder-in acts p a adder =
    let place : get_or (range_with_len 0 (length acts)) a a ≡ a =
    get_or-range_with_len 0 (length acts) a a adder.number ∙ (let e : 0 + a ≡ a = omega arith in e) in
    In-filter (λ b. lists (act_at acts b).add p) (range_with_len 0 (length acts)) a
    (In-at a (range_with_len 0 (length acts)) a (let n : a < length acts = adder.number in omega (arith, length-range_with_len 0 (length acts))) place)
    adder.adds

pub adder-from : (acts : List Act) (p a : ℕ) → In a (adders_of acts p) → IsAdder acts p a
adder-from acts p a there = record {
  number = All-contains (λ b. b < length acts) (adders_of acts p) a (adders_below acts p) (Contains-from_In a (adders_of acts p) there);
  adds = (In-filter_cases (λ b. lists (act_at acts b).add p) (range_with_len 0 (length acts)) a there).1;
}

-- ---- the defined costs are fixed
first_cost : (acts : List Act) (state : List Bool) (p : ℕ) → p < length state → cost_after acts state zero p ≡ cond (has state p) 0 infinite
first_cost acts state p within = get_or-map (λ there. cond there 0 infinite) state p false 0 within

there_first : (acts : List Act) (state : List Bool) (d p : ℕ) → has state p ≡ true → cost_after acts state d p ≡ 0
there_first acts state zero p there = ⊎_elim
    (λ (within : p < length state). first_cost acts state p within ∙ ap (λ b. cond b 0 infinite) there)
    (λ (past : length state ≤ p). absurd (both_ways (has state p) (get_or_past state p false past) there))
    (cases_lt p (length state))
there_first acts state (suc d) p there = omega (arith, falls acts state d p, there_first acts state d p there)

caused : (acts : List Act) (state : List Bool) (d p : ℕ) → p < length state → cost_after acts state d p < infinite →
    (has state p ≡ true) ⊎ ((a : ℕ) × IsAdder acts p a × (price_of (costs_after acts state d) (act_at acts a) ≤ cost_after acts state d p))
caused acts state zero p within small = ⊎_elim
    (λ (there : has state p ≡ true). inl there)
    (λ (lacks : has state p ≡ false). absurd (
    let none : cost_after acts state zero p ≡ infinite = first_cost acts state p within ∙ ap (λ b. cond b 0 infinite) lacks in omega arith))
    (cases_Bool (has state p))
caused acts state (suc d) p within small =
    let before = costs_after acts state d in
    let now = costs_after acts state (suc d) in
    let is : cost_after acts state (suc d) p ≡ improved acts before p =
    next-at acts before p (omega (arith, length-costs_after acts state d)) in
    let cheaper : (a : ℕ) → price_of now (act_at acts a) ≤ price_of before (act_at acts a) =
    λ a. price-le now before (act_at acts a) (λ q needed. falls acts state d q) in
    ⊎_elim
    (λ (same : improved acts before p ≡ get_or before p 0). ⊎_elim
    (λ (there : has state p ≡ true). inl there)
    (λ (old : (a : ℕ) × IsAdder acts p a × (price_of before (act_at acts a) ≤ cost_after acts state d p)).
    let bound : price_of before (act_at acts old.0) ≤ cost_after acts state d p = old.2 in
    let le : price_of now (act_at acts old.0) ≤ cost_after acts state (suc d) p = omega (arith, cheaper old.0) in
    let found : (a : ℕ) × IsAdder acts p a × (price_of now (act_at acts a) ≤ cost_after acts state (suc d) p) = (old.0, old.1, le) in
    inr found)
    (caused acts state d p within (omega arith)))
    (λ (priced : In (improved acts before p) (map (λ a. price_of before (act_at acts a)) (adders_of acts p))).
    let by : (a : ℕ) × In a (adders_of acts p) × (improved acts before p ≡ price_of before (act_at acts a)) =
    In-map_cases (λ a. price_of before (act_at acts a)) (adders_of acts p) (improved acts before p) priced in
    let price : improved acts before p ≡ price_of before (act_at acts by.0) = by.2 in
    let le : price_of now (act_at acts by.0) ≤ cost_after acts state (suc d) p = omega (arith, cheaper by.0) in
    let found : (a : ℕ) × IsAdder acts p a × (price_of now (act_at acts a) ≤ cost_after acts state (suc d) p) =
    (by.0, adder-from acts p by.0 by.1, le) in
    inr found)
    (fold_min-cases (get_or before p 0) (map (λ a. price_of before (act_at acts a)) (adders_of acts p)))

pub costs_fixed : (acts : List Act) (state : List Bool) → IsFixed acts state (costs_of acts state)
costs_fixed acts state =
    let costs = costs_of acts state in
    record {
      size = length-costs_after acts state (length state);
      most = λ p. costs_after-bounded acts state (length state) p;
      there = λ p here. there_first acts state (length state) p here;
      least = λ p a within adder.
          let is : get_or costs p 0 ≡ improved acts costs p =
          sym (ap (λ (l : List ℕ). get_or l p 0) (costs_settle acts state))
          ∙ next-at acts costs p (omega (arith, length-costs_after acts state (length state))) in
          let le : improved acts costs p ≤ price_of costs (act_at acts a) =
          fold_min-le (get_or costs p 0) (map (λ b. price_of costs (act_at acts b)) (adders_of acts p)) (price_of costs (act_at acts a))
          (In-map (λ b. price_of costs (act_at acts b)) (adders_of acts p) a (adder-in acts p a adder)) in
          omega arith;
      cause = λ p within small. caused acts state (length state) p within small;
    }

-- ---- two fixed tables are one
-- one step of the induction: where c is not above b at what costs less in b, it is not above b at p
step : (acts : List Act) (state : List Bool) (b c : List ℕ) → IsFixed acts state b → IsFixed acts state c → (p : ℕ) →
    get_or b p 0 < infinite → ((q : ℕ) → get_or b q 0 < get_or b p 0 → get_or c q 0 ≤ get_or b q 0) → get_or c p 0 ≤ get_or b p 0
step acts state b c fb fc p finite smaller = ⊎_elim
    (λ (within : p < length state). ⊎_elim
    (λ (there : has state p ≡ true). let none : get_or c p 0 ≡ 0 = fc.there p there in omega arith)
    (λ (by : (a : ℕ) × IsAdder acts p a × (price_of b (act_at acts a) ≤ get_or b p 0)).
    let act = act_at acts by.0 in
    let bound : price_of b act ≤ get_or b p 0 = by.2 in
    let least : get_or c p 0 ≤ price_of c act = fc.least p by.0 within by.1 in
    let cheaper : price_of c act ≤ price_of b act =
    price-le c b act (λ q needed. smaller q
    (let part : get_or b q 0 ≤ sum_by (λ k. get_or b k 0) act.pre = member-le-sum (λ k. get_or b k 0) act.pre q needed in omega arith)) in
    omega arith)
    (fb.cause p within finite))
    (λ (past : length state ≤ p).
    let size : length c ≡ length state = fc.size in
    let none : get_or c p 0 ≡ 0 = get_or_past c p 0 (omega arith) in omega arith)
    (cases_lt p (length state))

not_above : (acts : List Act) (state : List Bool) (b c : List ℕ) → IsFixed acts state b → IsFixed acts state c →
    (k p : ℕ) → get_or b p 0 < k → get_or b p 0 < infinite → get_or c p 0 ≤ get_or b p 0
not_above acts state b c fb fc zero p small finite = absurd (omega arith)
not_above acts state b c fb fc (suc k) p small finite =
    step acts state b c fb fc p finite (λ q less. not_above acts state b c fb fc k q (omega arith) (omega arith))

le_everywhere : (acts : List Act) (state : List Bool) (b c : List ℕ) → IsFixed acts state b → IsFixed acts state c →
    (p : ℕ) → get_or c p 0 ≤ get_or b p 0
le_everywhere acts state b c fb fc p = ⊎_elim
    (λ (finite : get_or b p 0 < infinite). not_above acts state b c fb fc (suc (get_or b p 0)) p (omega arith) finite)
    (λ (most : infinite ≤ get_or b p 0). let bound : get_or c p 0 ≤ infinite = fc.most p in omega arith)
    (cases_lt (get_or b p 0) infinite)

pub one_table : OneTable
one_table acts state costs =
    let defined = costs_of acts state in
    let fixed = costs_fixed acts state in (
      λ also.
          ext_get_or 0 costs defined (also.size ∙ sym fixed.size)
          (λ p within. omega (arith, le_everywhere acts state defined costs fixed also p, le_everywhere acts state costs defined also fixed p)),
      λ is. subst (IsFixed acts state) (sym is) fixed,
    )
