-- How many costs there are after each round, and that none is above infinite.
use Rattle.std.proofs.Common.{◌≡◌, ◌≤◌, ◌<◌, ℕ, zero, suc, min, Bool, true, false, cond, List, [], ◌∷◌, length, map, get_or, ap, ◌∙◌, ⊎_elim, arith}
use Rattle.std.specs.List.{All, fold}
use Rattle.std.proofs.lemmas.Bool.{cases_lt}
use Rattle.std.proofs.lemmas.List.{length-map, get_or-map, get_or_past}
use Rattle.std.proofs.lemmas.List.Elements.{All-same, All-from_get_or}
use Rattle.std.proofs.lemmas.List.FromFn.{length-map-range_with_len, get_or-map-range_with_len}
use Rattle.wp_task.specs.declared.acts.Act.{Act}
use Rattle.wp_task.specs.Task.{act_at, adders_of}
use Rattle.wp_relax.specs.AdditiveCost.{infinite, price_of, improved, next_costs, costs_after, costs_of}

pub length-costs_after : (acts : List Act) (state : List Bool) (d : ℕ) → length (costs_after acts state d) ≡ length state
length-costs_after acts state zero = length-map state (λ there. cond there 0 infinite)
length-costs_after acts state (suc d) =
    length-map-range_with_len (improved acts (costs_after acts state d)) 0 (length (costs_after acts state d))
    ∙ length-costs_after acts state d

pub first-le : (there : Bool) → cond there 0 infinite ≤ infinite
first-le there = elim there as (λ b. cond b 0 infinite ≤ infinite) [ true ↦ omega arith | false ↦ omega arith ]

-- a running least is at most where it began
fold_min-le : (a : ℕ) (xs : List ℕ) → fold min a xs ≤ a
fold_min-le a [] = omega arith
fold_min-le a (x ∷ xs) = omega (arith, fold_min-le (min a x) xs)

pub improved-le : (acts : List Act) (costs : List ℕ) (p : ℕ) → improved acts costs p ≤ get_or costs p 0
improved-le acts costs p = fold_min-le (get_or costs p 0) (map (λ a. price_of costs (act_at acts a)) (adders_of acts p))

pub costs_after-bounded : (acts : List Act) (state : List Bool) (d p : ℕ) → get_or (costs_after acts state d) p 0 ≤ infinite
costs_after-bounded acts state zero p = ⊎_elim
    (λ (within : p < length state).
    let here : get_or (map (λ there. cond there 0 infinite) state) p 0 ≡ cond (get_or state p false) 0 infinite =
    get_or-map (λ there. cond there 0 infinite) state p false 0 within in
    let small : cond (get_or state p false) 0 infinite ≤ infinite = first-le (get_or state p false) in
    omega arith)
    (λ (past : length state ≤ p).
    let none : get_or (map (λ there. cond there 0 infinite) state) p 0 ≡ 0 =
    get_or_past (map (λ there. cond there 0 infinite) state) p 0 (omega (arith, length-map state (λ there. cond there 0 infinite))) in
    omega arith)
    (cases_lt p (length state))
costs_after-bounded acts state (suc d) p =
    let costs = costs_after acts state d in
    ⊎_elim
    (λ (within : p < length costs).
    let here : get_or (next_costs acts costs) p 0 ≡ improved acts costs p =
    get_or-map-range_with_len (improved acts costs) 0 (length costs) p p 0 within (omega arith) in
    omega (arith, improved-le acts costs p, costs_after-bounded acts state d p))
    (λ (past : length costs ≤ p).
    let none : get_or (next_costs acts costs) p 0 ≡ 0 =
    get_or_past (next_costs acts costs) p 0
    (omega (arith, length-map-range_with_len (improved acts costs) 0 (length costs))) in
    omega arith)
    (cases_lt p (length costs))

pub length-costs_of : (acts : List Act) (state : List Bool) (costs : List ℕ) → costs ≡ costs_of acts state → length costs ≡ length state
length-costs_of acts state costs is = ap length is ∙ length-costs_after acts state (length state)

pub costs_of-bounded : (acts : List Act) (state : List Bool) (costs : List ℕ) → costs ≡ costs_of acts state →
    All (λ cost. cost ≤ infinite) costs
costs_of-bounded acts state costs is =
    All-same (λ cost. cost ≤ infinite) costs (costs_of acts state) is
    (All-from_get_or (λ cost. cost ≤ infinite) (costs_of acts state) 0 (λ p within. costs_after-bounded acts state (length state) p))
