-- Rounds that change something name as many different atoms. An atom that a round makes cheaper owes that to a
-- precondition that the round before made cheaper, and that costs less; so after as many rounds as there are atoms
-- nothing changes.
use Rattle.std.proofs.Common.{◌≡◌, ◌<◌, ◌≤◌, ℕ, zero, suc, Bool, true, false, List, [], ◌∷◌, length, map, get_or, eqb, refl, ap, ⊎_elim, arith}
use Rattle.std.specs.List.{IsDistinct, sum_by}
use Rattle.std.proofs.lemmas.Bool.{cases_lt, eqb-true, ne_eqb}
use Rattle.std.proofs.lemmas.List.{ext_get_or, get_or_past}
use Rattle.std.proofs.lemmas.List.Elements.{Contains-get_or, recursion_from_All}
use Rattle.std.proofs.lemmas.List.FromFn.{get_or-map-range_with_len, length-map-range_with_len}
use Rattle.std.proofs.lemmas.Map.Keys.{IsDistinct-cons}
use Rattle.std.proofs.lemmas.Map.Steps.{length-le_from_distinct_below}
use Rattle.wp_task.specs.declared.acts.Act.{Act}
use Rattle.wp_task.specs.Task.{act_at, adders_of}
use Rattle.wp_task.proofs.Members.{In, In-from_Contains, In-map, In-map_cases, list_any-at}
use Rattle.wp_relax.specs.AdditiveCost.{infinite, price_of, improved, next_costs, costs_after, costs_of}
use Rattle.wp_relax.specs.Laws.{CostsSettle}
use Rattle.wp_relax.proofs.CostLemmas.{length-costs_after, costs_after-bounded, improved-le}
use Rattle.wp_relax.proofs.SumLemmas.{fold_min-cases, fold_min-le, member-le-sum, less_part}

-- the cost of an atom after a number of rounds
abbrev pub cost_after : List Act → List Bool → ℕ → ℕ → ℕ
cost_after acts state d p = get_or (costs_after acts state d) p 0

pub next-at : (acts : List Act) (costs : List ℕ) (p : ℕ) → p < length costs → get_or (next_costs acts costs) p 0 ≡ improved acts costs p
next-at acts costs p within = get_or-map-range_with_len (improved acts costs) 0 (length costs) p p 0 within (omega arith)

none_past : (acts : List Act) (state : List Bool) (d p : ℕ) → length state ≤ p → cost_after acts state d p ≡ 0
none_past acts state d p past = get_or_past (costs_after acts state d) p 0 (omega (arith, length-costs_after acts state d))

pub falls : (acts : List Act) (state : List Bool) (d p : ℕ) → cost_after acts state (suc d) p ≤ cost_after acts state d p
falls acts state d p = ⊎_elim
    (λ (within : p < length state).
    omega (arith, next-at acts (costs_after acts state d) p (omega (arith, length-costs_after acts state d)), improved-le acts (costs_after acts state d) p))
    (λ (past : length state ≤ p). omega (arith, none_past acts state (suc d) p past))
    (cases_lt p (length state))

changed_within : (acts : List Act) (state : List Bool) (d p : ℕ) → cost_after acts state (suc d) p < cost_after acts state d p → p < length state
changed_within acts state d p changed = ⊎_elim
    (λ (within : p < length state). within)
    (λ (past : length state ≤ p). absurd (let none : cost_after acts state d p ≡ 0 = none_past acts state d p past in omega arith))
    (cases_lt p (length state))

-- what made an atom cheaper
pub record IsCause (acts : List Act) (state : List Bool) (d p q : ℕ) : Type 0 where
  pub changed : cost_after acts state (suc d) q < cost_after acts state d q
  pub cheaper : cost_after acts state (suc d) q < cost_after acts state (suc (suc d)) p

cause : (acts : List Act) (state : List Bool) (d p : ℕ) →
    cost_after acts state (suc (suc d)) p < cost_after acts state (suc d) p → (q : ℕ) × IsCause acts state d p q
cause acts state d p changed =
    let before = costs_after acts state d in
    let now = costs_after acts state (suc d) in
    let within : p < length state = changed_within acts state (suc d) p changed in
    let then_is : cost_after acts state (suc (suc d)) p ≡ improved acts now p =
    next-at acts now p (omega (arith, length-costs_after acts state (suc d))) in
    let now_is : cost_after acts state (suc d) p ≡ improved acts before p =
    next-at acts before p (omega (arith, length-costs_after acts state d)) in
    let bound : cost_after acts state (suc d) p ≤ infinite = costs_after-bounded acts state (suc d) p in
    let prices_now = map (λ a. price_of now (act_at acts a)) (adders_of acts p) in
    let prices_before = map (λ a. price_of before (act_at acts a)) (adders_of acts p) in
    ⊎_elim
    (λ (same : improved acts now p ≡ get_or now p 0). absurd (omega arith))
    (λ (priced : In (improved acts now p) prices_now).
    let by : (a : ℕ) × In a (adders_of acts p) × (improved acts now p ≡ price_of now (act_at acts a)) =
    In-map_cases (λ a. price_of now (act_at acts a)) (adders_of acts p) (improved acts now p) priced in
    let act = act_at acts by.0 in
    let is_price : improved acts now p ≡ price_of now act = by.2 in
    let least : improved acts before p ≤ price_of before act =
    fold_min-le (get_or before p 0) prices_before (price_of before act)
    (In-map (λ a. price_of before (act_at acts a)) (adders_of acts p) by.0 by.1) in
    let less : sum_by (λ k. get_or now k 0) act.pre < sum_by (λ k. get_or before k 0) act.pre = omega arith in
    let part : (q : ℕ) × In q act.pre × (get_or now q 0 < get_or before q 0) =
    less_part (λ k. get_or now k 0) (λ k. get_or before k 0) act.pre less in
    let small : get_or now part.0 0 ≤ sum_by (λ k. get_or now k 0) act.pre =
    member-le-sum (λ k. get_or now k 0) act.pre part.0 part.1 in
    let is_cause : IsCause acts state d p part.0 = record { changed = part.2; cheaper = omega arith } in
    let found : (q : ℕ) × IsCause acts state d p q = (part.0, is_cause) in
    found)
    (fold_min-cases (get_or now p 0) prices_now)

-- different atoms, one for each round, none of which costs more than p
pub record IsChain (acts : List Act) (state : List Bool) (d p : ℕ) (atoms : List ℕ) : Type 0 where
  pub len : length atoms ≡ suc d
  pub distinct : IsDistinct eqb atoms
  pub within : (x : ℕ) → In x atoms → x < length state
  pub cheap : (x : ℕ) → In x atoms → cost_after acts state (suc d) x ≤ cost_after acts state (suc d) p

pub apart_from_all : (p : ℕ) (xs : List ℕ) → ((x : ℕ) → In x xs → p ≡ x → ⊥) → IsDistinct eqb xs → IsDistinct eqb (p ∷ xs)
apart_from_all p xs apart distinct =
    IsDistinct-cons eqb p xs
    (recursion_from_All (λ y. eqb p y ≡ false) xs
    (λ k d inside. ne_eqb p (get_or xs k d) (apart (get_or xs k d) (In-from_Contains (get_or xs k d) xs (Contains-get_or xs k d inside)))))
    distinct

one_more : (acts : List Act) (state : List Bool) (d p q : ℕ) (atoms : List ℕ) →
    cost_after acts state (suc (suc d)) p < cost_after acts state (suc d) p → IsCause acts state d p q →
    IsChain acts state d q atoms → IsChain acts state (suc d) p (p ∷ atoms)
one_more acts state d p q atoms changed by chain = record {
  len = ap suc chain.len;
  distinct = apart_from_all p atoms
      (λ x there same.
      let e : cost_after acts state (suc d) p ≡ cost_after acts state (suc d) x = ap (cost_after acts state (suc d)) same in
      omega (arith, chain.cheap x there, by.cheaper))
      chain.distinct;
  within = λ x there. ⊎_elim
      (λ (same : x ≡ p). let inside : p < length state = changed_within acts state (suc d) p changed in omega arith)
      (λ (later : In x atoms). chain.within x later)
      there;
  cheap = λ x there. ⊎_elim
      (λ (same : x ≡ p). let e : cost_after acts state (suc (suc d)) x ≡ cost_after acts state (suc (suc d)) p = ap (cost_after acts state (suc (suc d))) same in omega arith)
      (λ (later : In x atoms). omega (arith, falls acts state (suc d) x, chain.cheap x later, by.cheaper))
      there;
}

chain : (acts : List Act) (state : List Bool) (d p : ℕ) → cost_after acts state (suc d) p < cost_after acts state d p →
    (atoms : List ℕ) × IsChain acts state d p atoms
unfolding IsDistinct
chain acts state zero p changed =
    let single : IsChain acts state zero p (p ∷ []) = record {
      len = refl;
      distinct = apart_from_all p [] (λ x none same. none) tt;
      within = λ x there. ⊎_elim
          (λ (same : x ≡ p). let inside : p < length state = changed_within acts state zero p changed in omega arith)
          (λ (none : ⊥). absurd none) there;
      cheap = λ x there. ⊎_elim
          (λ (same : x ≡ p). let e : cost_after acts state 1 x ≡ cost_after acts state 1 p = ap (cost_after acts state 1) same in omega arith)
          (λ (none : ⊥). absurd none) there;
    } in
    let found : (atoms : List ℕ) × IsChain acts state zero p atoms = (p ∷ [], single) in found
chain acts state (suc d) p changed =
    let by : (q : ℕ) × IsCause acts state d p q = cause acts state d p changed in
    let rest : (atoms : List ℕ) × IsChain acts state d by.0 atoms = chain acts state d by.0 by.1.changed in
    let found : (atoms : List ℕ) × IsChain acts state (suc d) p atoms =
    (p ∷ rest.0, one_more acts state d p by.0 rest.0 changed by.1 rest.1) in found

-- so many different atoms there are not
no_change : (acts : List Act) (state : List Bool) (p : ℕ) →
    cost_after acts state (suc (length state)) p < cost_after acts state (length state) p → ⊥
no_change acts state p changed =
    let found : (atoms : List ℕ) × IsChain acts state (length state) p atoms = chain acts state (length state) p changed in
    let few : length found.0 ≤ length state =
    length-le_from_distinct_below found.0 (length state) found.1.distinct
    (λ q is_there.
    let at : (x : ℕ) × In x found.0 × (eqb q x ≡ true) = list_any-at (eqb q) found.0 is_there in
    let same : q ≡ at.0 = eqb-true q at.0 at.2 in
    let inside : at.0 < length state = found.1.within at.0 at.1 in
    omega arith) in
    let many : length found.0 ≡ suc (length state) = found.1.len in
    omega arith

pub costs_settle : CostsSettle
costs_settle acts state =
    ext_get_or 0 (next_costs acts (costs_of acts state)) (costs_of acts state)
    (length-map-range_with_len (improved acts (costs_of acts state)) 0 (length (costs_of acts state)))
    (λ p within. ⊎_elim
    (λ (changed : cost_after acts state (suc (length state)) p < cost_after acts state (length state) p). absurd (no_change acts state p changed))
    (λ (kept : cost_after acts state (length state) p ≤ cost_after acts state (suc (length state)) p). omega (arith, falls acts state (length state) p))
    (cases_lt (cost_after acts state (suc (length state)) p) (cost_after acts state (length state) p)))
