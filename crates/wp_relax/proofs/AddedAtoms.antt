-- What the supporters of the wanted atoms add is what the relaxed plan adds.
use Rattle.std.proofs.Common.{◌≡◌, ◌<◌, ◌≤◌, ◌&&◌, not, ℕ, Bool, true, false, Option, Some, None, List, [], length, get_or, refl, sym, ap, ◌∙◌, ⊎_elim}
use Rattle.std.specs.List.{All, filter, range_with_len}
use Rattle.std.proofs.lemmas.Bool.{cases_lt, both_ways, and_parts, and_from, eqb-true, eq-eqb, cond-true}
use Rattle.std.proofs.lemmas.List.{get_or_past}
use Rattle.std.proofs.lemmas.List.Elements.{All-contains, filter_agree, filter_passes}
use Rattle.std.proofs.lemmas.List.Sorted.{All-permutation, Contains-permutation}
use Rattle.wp_task.specs.declared.acts.Act.{Act}
use Rattle.wp_task.specs.Set.{has, lists, atoms_in}
use Rattle.wp_task.specs.Task.{act_at}
use Rattle.wp_task.proofs.Members.{In, In-filter, In-from_Contains, Contains-from_In, list_any-at, list_any-from}
use Rattle.wp_relax.specs.AdditiveCost.{price_of, costs_of, supporters_of, pricing_of}
use Rattle.wp_relax.specs.RelaxedPlan.{adds, is_for, supports, in_order, in_reach, wanted_of, is_added, is_wanted_added, added_by, relaxed_atoms_of, relaxed_plan_of}
use Rattle.wp_relax.proofs.Listed.{In-range}
use Rattle.wp_relax.proofs.OrderLemmas.{in_order-moves}

same_truth : (b c : Bool) → (b ≡ true → c ≡ true) → (c ≡ true → b ≡ true) → b ≡ c
same_truth true c to from = sym (to refl)
same_truth false true to from = from refl
same_truth false false to from = refl

is_for-some : (o : Option ℕ) (a : ℕ) → is_for o a ≡ true → o ≡ Some a
is_for-some None a is = absurd (cc)
is_for-some (Some b) a is = ap Some (eqb-true b a is)

adds-some : (acts : List Act) (o : Option ℕ) (q : ℕ) → adds acts o q ≡ true → (a : ℕ) × (o ≡ Some a) × (lists (act_at acts a).add q ≡ true)
adds-some acts None q is = absurd (cc)
adds-some acts (Some a) q is = let found : (b : ℕ) × (Some a ≡ Some b) × (lists (act_at acts b).add q ≡ true) = (a, refl, is) in found

-- what adds something is an action
adds-number : (acts : List Act) (a q : ℕ) → lists (act_at acts a).add q ≡ true → a < length acts
adds-number acts a q is = ⊎_elim
    (λ (within : a < length acts). within)
    (λ (past : length acts ≤ a).
    let nothing : act_at acts a ≡ act_at [] 0 = get_or_past acts a (act_at [] 0) past in
    absurd (both_ways (lists (act_at acts a).add q) (ap (λ (act : Act). lists act.add q) nothing) is))
    (cases_lt a (length acts))

module _ (acts : List Act) (supporters : List (Option ℕ)) (wanted : List Bool) (price : ℕ → ℕ) (q : ℕ) where
  abbrev among : List ℕ
  among = filter (supports supporters wanted) (range_with_len 0 (length acts))

  abbrev plan : List ℕ
  plan = in_order price among

  abbrev atoms : List ℕ
  atoms = range_with_len 0 (length wanted)

  to : is_added acts plan q ≡ true → is_wanted_added acts supporters wanted q ≡ true
  to added =
      let by : (a : ℕ) × In a plan × (lists (act_at acts a).add q ≡ true) = list_any-at (λ a. lists (act_at acts a).add q) plan added in
      let each : All (λ a. supports supporters wanted a ≡ true) plan =
      All-permutation (λ a. supports supporters wanted a ≡ true) among plan (in_order-moves price among)
      (λ k d within. filter_passes (supports supporters wanted) (range_with_len 0 (length acts)) k d within) in
      let is : supports supporters wanted by.0 ≡ true =
      All-contains (λ a. supports supporters wanted a ≡ true) plan by.0 each (Contains-from_In by.0 plan by.1) in
      let atom : (p : ℕ) × In p atoms × ((is_for (get_or supporters p None) by.0 && has wanted p) ≡ true) =
      list_any-at (λ p. is_for (get_or supporters p None) by.0 && has wanted p) atoms is in
      let parts : (is_for (get_or supporters atom.0 None) by.0 ≡ true) × (has wanted atom.0 ≡ true) =
      and_parts (is_for (get_or supporters atom.0 None) by.0) (has wanted atom.0) atom.2 in
      list_any-from (λ p. has wanted p && adds acts (get_or supporters p None) q) atoms atom.0 atom.1
      (and_from (has wanted atom.0) (adds acts (get_or supporters atom.0 None) q) parts.1
      (ap (λ (o : Option ℕ). adds acts o q) (is_for-some (get_or supporters atom.0 None) by.0 parts.0) ∙ by.2))

  from : is_wanted_added acts supporters wanted q ≡ true → is_added acts plan q ≡ true
  from added =
      let atom : (p : ℕ) × In p atoms × ((has wanted p && adds acts (get_or supporters p None) q) ≡ true) =
      list_any-at (λ p. has wanted p && adds acts (get_or supporters p None) q) atoms added in
      let parts : (has wanted atom.0 ≡ true) × (adds acts (get_or supporters atom.0 None) q ≡ true) =
      and_parts (has wanted atom.0) (adds acts (get_or supporters atom.0 None) q) atom.2 in
      let by : (a : ℕ) × (get_or supporters atom.0 None ≡ Some a) × (lists (act_at acts a).add q ≡ true) =
      adds-some acts (get_or supporters atom.0 None) q parts.1 in
      let number : by.0 < length acts = adds-number acts by.0 q by.2 in
      let is : supports supporters wanted by.0 ≡ true =
      list_any-from (λ p. is_for (get_or supporters p None) by.0 && has wanted p) atoms atom.0 atom.1
      (and_from (is_for (get_or supporters atom.0 None) by.0) (has wanted atom.0)
      (ap (λ (o : Option ℕ). is_for o by.0) by.1 ∙ eq-eqb by.0 by.0 refl) parts.0) in
      let there : In by.0 among = In-filter (supports supporters wanted) (range_with_len 0 (length acts)) by.0 (In-range (length acts) by.0 number) is in
      let planned : In by.0 plan =
      In-from_Contains by.0 plan (Contains-permutation among plan by.0 (in_order-moves price among) (Contains-from_In by.0 among there)) in
      list_any-from (λ a. lists (act_at acts a).add q) plan by.0 planned by.2

  pub same-added : is_added acts plan q ≡ is_wanted_added acts supporters wanted q
  same-added = same_truth (is_added acts plan q) (is_wanted_added acts supporters wanted q) to from

pub relaxed_atoms-are : (acts : List Act) (goals : List ℕ) (state : List Bool) (costs : List ℕ) (supporters : List (Option ℕ)) (wanted added : List Bool) →
    costs ≡ costs_of acts state → supporters ≡ supporters_of acts state (costs_of acts state) →
    wanted ≡ wanted_of acts goals state supporters → in_reach goals costs ≡ true → length added ≡ length state →
    ((q : ℕ) → has added q ≡ (is_wanted_added acts supporters wanted q && not (has state q))) →
    atoms_in added ≡ relaxed_atoms_of acts goals state
relaxed_atoms-are acts goals state costs supporters wanted added costs_are supporters_are wanted_are reached size flags =
    let pricing = pricing_of acts state in
    let wants = wanted_of acts goals state pricing.supporters in
    let price : ℕ → ℕ = λ a. price_of pricing.costs (act_at acts a) in
    let plan = in_order price (filter (supports pricing.supporters wants) (range_with_len 0 (length acts))) in
    let is_wanted : wanted ≡ wants = wanted_are ∙ ap (wanted_of acts goals state) supporters_are in
    let is_in_reach : in_reach goals pricing.costs ≡ true = sym (ap (in_reach goals) costs_are) ∙ reached in
    let planned : relaxed_plan_of acts goals state ≡ Some plan = cond-true (in_reach goals pricing.costs) (Some plan) None is_in_reach in
    let each : (q : ℕ) → has added q ≡ (is_added acts plan q && not (has state q)) =
    λ q. flags q
    ∙ ((λ j. is_wanted_added acts (supporters_are j) (is_wanted j) q && not (has state q))
    ∙ sym (ap (λ (b : Bool). b && not (has state q)) (same-added acts pricing.supporters wants price q))) in
    filter_agree (has added) (λ q. is_added acts plan q && not (has state q)) each (range_with_len 0 (length added))
    ∙ (ap (λ (n : ℕ). filter (λ q. is_added acts plan q && not (has state q)) (range_with_len 0 n)) size
    ∙ sym (ap (added_by acts state) planned))
