-- Every two atoms of a reachable state are in each closed set.
use Rattle.std.proofs.Common.{◌≡◌, ◌&&◌, ◌||◌, not, ℕ, nat_lt, ◌<◌, Bool, true, false, List, [], ◌∷◌, Option, Some, None, length, get_or, refl, sym, ap, ◌∙◌, subst, ⊎_elim, arith}
use Rattle.std.proofs.lemmas.Bool.{cases_Bool, ltb-true, and_parts, and_from, or_cases, or_left, or_right}
use Rattle.std.proofs.lemmas.List.{get_or_default}
use Rattle.std.proofs.lemmas.List.FromFn.{get_or-map-range_with_len}
use Rattle.wp_task.specs.declared.acts.Act.{Act}
use Rattle.wp_task.specs.Set.{has, lists}
use Rattle.wp_task.specs.Task.{act_at, applies, result_of, leads_to}
use Rattle.wp_task.proofs.Members.{In-at, Contains-from_In, list_all-at, list_all-from}
use Rattle.wp_task.proofs.PlanLemmas.{leads_to-step, length-result_of}
use Rattle.std.specs.List.{Contains}
use Rattle.wp_mutex.specs.PossiblePairs.{joins, joins_all, may_apply, may_follow, possible_pairs, HasPairsOf, IsStep}
use Rattle.wp_mutex.specs.Laws.{ReachablePairsArePossible}
use Rattle.wp_mutex.proofs.PairLemmas.{joins-swap}
use Rattle.wp_mutex.proofs.LeastClosed.{below_size, possible_closed}

module _ (acts : List Act) (n : ℕ) (pairs : List (List Bool)) (steps : IsStep acts n (joins pairs) pairs) where
  module _ (act : Act) (among : Contains acts act) (state : List Bool) (size : length state ≡ n) (passes : applies act state ≡ true)
      (known : HasPairsOf state pairs) where
    may : may_apply (joins pairs) act ≡ true
    may = list_all-from (joins_all (joins pairs) act.pre) act.pre (λ q there.
        list_all-from (λ p. joins pairs p q) act.pre (λ p with_it.
        known p q (list_all-at (has state) act.pre passes p with_it) (list_all-at (has state) act.pre passes q there)))

    beside : (q : ℕ) → has state q ≡ true → joins_all (joins pairs) act.pre q ≡ true
    beside q there = list_all-from (λ p. joins pairs p q) act.pre (λ p with_it.
        known p q (list_all-at (has state) act.pre passes p with_it) there)

    abbrev stays : ℕ → Bool
    stays p = has state p && not (lists act.del p)

    next_has : (p : ℕ) → has (result_of act state) p ≡ true → (p < n) × ((stays p || lists act.add p) ≡ true)
    next_has p there =
        let inside : p < length (result_of act state) = below_size (result_of act state) p there in
        let below : p < n = omega (arith, length-result_of act state) in (
          below,
          sym (get_or-map-range_with_len (λ k. stays k || lists act.add k) 0 (length state) p p false (omega arith) (omega arith)) ∙ there,
        )

    follows : (q : ℕ) → (stays q || lists act.add q) ≡ true → may_follow (joins pairs) act q ≡ true
    follows q there = ⊎_elim
        (λ (kept : stays q ≡ true).
        let parts = and_parts (has state q) (not (lists act.del q)) kept in
        or_right (lists act.add q) ((joins pairs q q && joins_all (joins pairs) act.pre q) && not (lists act.del q))
        (and_from (joins pairs q q && joins_all (joins pairs) act.pre q) (not (lists act.del q))
        (and_from (joins pairs q q) (joins_all (joins pairs) act.pre q) (known q q parts.0 parts.0) (beside q parts.0)) parts.1))
        (λ (added : lists act.add q ≡ true).
        or_left (lists act.add q) ((joins pairs q q && joins_all (joins pairs) act.pre q) && not (lists act.del q)) added)
        (or_cases (stays q) (lists act.add q) there)

    pub next_known : HasPairsOf (result_of act state) pairs
    next_known p q one other =
        let first = next_has p one in
        let second = next_has q other in
        ⊎_elim
        (λ (kept : stays p ≡ true). ⊎_elim
        (λ (both : stays q ≡ true).
        known p q (and_parts (has state p) (not (lists act.del p)) kept).0 (and_parts (has state q) (not (lists act.del q)) both).0)
        (λ (added : lists act.add q ≡ true).
        joins-swap pairs p q ∙ steps act q p among second.0 first.0 may added (follows p first.1))
        (or_cases (stays q) (lists act.add q) second.1))
        (λ (added : lists act.add p ≡ true). steps act p q among first.0 second.0 may added (follows q second.1))
        (or_cases (stays p) (lists act.add p) first.1)

  not_some : (state : List Bool) → None ≡ Some state → ⊥
  not_some state same = absurd (cc)

  pub led_known : (plan : List ℕ) (from state : List Bool) → length from ≡ n → HasPairsOf from pairs →
      leads_to acts from plan ≡ Some state → HasPairsOf state pairs
  led_known [] from state size known leads =
      let same : from ≡ state = (let inner : Some from ≡ Some state = leads in cc) in
      subst (λ (s : List Bool). HasPairsOf s pairs) same known
  led_known (a ∷ plan) from state size known leads = ⊎_elim
      (λ (goes : (nat_lt a (length acts) && applies (act_at acts a) from) ≡ true).
      let parts = and_parts (nat_lt a (length acts)) (applies (act_at acts a) from) goes in
      let within : a < length acts = ltb-true a (length acts) parts.0 in
      let there : get_or acts a (act_at acts a) ≡ act_at acts a =
      get_or_default acts a (act_at acts a) (record { pre = []; add = []; del = [] }) within in
      let among : Contains acts (act_at acts a) = Contains-from_In (act_at acts a) acts (In-at (act_at acts a) acts a within there) in
      led_known plan (result_of (act_at acts a) from) state (length-result_of (act_at acts a) from ∙ size)
      (next_known (act_at acts a) among from size parts.1 known)
      (sym (leads_to-step acts from a plan within parts.1) ∙ leads))
      (λ (stops : (nat_lt a (length acts) && applies (act_at acts a) from) ≡ false).
      let none : leads_to acts from (a ∷ plan) ≡ None =
      ap (λ (b : Bool). elim b as (λ _. Option (List Bool)) [ true ↦ leads_to acts (result_of (act_at acts a) from) plan | false ↦ None ]) stops in
      absurd (not_some state (sym none ∙ leads)))
      (cases_Bool (nat_lt a (length acts) && applies (act_at acts a) from))

pub reachable_pairs : ReachablePairsArePossible
reachable_pairs task state reached =
    led_known task.acts (length task.init) (possible_pairs task.acts task.init) (possible_closed task.acts task.init).steps
    reached.actions task.init state refl (possible_closed task.acts task.init).opening reached.leads
