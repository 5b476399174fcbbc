-- An atom of least cost is settled: the actions that need it have one precondition fewer left, and the price of each is
-- above the cost of the atom.
use Rattle.std.proofs.Common.{◌≡◌, ◌⊎◌, ◌<◌, ◌≤◌, ◌+◌, ◌-◌, not, ℕ, min, Bool, true, false, cond, List, [], length, get_or, set, sym, ap, ◌∙◌, subst, inl, inr, ⊎_elim, arith, length-set}
use Rattle.std.specs.List.{All, sum_by, range_with_len}
use Rattle.std.proofs.lemmas.Bool.{cases_eq, cases_Bool, both_ways, not_from_true, not_from_false, cond-true, cond-false}
use Rattle.std.proofs.lemmas.List.{get_or-set_same, get_or-set_other}
use Rattle.std.proofs.lemmas.List.Elements.{All-contains, All-get_or, All-from_get_or, Contains-get_or}
use Rattle.wp_task.specs.declared.acts.Act.{Act}
use Rattle.wp_task.specs.Set.{has, lists}
use Rattle.wp_task.specs.Task.{act_at, needers_of, IsAct}
use Rattle.wp_task.proofs.TaskLemmas.{range_below}
use Rattle.wp_task.proofs.Members.{In, In-filter, In-filter_cases, In-from_Contains, Contains-from_In}
use Rattle.wp_relax.specs.AdditiveCost.{infinite}
use Rattle.wp_relax.specs.Frontier.{IsNearest, least_offer}
use Rattle.wp_relax.proofs.Listed.{In-from_lists, lists-from_In, In-range}
use Rattle.wp_relax.proofs.SumLemmas.{member-le-sum, sum-same, sum-one_more, one-yes, count-same, count-one_less}
use Rattle.wp_relax.proofs.InOrder.{settled_price, left_of, IsCounted, IsOffer, IsSettling, still_counted, all_offered}

module _ (acts : List Act) (state : List Bool) where
  -- ---- what may be done when an atom is settled
  pub waits : (costs : List ℕ) (settled : List Bool) (left prices : List ℕ) (p : ℕ) → IsCounted acts state costs settled left prices →
      has settled p ≡ false → All (λ a. 0 < get_or left a 0) (needers_of acts p)
  waits costs settled left prices p at unsettled = All-from_get_or (λ a. 0 < get_or left a 0) (needers_of acts p) 0 (λ i within.
      let a = get_or (needers_of acts p) i 0 in
      let there : In a (needers_of acts p) = In-from_Contains a (needers_of acts p) (Contains-get_or (needers_of acts p) i 0 within) in
      let needed = In-filter_cases (λ b. lists (act_at acts b).pre p) (range_with_len 0 (length acts)) a there in
      let number : a < length acts = All-contains (λ k. k < length acts) (range_with_len 0 (length acts)) a (range_below (length acts)) (Contains-from_In a (range_with_len 0 (length acts)) needed.0) in
      let one : cond (not (has settled p)) 1 0 ≤ left_of settled (act_at acts a) =
      member-le-sum (λ q. cond (not (has settled q)) 1 0) (act_at acts a).pre p (In-from_lists (act_at acts a).pre p needed.1) in
      omega (arith, at.left_is a number, one-yes (not (has settled p)) (not_from_false (has settled p) unsettled)))

  pub prices-bounded : (costs : List ℕ) (settled : List Bool) (left prices : List ℕ) → IsCounted acts state costs settled left prices →
      length prices ≡ length acts → All (λ price. price ≤ infinite) prices
  prices-bounded costs settled left prices at size = All-from_get_or (λ price. price ≤ infinite) prices 0
      (λ a within. omega (arith, at.price_is a (omega arith)))

  -- ---- an atom is settled
  module _ (fit : All (IsAct (length state)) acts) (costs : List ℕ) (settled : List Bool) (left prices now_left now_prices : List ℕ) (p : ℕ)
      (at : IsSettling acts state costs settled left prices)
      (nearest : IsNearest costs settled p)
      (left_now : (a : ℕ) → get_or now_left a 0 ≡ cond (lists (needers_of acts p) a) (get_or left a 0 - 1) (get_or left a 0))
      (prices_now : (a : ℕ) → get_or now_prices a 0
      ≡ cond (lists (needers_of acts p) a) (min infinite (get_or prices a 0 + get_or costs p 0)) (get_or prices a 0)) where
    abbrev now_settled : List Bool
    now_settled = set settled p true

    abbrev needers : List ℕ
    needers = needers_of acts p

    within_flags : p < length settled
    within_flags = omega (arith, nearest.within, at.counted.size, at.counted.flags)

    now-done : has now_settled p ≡ true
    now-done = get_or-set_same settled p true false within_flags

    now-other : (q : ℕ) → (q ≡ p → ⊥) → has now_settled q ≡ has settled q
    now-other q other = get_or-set_other settled p q true false other

    -- what is settled now was settled, or is p; what is not settled now was not
    done-cases : (q : ℕ) → has now_settled q ≡ true → (q ≡ p) ⊎ (has settled q ≡ true)
    done-cases q done = ⊎_elim
        (λ (same : q ≡ p). inl same)
        (λ (other : q ≡ p → ⊥). inr (sym (now-other q other) ∙ done))
        (cases_eq q p)

    still-open : (q : ℕ) → has now_settled q ≡ false → has settled q ≡ false
    still-open q open_q = ⊎_elim
        (λ (same : q ≡ p). absurd (both_ways (has now_settled q) open_q (ap (has now_settled) same ∙ now-done)))
        (λ (other : q ≡ p → ⊥). sym (now-other q other) ∙ open_q)
        (cases_eq q p)

    -- no settled atom costs more
    low_p : (q : ℕ) → has now_settled q ≡ true → get_or costs q 0 ≤ get_or costs p 0
    low_p q done = ⊎_elim
        (λ (same : q ≡ p). let e : get_or costs q 0 ≡ get_or costs p 0 = ap (λ k. get_or costs k 0) same in omega arith)
        (λ (before : has settled q ≡ true). at.counted.low q p before (omega (arith, nearest.within, at.counted.size)) nearest.unsettled)
        (done-cases q done)

    act-fits : (a : ℕ) → a < length acts → IsAct (length state) (act_at acts a)
    act-fits a within = All-get_or (IsAct (length state)) acts a (act_at [] 0) within fit

    needs_it : (a : ℕ) → lists needers a ≡ true → (a < length acts) × (lists (act_at acts a).pre p ≡ true)
    needs_it a listed =
        let parts = In-filter_cases (λ b. lists (act_at acts b).pre p) (range_with_len 0 (length acts)) a (In-from_lists needers a listed) in
        let both : (a < length acts) × (lists (act_at acts a).pre p ≡ true) =
        (All-contains (λ k. k < length acts) (range_with_len 0 (length acts)) a (range_below (length acts)) (Contains-from_In a (range_with_len 0 (length acts)) parts.0), parts.1) in
        both

    needs_no : (a q : ℕ) → a < length acts → lists needers a ≡ false → In q (act_at acts a).pre → q ≡ p → ⊥
    needs_no a q within other needed same =
        let listed : lists (act_at acts a).pre p ≡ true = lists-from_In (act_at acts a).pre p (subst (λ (k : ℕ). In k (act_at acts a).pre) same needed) in
        both_ways (lists needers a) other
        (lists-from_In needers a (In-filter (λ b. lists (act_at acts b).pre p) (range_with_len 0 (length acts)) a (In-range (length acts) a within) listed))

    now_left-is : (a : ℕ) → a < length acts → get_or now_left a 0 ≡ left_of now_settled (act_at acts a)
    now_left-is a within = ⊎_elim
        (λ (listed : lists needers a ≡ true).
        let fits : IsAct (length state) (act_at acts a) = act-fits a within in
        let one : left_of settled (act_at acts a) ≡ left_of now_settled (act_at acts a) + 1 =
        count-one_less (λ q. not (has settled q)) (λ q. not (has now_settled q)) p (act_at acts a).pre fits.needs.rising
        (In-from_lists (act_at acts a).pre p (needs_it a listed).1)
        (not_from_false (has settled p) nearest.unsettled) (not_from_true (has now_settled p) now-done)
        (λ q other. ap not (sym (now-other q other))) in
        let is : get_or now_left a 0 ≡ get_or left a 0 - 1 =
        left_now a ∙ cond-true {A = ℕ} (lists needers a) (get_or left a 0 - 1) (get_or left a 0) listed in
        omega (arith, at.counted.left_is a within))
        (λ (other : lists needers a ≡ false).
        let same : left_of now_settled (act_at acts a) ≡ left_of settled (act_at acts a) =
        sum-same (λ q. cond (not (has now_settled q)) 1 0) (λ q. cond (not (has settled q)) 1 0) (act_at acts a).pre
        (λ q needed. count-same (not (has now_settled q)) (not (has settled q)) (ap not (now-other q (needs_no a q within other needed)))) in
        let is : get_or now_left a 0 ≡ get_or left a 0 =
        left_now a ∙ cond-false {A = ℕ} (lists needers a) (get_or left a 0 - 1) (get_or left a 0) other in
        omega (arith, at.counted.left_is a within))
        (cases_Bool (lists needers a))

    now_price-is : (a : ℕ) → a < length acts → get_or now_prices a 0 ≡ settled_price costs now_settled (act_at acts a)
    now_price-is a within =
        let f : ℕ → ℕ = λ q. cond (has now_settled q) (get_or costs q 0) 0 in
        let g : ℕ → ℕ = λ q. cond (has settled q) (get_or costs q 0) 0 in
        ⊎_elim
        (λ (listed : lists needers a ≡ true).
        let fits : IsAct (length state) (act_at acts a) = act-fits a within in
        let sums : sum_by f (act_at acts a).pre ≡ sum_by g (act_at acts a).pre + get_or costs p 0 =
        sum-one_more f g p (get_or costs p 0) (act_at acts a).pre fits.needs.rising
        (In-from_lists (act_at acts a).pre p (needs_it a listed).1)
        (omega (arith, cond-true {A = ℕ} (has now_settled p) (get_or costs p 0) 0 now-done, cond-false {A = ℕ} (has settled p) (get_or costs p 0) 0 nearest.unsettled))
        (λ q other. ap (λ b. cond b (get_or costs q 0) 0) (now-other q other)) in
        let is : get_or now_prices a 0 ≡ min infinite (get_or prices a 0 + get_or costs p 0) =
        prices_now a ∙ cond-true {A = ℕ} (lists needers a) (min infinite (get_or prices a 0 + get_or costs p 0)) (get_or prices a 0) listed in
        omega (arith, at.counted.price_is a within))
        (λ (other : lists needers a ≡ false).
        let sums : sum_by f (act_at acts a).pre ≡ sum_by g (act_at acts a).pre =
        sum-same f g (act_at acts a).pre (λ q needed. ap (λ b. cond b (get_or costs q 0) 0) (now-other q (needs_no a q within other needed))) in
        let is : get_or now_prices a 0 ≡ get_or prices a 0 =
        prices_now a ∙ cond-false {A = ℕ} (lists needers a) (min infinite (get_or prices a 0 + get_or costs p 0)) (get_or prices a 0) other in
        omega (arith, at.counted.price_is a within))
        (cases_Bool (lists needers a))

    now_counted : IsCounted acts state costs now_settled now_left now_prices
    now_counted = record {
      size = at.counted.size;
      flags = length-set settled p true ∙ at.counted.flags;
      most = at.counted.most;
      there = at.counted.there;
      cause = at.counted.cause;
      left_is = now_left-is;
      price_is = now_price-is;
      low = λ k q done within open_q. ⊎_elim
          (λ (same : k ≡ p).
          let e : get_or costs k 0 ≡ get_or costs p 0 = ap (λ n. get_or costs n 0) same in
          omega (arith, nearest.least q (omega (arith, at.counted.size)) (still-open q open_q)))
          (λ (before : has settled k ≡ true). at.counted.low k q before within (still-open q open_q))
          (done-cases k done);
    }

    -- the price of an action that needs p is above the cost of p
    high : (a q : ℕ) → In a needers → get_or now_left a 0 ≡ 0 → has now_settled q ≡ true → get_or costs q 0 ≤ get_or now_prices a 0
    high a q there none done =
        let needed = needs_it a (lists-from_In needers a there) in
        let f : ℕ → ℕ = λ k. cond (has now_settled k) (get_or costs k 0) 0 in
        let part : f p ≤ sum_by f (act_at acts a).pre = member-le-sum f (act_at acts a).pre p (In-from_lists (act_at acts a).pre p needed.1) in
        let is : f p ≡ get_or costs p 0 = cond-true {A = ℕ} (has now_settled p) (get_or costs p 0) 0 now-done in
        omega (arith, now_price-is a needed.0, low_p q done, at.counted.most q)

    pub steps : (new : List ℕ) → length new ≡ length costs →
        ((q : ℕ) → q < length state → get_or new q 0 ≡ least_offer acts now_left now_prices needers costs q) →
        IsSettling acts state new now_settled now_left now_prices
    steps new size is =
        let offer : IsOffer acts state costs new now_settled now_left now_prices needers = record {
          size = size;
          is = is;
          numbered = λ a there. (needs_it a (lists-from_In needers a there)).0;
          high = high;
        } in
        record {
          counted = still_counted acts state costs new now_settled now_left now_prices needers now_counted offer;
          offered = all_offered acts state costs new now_settled now_left now_prices needers now_counted offer
              (λ q a within adder none other.
              let is_left : get_or now_left a 0 ≡ get_or left a 0 =
              left_now a ∙ cond-false {A = ℕ} (lists needers a) (get_or left a 0 - 1) (get_or left a 0) other in
              let is_price : get_or now_prices a 0 ≡ get_or prices a 0 =
              prices_now a ∙ cond-false {A = ℕ} (lists needers a) (min infinite (get_or prices a 0 + get_or costs p 0)) (get_or prices a 0) other in
              omega (arith, at.offered q a within adder (omega arith)));
        }
