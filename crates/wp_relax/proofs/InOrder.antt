-- Atoms that are settled in the order of their costs get the defined costs. The price of an action is above the costs of
-- what it needs, so what it offers changes no settled cost; and an action that is not settled in the end has an infinite price.
use Rattle.std.proofs.Common.{◌≡◌, ◌⊎◌, ◌<◌, ◌≤◌, ◌+◌, ◌==◌, not, ℕ, min, Bool, true, false, cond, List, [], length, map, get_or, replicate, refl, sym, ap, ◌∙◌, inl, inr, ⊎_elim, arith}
use Rattle.std.specs.List.{All, filter, fold, sum_by, count_by, range_with_len}
use Rattle.std.proofs.lemmas.Bool.{cases_lt, cases_Bool, both_ways, eqb-true, eq-eqb, and_parts, and_from, not_from_false, not-true, not-false, cond-true, cond-false}
use Rattle.std.proofs.lemmas.List.{get_or_past, get_or-map, get_or-replicate, length-replicate}
use Rattle.std.proofs.lemmas.List.Elements.{All-contains, All-get_or}
use Rattle.wp_task.specs.declared.acts.Act.{Act}
use Rattle.wp_task.specs.Set.{has, lists}
use Rattle.wp_task.specs.Task.{act_at, IsAct}
use Rattle.wp_task.proofs.TaskLemmas.{range_below}
use Rattle.wp_task.proofs.Members.{In, In-filter, In-filter_cases, In-map, In-map_cases, Contains-from_In}
use Rattle.wp_task.proofs.SetLemmas.{has-replicate}
use Rattle.wp_relax.specs.AdditiveCost.{infinite, price_of, costs_of}
use Rattle.wp_relax.specs.Laws.{IsAdder, IsFixed}
use Rattle.wp_relax.specs.Frontier.{IsSpent, offers, least_offer}
use Rattle.wp_relax.proofs.CostLemmas.{first-le}
use Rattle.wp_relax.proofs.Listed.{In-from_lists, lists-from_In, In-range, below_size}
use Rattle.wp_relax.proofs.SumLemmas.{fold_min-cases, fold_min-le, fold_min-le_first, member-le-sum, sum-same, sum-zero, count-none, count-some, count-all}
use Rattle.wp_relax.proofs.Unique.{price-le, one_table}

-- 1 and the costs of the preconditions that are settled
abbrev pub settled_price : List ℕ → List Bool → Act → ℕ
settled_price costs settled act = min infinite (1 + sum_by (λ q. cond (has settled q) (get_or costs q 0) 0) act.pre)

-- how many preconditions are not settled
abbrev pub left_of : List Bool → Act → ℕ
left_of settled act = count_by (λ q. not (has settled q)) act.pre

same_if : (b : Bool) (x y : ℕ) → (b ≡ true → x ≡ y) → cond b x 0 ≡ cond b y 0
same_if true x y same = same refl
same_if false x y same = refl

module _ (acts : List Act) (state : List Bool) where
  -- what holds while atoms are settled
  pub record IsCounted (costs : List ℕ) (settled : List Bool) (left prices : List ℕ) : Type 0 where
    pub size : length costs ≡ length state
    pub flags : length settled ≡ length state
    pub most : (p : ℕ) → get_or costs p 0 ≤ infinite
    pub there : (p : ℕ) → has state p ≡ true → get_or costs p 0 ≡ 0
    pub cause : (p : ℕ) → p < length state → get_or costs p 0 < infinite →
        (has state p ≡ true) ⊎ ((a : ℕ) × IsAdder acts p a × (price_of costs (act_at acts a) ≤ get_or costs p 0))
    pub left_is : (a : ℕ) → a < length acts → get_or left a 0 ≡ left_of settled (act_at acts a)
    pub price_is : (a : ℕ) → a < length acts → get_or prices a 0 ≡ settled_price costs settled (act_at acts a)
    pub low : (p q : ℕ) → has settled p ≡ true → q < length state → has settled q ≡ false → get_or costs p 0 ≤ get_or costs q 0

  -- each action of which all preconditions are settled has offered its price
  abbrev pub AreOffered : List ℕ → List ℕ → List ℕ → Type 0
  AreOffered costs left prices = (p a : ℕ) → p < length state → IsAdder acts p a → get_or left a 0 ≡ 0 → get_or costs p 0 ≤ get_or prices a 0

  -- the price of such an action is the defined one
  pub price-settled : (costs : List ℕ) (settled : List Bool) (left prices : List ℕ) (a : ℕ) →
      get_or left a 0 ≡ left_of settled (act_at acts a) → get_or prices a 0 ≡ settled_price costs settled (act_at acts a) →
      get_or left a 0 ≡ 0 → get_or prices a 0 ≡ price_of costs (act_at acts a)
  price-settled costs settled left prices a left_is price_is none =
      let act = act_at acts a in
      let done : (q : ℕ) → In q act.pre → not (has settled q) ≡ false =
      count-none (λ q. not (has settled q)) act.pre (sym left_is ∙ none) in
      let sums : sum_by (λ q. cond (has settled q) (get_or costs q 0) 0) act.pre ≡ sum_by (λ k. get_or costs k 0) act.pre =
      sum-same (λ q. cond (has settled q) (get_or costs q 0) 0) (λ k. get_or costs k 0) act.pre
      (λ q needed. cond-true (has settled q) (get_or costs q 0) 0 (not-false (has settled q) (done q needed))) in
      price_is ∙ ap (λ n. min infinite (1 + n)) sums

  -- ---- the end
  -- an action that has a precondition left has an infinite price
  pub price-open : All (IsAct (length state)) acts → (costs : List ℕ) (settled : List Bool) (left prices : List ℕ) →
      IsCounted costs settled left prices → IsSpent costs settled → (a : ℕ) → a < length acts → 0 < get_or left a 0 →
      infinite ≤ price_of costs (act_at acts a)
  price-open fit costs settled left prices at spent a number some =
      let act = act_at acts a in
      let open_one : (q : ℕ) × In q act.pre × (not (has settled q) ≡ true) =
      count-some (λ q. not (has settled q)) act.pre (omega (arith, at.left_is a number)) in
      let inside : open_one.0 < length state =
      All-contains (λ q. q < length state) act.pre open_one.0
      (All-get_or (IsAct (length state)) acts a (act_at [] 0) number fit).needs.below (Contains-from_In open_one.0 act.pre open_one.1) in
      let large : infinite ≤ get_or costs open_one.0 0 =
      spent open_one.0 (omega (arith, at.size)) (not-true (has settled open_one.0) open_one.2) in
      omega (arith, member-le-sum (λ k. get_or costs k 0) act.pre open_one.0 open_one.1)

  fixed : All (IsAct (length state)) acts → (costs : List ℕ) (settled : List Bool) (left prices : List ℕ) → IsCounted costs settled left prices →
      AreOffered costs left prices → IsSpent costs settled → IsFixed acts state costs
  fixed fit costs settled left prices at are_offered spent = record {
    size = at.size;
    most = at.most;
    there = at.there;
    least = λ p a within adder.
        ⊎_elim
        (λ (some : 0 < get_or left a 0).
        omega (arith, price-open fit costs settled left prices at spent a adder.number some, at.most p))
        (λ (none : get_or left a 0 ≤ 0).
        omega (arith, are_offered p a within adder (omega arith), price-settled costs settled left prices a (at.left_is a adder.number) (at.price_is a adder.number) (omega arith)))
        (cases_lt 0 (get_or left a 0));
    cause = at.cause;
  }

  -- ---- prices are offered
  pub record IsOffer (old new : List ℕ) (settled : List Bool) (left prices numbers : List ℕ) : Type 0 where
    pub size : length new ≡ length old
    pub is : (p : ℕ) → p < length state → get_or new p 0 ≡ least_offer acts left prices numbers old p
    pub numbered : (a : ℕ) → In a numbers → a < length acts
    pub high : (a q : ℕ) → In a numbers → get_or left a 0 ≡ 0 → has settled q ≡ true → get_or old q 0 ≤ get_or prices a 0

  module _ (old new : List ℕ) (settled : List Bool) (left prices numbers : List ℕ) (at : IsCounted old settled left prices)
      (offer : IsOffer old new settled left prices numbers) where
    abbrev offered_to : ℕ → List ℕ
    offered_to p = map (λ a. get_or prices a 0) (filter (offers acts left p) numbers)

    -- an offer comes from an adder of which all preconditions are settled
    pub record IsFrom (p a : ℕ) : Type 0 where
      pub number : a < length acts
      pub listed : In a numbers
      pub none : get_or left a 0 ≡ 0
      pub adds : lists (act_at acts a).add p ≡ true
      pub price : get_or new p 0 ≡ get_or prices a 0

    new-cases : (p : ℕ) → p < length state → (get_or new p 0 ≡ get_or old p 0) ⊎ ((a : ℕ) × IsFrom p a)
    new-cases p within = ⊎_elim
        (λ (same : fold min (get_or old p 0) (offered_to p) ≡ get_or old p 0). inl (offer.is p within ∙ same))
        (λ (there : In (fold min (get_or old p 0) (offered_to p)) (offered_to p)).
        let by : (a : ℕ) × In a (filter (offers acts left p) numbers) × (fold min (get_or old p 0) (offered_to p) ≡ get_or prices a 0) =
        In-map_cases (λ a. get_or prices a 0) (filter (offers acts left p) numbers) (fold min (get_or old p 0) (offered_to p)) there in
        let from = In-filter_cases (offers acts left p) numbers by.0 by.1 in
        let parts : ((get_or left by.0 0 == 0) ≡ true) × (lists (act_at acts by.0).add p ≡ true) =
        and_parts (get_or left by.0 0 == 0) (lists (act_at acts by.0).add p) from.1 in
        let is_from : IsFrom p by.0 = record {
          number = offer.numbered by.0 from.0;
          listed = from.0;
          none = eqb-true (get_or left by.0 0) 0 parts.0;
          adds = parts.1;
          price = offer.is p within ∙ by.2;
        } in
        let found : (a : ℕ) × IsFrom p a = (by.0, is_from) in inr found)
        (fold_min-cases (get_or old p 0) (offered_to p))

    falls : (p : ℕ) → get_or new p 0 ≤ get_or old p 0
    falls p = ⊎_elim
        (λ (within : p < length state). omega (arith, offer.is p within, fold_min-le_first (get_or old p 0) (offered_to p)))
        (λ (past : length state ≤ p).
        let none : get_or new p 0 ≡ 0 = get_or_past new p 0 (omega (arith, offer.size, at.size)) in omega arith)
        (cases_lt p (length state))

    -- a settled cost stays
    stays : (q : ℕ) → has settled q ≡ true → get_or new q 0 ≡ get_or old q 0
    stays q done =
        let within : q < length state = omega (arith, below_size settled q done, at.flags) in
        ⊎_elim
        (λ (same : get_or new q 0 ≡ get_or old q 0). same)
        (λ (by : (a : ℕ) × IsFrom q a). omega (arith, falls q, offer.high by.0 q by.1.listed by.1.none done, by.1.price))
        (new-cases q within)

    price-stays : (act : Act) → settled_price new settled act ≡ settled_price old settled act
    price-stays act = ap (λ n. min infinite (1 + n))
        (sum-same (λ q. cond (has settled q) (get_or new q 0) 0) (λ q. cond (has settled q) (get_or old q 0) 0) act.pre
        (λ q needed. same_if (has settled q) (get_or new q 0) (get_or old q 0) (stays q)))

    still_low : (p q : ℕ) → has settled p ≡ true → q < length state → has settled q ≡ false → get_or new p 0 ≤ get_or new q 0
    still_low p q done within unsettled = ⊎_elim
        (λ (same : get_or new q 0 ≡ get_or old q 0). omega (arith, stays p done, at.low p q done within unsettled))
        (λ (by : (a : ℕ) × IsFrom q a). omega (arith, stays p done, offer.high by.0 p by.1.listed by.1.none done, by.1.price))
        (new-cases q within)

    new_cause : (p : ℕ) → p < length state → get_or new p 0 < infinite →
        (has state p ≡ true) ⊎ ((a : ℕ) × IsAdder acts p a × (price_of new (act_at acts a) ≤ get_or new p 0))
    new_cause p within small = ⊎_elim
        (λ (same : get_or new p 0 ≡ get_or old p 0). ⊎_elim
        (λ (there : has state p ≡ true). inl there)
        (λ (by : (a : ℕ) × IsAdder acts p a × (price_of old (act_at acts a) ≤ get_or old p 0)).
        let cheaper : price_of new (act_at acts by.0) ≤ price_of old (act_at acts by.0) = price-le new old (act_at acts by.0) (λ q needed. falls q) in
        let bound : price_of old (act_at acts by.0) ≤ get_or old p 0 = by.2 in
        let le : price_of new (act_at acts by.0) ≤ get_or new p 0 = omega arith in
        let found : (a : ℕ) × IsAdder acts p a × (price_of new (act_at acts a) ≤ get_or new p 0) = (by.0, by.1, le) in
        inr found)
        (at.cause p within (omega arith)))
        (λ (by : (a : ℕ) × IsFrom p a).
        let adder : IsAdder acts p by.0 = record { number = by.1.number; adds = by.1.adds } in
        let price : get_or prices by.0 0 ≡ price_of new (act_at acts by.0) =
        price-settled new settled left prices by.0 (at.left_is by.0 by.1.number)
        (at.price_is by.0 by.1.number ∙ sym (price-stays (act_at acts by.0))) by.1.none in
        let le : price_of new (act_at acts by.0) ≤ get_or new p 0 = omega (arith, by.1.price) in
        let found : (a : ℕ) × IsAdder acts p a × (price_of new (act_at acts a) ≤ get_or new p 0) = (by.0, adder, le) in
        inr found)
        (new-cases p within)

    pub still_counted : IsCounted new settled left prices
    still_counted = record {
      size = offer.size ∙ at.size;
      flags = at.flags;
      most = λ p. omega (arith, falls p, at.most p);
      there = λ p here. omega (arith, falls p, at.there p here);
      cause = new_cause;
      left_is = at.left_is;
      price_is = λ a within. at.price_is a within ∙ sym (price-stays (act_at acts a));
      low = still_low;
    }

    -- the others had offered theirs before
    pub all_offered : ((p a : ℕ) → p < length state → IsAdder acts p a → get_or left a 0 ≡ 0 → lists numbers a ≡ false →
        get_or old p 0 ≤ get_or prices a 0) → AreOffered new left prices
    all_offered before p a within adder none = ⊎_elim
        (λ (listed : lists numbers a ≡ true).
        let there : In (get_or prices a 0) (offered_to p) =
        In-map (λ k. get_or prices k 0) (filter (offers acts left p) numbers) a
        (In-filter (offers acts left p) numbers a (In-from_lists numbers a listed)
        (and_from (get_or left a 0 == 0) (lists (act_at acts a).add p) (eq-eqb (get_or left a 0) 0 none) adder.adds)) in
        omega (arith, offer.is p within, fold_min-le (get_or old p 0) (offered_to p) (get_or prices a 0) there))
        (λ (other : lists numbers a ≡ false). omega (arith, falls p, before p a within adder none other))
        (cases_Bool (lists numbers a))

  pub record IsSettling (costs : List ℕ) (settled : List Bool) (left prices : List ℕ) : Type 0 where
    pub counted : IsCounted costs settled left prices
    pub offered : AreOffered costs left prices

  pub ends : All (IsAct (length state)) acts → (costs : List ℕ) (settled : List Bool) (left prices : List ℕ) →
      IsSettling costs settled left prices → IsSpent costs settled → costs ≡ costs_of acts state
  ends fit costs settled left prices at spent =
      (one_table acts state costs).0 (fixed fit costs settled left prices at.counted at.offered spent)

  -- ---- the start: the actions without preconditions offer 1
  pub record IsStart (costs : List ℕ) (settled : List Bool) (left prices : List ℕ) : Type 0 where
    pub size : length costs ≡ length state
    pub first : (p : ℕ) → p < length state → get_or costs p 0 ≡ cond (has state p) 0 infinite
    pub flags : length settled ≡ length state
    pub unsettled : (p : ℕ) → has settled p ≡ false
    pub left_is : (a : ℕ) → a < length acts → get_or left a 0 ≡ length (act_at acts a).pre
    pub price_is : (a : ℕ) → a < length acts → get_or prices a 0 ≡ 1

  pub is_start : (costs : List ℕ) (settled : List Bool) (left prices : List ℕ) → length costs ≡ length state →
      ((p : ℕ) → p < length state → get_or costs p 0 ≡ cond (has state p) 0 infinite) → settled ≡ replicate (length state) false →
      left ≡ map (λ act. length act.pre) acts → prices ≡ replicate (length acts) 1 → IsStart costs settled left prices
  is_start costs settled left prices size first settled_is left_is prices_is = record {
    size = size;
    first = first;
    flags = ap length settled_is ∙ length-replicate (length state) false;
    unsettled = λ p. ap (λ (l : List Bool). has l p) settled_is ∙ has-replicate (length state) p;
    left_is = λ a within. ap (λ (l : List ℕ). get_or l a 0) left_is ∙ get_or-map (λ (act : Act). length act.pre) acts a (act_at [] 0) 0 within;
    price_is = λ a within. ap (λ (l : List ℕ). get_or l a 0) prices_is ∙ get_or-replicate (length acts) a 1 0 within;
  }

  module _ (costs : List ℕ) (settled : List Bool) (left prices : List ℕ) (start : IsStart costs settled left prices) where
    first-counted : IsCounted costs settled left prices
    first-counted = record {
      size = start.size;
      flags = start.flags;
      most = λ p. ⊎_elim
          (λ (within : p < length state). omega (arith, start.first p within, first-le (has state p)))
          (λ (past : length state ≤ p). let none : get_or costs p 0 ≡ 0 = get_or_past costs p 0 (omega (arith, start.size)) in omega arith)
          (cases_lt p (length state));
      there = λ p here. start.first p (below_size state p here) ∙ cond-true {A = ℕ} (has state p) 0 infinite here;
      cause = λ p within small. ⊎_elim
          (λ (there : has state p ≡ true). inl there)
          (λ (lacks : has state p ≡ false).
          let none : get_or costs p 0 ≡ infinite = start.first p within ∙ cond-false {A = ℕ} (has state p) 0 infinite lacks in absurd (omega arith))
          (cases_Bool (has state p));
      left_is = λ a within. start.left_is a within
          ∙ sym (count-all (λ q. not (has settled q)) (act_at acts a).pre (λ q. not_from_false (has settled q) (start.unsettled q)));
      price_is = λ a within. omega (
        arith,
        start.price_is a within,
        sum-zero (λ q. cond (has settled q) (get_or costs q 0) 0) (act_at acts a).pre
            (λ q. cond-false {A = ℕ} (has settled q) (get_or costs q 0) 0 (start.unsettled q)),
      );
      low = λ p q done within open_q. let clash : true ≡ false = sym done ∙ start.unsettled p in absurd (cc);
    }

    pub starts : (new : List ℕ) → length new ≡ length costs →
        ((p : ℕ) → p < length state → get_or new p 0 ≡ least_offer acts left prices (range_with_len 0 (length acts)) costs p) →
        IsSettling new settled left prices
    starts new size is =
        let offer : IsOffer costs new settled left prices (range_with_len 0 (length acts)) = record {
          size = size;
          is = is;
          numbered = λ a there. All-contains (λ k. k < length acts) (range_with_len 0 (length acts)) a (range_below (length acts)) (Contains-from_In a (range_with_len 0 (length acts)) there);
          high = λ a q there none done. let clash : true ≡ false = sym done ∙ start.unsettled q in absurd (cc);
        } in
        record {
          counted = still_counted costs new settled left prices (range_with_len 0 (length acts)) first-counted offer;
          offered = all_offered costs new settled left prices (range_with_len 0 (length acts)) first-counted offer
              (λ p a within adder none other.
              let listed : lists (range_with_len 0 (length acts)) a ≡ true = lists-from_In (range_with_len 0 (length acts)) a (In-range (length acts) a adder.number) in
              absurd (both_ways (lists (range_with_len 0 (length acts)) a) other listed));
        }
