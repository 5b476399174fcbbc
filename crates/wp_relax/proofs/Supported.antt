-- The supporter of an atom while prices are offered: of the actions that offered the cost that the atom has, the one of least
-- number. An atom of the state costs less than any price, and no price is above the infinite cost.
use Rattle.std.proofs.Common.{◌≡◌, ◌⊎◌, ◌==◌, ◌<◌, ◌≤◌, ℕ, nat_lt, min, Bool, true, false, cond, Option, Some, None, List, [], ◌∷◌, length, get_or, replicate, refl, sym, ap, ◌∙◌, subst, inl, inr, ⊎_elim, arith}
use Rattle.std.specs.List.{All, find, range_with_len}
use Rattle.std.specs.List.Sorted.{IsStrictlyIncreasing}
use Rattle.std.proofs.lemmas.Bool.{cases_lt, cases_Bool, both_ways, cond-true, cond-false, lt-ltb, le-ltb, eq-eqb, ne_eqb, eqb-true, and_parts, and_from}
use Rattle.std.proofs.lemmas.List.{get_or-replicate, length-replicate}
use Rattle.std.proofs.lemmas.List.Elements.{All-contains}
use Rattle.std.proofs.lemmas.List.FromFn.{fill_by_all}
use Rattle.std.proofs.lemmas.List.Kept.{IsStrictlyIncreasing-filter}
use Rattle.wp_task.specs.declared.acts.Act.{Act}
use Rattle.wp_task.specs.Set.{has, lists}
use Rattle.wp_task.specs.Task.{act_at, adders_of, IsAct}
use Rattle.wp_task.proofs.TaskLemmas.{range_below}
use Rattle.wp_task.proofs.Members.{In, In-filter, Contains-from_In}
use Rattle.wp_relax.specs.AdditiveCost.{infinite, price_of, supporter_of, supporters_of}
use Rattle.wp_relax.specs.Laws.{IsAdder}
use Rattle.wp_relax.specs.Frontier.{Front, Offered, IsSpent, offered_to, preferred, better, offers, after_offer, after_offers}
use Rattle.wp_relax.proofs.Listed.{In-from_lists, In-range}
use Rattle.wp_relax.proofs.SumLemmas.{rises-tail, rises-head}
use Rattle.wp_relax.proofs.SupporterLemmas.{supporter_of-found}
use Rattle.wp_relax.proofs.Unique.{adder-from}
use Rattle.wp_relax.proofs.InOrder.{IsCounted, price-settled, price-open}
use Rattle.wp_relax.proofs.PlanLemmas.{range_rises}

-- the action passed, has the cost as its price, and is the first of those that do
pub record IsFirstAt (Passed : ℕ → Type 0) (prices : List ℕ) (cost b : ℕ) : Type 0 where
  pub passed : Passed b
  pub price : get_or prices b 0 ≡ cost
  pub small : cost < infinite
  pub first : (a : ℕ) → Passed a → get_or prices a 0 ≡ cost → b ≤ a

pub record IsFree (now : Offered) : Type 0 where
  pub none : now.supporter ≡ None
  pub edge : (now.cost ≡ 0) ⊎ (infinite ≤ now.cost)

pub record IsHeld (Passed : ℕ → Type 0) (prices : List ℕ) (now : Offered) : Type 0 where
  pub by : ℕ
  pub is : now.supporter ≡ Some by
  pub first_at : IsFirstAt Passed prices now.cost by

abbrev pub IsSupported : (ℕ → Type 0) → List ℕ → Offered → Type 0
IsSupported Passed prices now = IsFree now ⊎ IsHeld Passed prices now

carried : (Passed : ℕ → Type 0) (prices : List ℕ) (now then : Offered) → now.cost ≡ then.cost → now.supporter ≡ then.supporter →
    IsSupported Passed prices then → IsSupported Passed prices now
carried Passed prices now then cost supporter held =
    subst (IsSupported Passed prices) (sym (λ j. record { cost = cost j; supporter = supporter j })) held

-- the same actions passed, at the same prices
pub held-same : (P Q : ℕ → Type 0) (prices other : List ℕ) (now : Offered) → ((a : ℕ) → P a → Q a) → ((a : ℕ) → Q a → P a) →
    ((a : ℕ) → P a → get_or other a 0 ≡ get_or prices a 0) → IsSupported P prices now → IsSupported Q other now
held-same P Q prices other now to back same held = ⊎_elim
    (λ (free : IsFree now). inl free)
    (λ (h : IsHeld P prices now).
    let first_at : IsFirstAt Q other now.cost h.by = record {
      passed = to h.by h.first_at.passed;
      price = same h.by h.first_at.passed ∙ h.first_at.price;
      small = h.first_at.small;
      first = λ a passed price. h.first_at.first a (back a passed) (sym (same a (back a passed)) ∙ price);
    } in
    let is : IsHeld Q other now = record { by = h.by; is = h.is; first_at = first_at } in inr is)
    held

-- ---- one action more offers its price
module _ (Passed : ℕ → Type 0) (prices : List ℕ) (x : ℕ) (now : Offered) (most : now.cost ≤ infinite)
    (low : (a : ℕ) → Passed a → now.cost ≤ get_or prices a 0) (positive : 0 < get_or prices x 0) where
  abbrev With : ℕ → Type 0
  With a = Passed a ⊎ (a ≡ x)

  abbrev price : ℕ
  price = get_or prices x 0

  cheaper : price < now.cost → IsSupported With prices (better now x price)
  cheaper less =
      let first_at : IsFirstAt With prices (min now.cost price) x = record {
        passed = inr refl;
        price = omega arith;
        small = omega arith;
        first = λ a passed is. ⊎_elim
            (λ (before : Passed a). absurd (omega (arith, low a before)))
            (λ (same : a ≡ x). omega arith)
            passed;
      } in
      let held : IsHeld With prices (better now x price) = record {
        by = x;
        is = cond-true (nat_lt price now.cost) (Some x) (cond (price == now.cost) (preferred now.supporter x) now.supporter) (lt-ltb price now.cost less);
        first_at = first_at;
      } in
      inr held

  equal : price ≡ now.cost → IsSupported Passed prices now → IsSupported With prices (better now x price)
  equal same held =
      let supporter : (better now x price).supporter ≡ preferred now.supporter x =
      cond-false (nat_lt price now.cost) (Some x) (cond (price == now.cost) (preferred now.supporter x) now.supporter) (le-ltb price now.cost (omega arith))
      ∙ cond-true (price == now.cost) (preferred now.supporter x) now.supporter (eq-eqb price now.cost same) in
      ⊎_elim
      (λ (free : IsFree now).
      let edge : (min now.cost price ≡ 0) ⊎ (infinite ≤ min now.cost price) = ⊎_elim
      (λ (none : now.cost ≡ 0). absurd (omega arith))
      (λ (large : infinite ≤ now.cost). let e : infinite ≤ min now.cost price = omega arith in inr e)
      free.edge in
      let still : IsFree (better now x price) = record { none = supporter ∙ ap (λ (o : Option ℕ). preferred o x) free.none; edge = edge } in
      inl still)
      (λ (h : IsHeld Passed prices now).
      let was : get_or prices h.by 0 ≡ now.cost = h.first_at.price in
      let first_at : IsFirstAt With prices (min now.cost price) (min x h.by) = ⊎_elim
      (λ (earlier : h.by < x).
      let e : min x h.by ≡ h.by = omega arith in
      let at : IsFirstAt With prices (min now.cost price) (min x h.by) = record {
        passed = subst With (sym e) (inl h.first_at.passed);
        price = ap (λ (k : ℕ). get_or prices k 0) e ∙ (let q : get_or prices h.by 0 ≡ min now.cost price = omega arith in q);
        small = omega (arith, h.first_at.small);
        first = λ a passed is. ⊎_elim
            (λ (before : Passed a). omega (arith, h.first_at.first a before (omega arith)))
            (λ (here : a ≡ x). omega arith)
            passed;
      } in at)
      (λ (later : x ≤ h.by).
      let e : min x h.by ≡ x = omega arith in
      let at : IsFirstAt With prices (min now.cost price) (min x h.by) = record {
        passed = subst With (sym e) (inr refl);
        price = ap (λ (k : ℕ). get_or prices k 0) e ∙ (let q : price ≡ min now.cost price = omega arith in q);
        small = omega (arith, h.first_at.small);
        first = λ a passed is. ⊎_elim
            (λ (before : Passed a). omega (arith, h.first_at.first a before (omega arith)))
            (λ (here : a ≡ x). omega arith)
            passed;
      } in at)
      (cases_lt h.by x) in
      let now_held : IsHeld With prices (better now x price) = record {
        by = min x h.by;
        is = supporter ∙ ap (λ (o : Option ℕ). preferred o x) h.is;
        first_at = first_at;
      } in
      inr now_held)
      held

  dearer : now.cost < price → IsSupported Passed prices now → IsSupported With prices (better now x price)
  dearer more held =
      let supporter : (better now x price).supporter ≡ now.supporter =
      cond-false (nat_lt price now.cost) (Some x) (cond (price == now.cost) (preferred now.supporter x) now.supporter) (le-ltb price now.cost (omega arith))
      ∙ cond-false (price == now.cost) (preferred now.supporter x) now.supporter (ne_eqb price now.cost (λ (same : price ≡ now.cost). omega arith)) in
      let cost : min now.cost price ≡ now.cost = omega arith in
      carried With prices (better now x price) now cost supporter
      (⊎_elim
      (λ (free : IsFree now). inl free)
      (λ (h : IsHeld Passed prices now).
      let first_at : IsFirstAt With prices now.cost h.by = record {
        passed = inl h.first_at.passed;
        price = h.first_at.price;
        small = h.first_at.small;
        first = λ a passed is. ⊎_elim
            (λ (before : Passed a). h.first_at.first a before is)
            (λ (here : a ≡ x). absurd (omega (arith, ap (λ (k : ℕ). get_or prices k 0) here)))
            passed;
      } in
      let now_held : IsHeld With prices now = record { by = h.by; is = h.is; first_at = first_at } in
      inr now_held)
      held)

  pub offered-one : IsSupported Passed prices now → IsSupported With prices (better now x price)
  offered-one held = ⊎_elim
      (λ (less : price < now.cost). cheaper less)
      (λ (rest : now.cost ≤ price). ⊎_elim
      (λ (more : now.cost < price). dearer more held)
      (λ (same : price ≤ now.cost). equal (omega arith) held)
      (cases_lt now.cost price))
      (cases_lt price now.cost)

-- ---- some actions offer their prices
module _ (acts : List Act) (left prices : List ℕ) (p : ℕ) where
  abbrev pub Among : (ℕ → Type 0) → List ℕ → ℕ → Type 0
  Among Passed xs a = Passed a ⊎ (In a xs × (offers acts left p a ≡ true))

  pub offered-all : (xs : List ℕ) (Passed : ℕ → Type 0) (now : Offered) → now.cost ≤ infinite →
      ((a : ℕ) → Passed a → now.cost ≤ get_or prices a 0) → ((a : ℕ) → In a xs → 0 < get_or prices a 0) →
      IsSupported Passed prices now → IsSupported (Among Passed xs) prices (after_offers acts left prices xs p now)
  offered-all [] Passed now most low positive held =
      held-same Passed (Among Passed []) prices prices now (λ a passed. inl passed)
      (λ a among. ⊎_elim (λ (passed : Passed a). passed) (λ (none : In a [] × (offers acts left p a ≡ true)). absurd none.0) among)
      (λ a passed. refl) held
  offered-all (x ∷ xs) Passed now most low positive held = ⊎_elim
      (λ (one : offers acts left p x ≡ true).
      let price = get_or prices x 0 in
      let Next : ℕ → Type 0 = With Passed prices x now most low (positive x (inl refl)) in
      let next = after_offer acts left prices p now x in
      let is : next ≡ better now x price = cond-true (offers acts left p x) (better now x price) now one in
      let cost : next.cost ≡ min now.cost price = ap (λ (o : Offered). o.cost) is in
      let next_held : IsSupported Next prices next =
      subst (IsSupported Next prices) (sym is) (offered-one Passed prices x now most low (positive x (inl refl)) held) in
      held-same (Among Next xs) (Among Passed (x ∷ xs)) prices prices (after_offers acts left prices xs p next)
      (λ a among. ⊎_elim
      (λ (before : Next a). ⊎_elim
      (λ (passed : Passed a). inl passed)
      (λ (here : a ≡ x).
      let both : In a (x ∷ xs) × (offers acts left p a ≡ true) = (inl here, ap (offers acts left p) here ∙ one) in inr both)
      before)
      (λ (later : In a xs × (offers acts left p a ≡ true)).
      let both : In a (x ∷ xs) × (offers acts left p a ≡ true) = (inr later.0, later.1) in inr both)
      among)
      (λ a among. ⊎_elim
      (λ (passed : Passed a). inl (inl passed))
      (λ (there : In a (x ∷ xs) × (offers acts left p a ≡ true)). ⊎_elim
      (λ (here : a ≡ x). inl (inr here))
      (λ (later : In a xs). let both : In a xs × (offers acts left p a ≡ true) = (later, there.1) in inr both)
      there.0)
      among)
      (λ a passed. refl)
      (offered-all xs Next next (omega arith)
      (λ a before. ⊎_elim
      (λ (passed : Passed a). omega (arith, low a passed))
      (λ (here : a ≡ x). omega (arith, ap (λ (k : ℕ). get_or prices k 0) here))
      before)
      (λ a later. positive a (inr later)) next_held))
      (λ (not_one : offers acts left p x ≡ false).
      let next = after_offer acts left prices p now x in
      let is : next ≡ now = cond-false (offers acts left p x) (better now x (get_or prices x 0)) now not_one in
      let cost : next.cost ≡ now.cost = ap (λ (o : Offered). o.cost) is in
      held-same (Among Passed xs) (Among Passed (x ∷ xs)) prices prices (after_offers acts left prices xs p next)
      (λ a among. ⊎_elim
      (λ (passed : Passed a). inl passed)
      (λ (later : In a xs × (offers acts left p a ≡ true)).
      let both : In a (x ∷ xs) × (offers acts left p a ≡ true) = (inr later.0, later.1) in inr both)
      among)
      (λ a among. ⊎_elim
      (λ (passed : Passed a). inl passed)
      (λ (there : In a (x ∷ xs) × (offers acts left p a ≡ true)). ⊎_elim
      (λ (here : a ≡ x). absurd (both_ways (offers acts left p x) not_one (sym (ap (offers acts left p) here) ∙ there.1)))
      (λ (later : In a xs). let both : In a xs × (offers acts left p a ≡ true) = (later, there.1) in inr both)
      there.0)
      among)
      (λ a passed. refl)
      (offered-all xs Passed next (omega arith) (λ a passed. omega (arith, low a passed)) (λ a later. positive a (inr later))
      (subst (IsSupported Passed prices) (sym is) held)))
      (cases_Bool (offers acts left p x))

-- ---- the atoms of a state
abbrev pub HasOffered : List Act → List ℕ → ℕ → ℕ → Type 0
HasOffered acts left p a = IsAdder acts p a × (get_or left a 0 ≡ 0)

pub record AreSupported (acts : List Act) (state : List Bool) (left prices : List ℕ) (front : Front) : Type 0 where
  pub size : length front.supporters ≡ length state
  pub each : (p : ℕ) → p < length state → IsSupported (HasOffered acts left p) prices (offered_to front p)

offers-parts : (acts : List Act) (left : List ℕ) (p a : ℕ) → offers acts left p a ≡ true → (get_or left a 0 ≡ 0) × (lists (act_at acts a).add p ≡ true)
offers-parts acts left p a is =
    let parts : ((get_or left a 0 == 0) ≡ true) × (lists (act_at acts a).add p ≡ true) =
    and_parts (get_or left a 0 == 0) (lists (act_at acts a).add p) is in
    let both : (get_or left a 0 ≡ 0) × (lists (act_at acts a).add p ≡ true) = (eqb-true (get_or left a 0) 0 parts.0, parts.1) in
    both

offers-from : (acts : List Act) (left : List ℕ) (p a : ℕ) → HasOffered acts left p a → offers acts left p a ≡ true
offers-from acts left p a has_offered =
    and_from (get_or left a 0 == 0) (lists (act_at acts a).add p) (eq-eqb (get_or left a 0) 0 has_offered.1) has_offered.0.adds

-- the first offers: none was made before
pub first-supported : (acts : List Act) (state : List Bool) (left prices : List ℕ) (front new : Front) →
    ((p : ℕ) → p < length state → get_or front.costs p 0 ≡ cond (has state p) 0 infinite) →
    front.supporters ≡ replicate (length state) None → ((a : ℕ) → a < length acts → get_or prices a 0 ≡ 1) →
    length new.supporters ≡ length front.supporters →
    ((p : ℕ) → offered_to new p ≡ after_offers acts left prices (range_with_len 0 (length acts)) p (offered_to front p)) →
    AreSupported acts state left prices new
first-supported acts state left prices front new costs none prices_are size offers_are = record {
  size = size ∙ (ap length none ∙ length-replicate (length state) None);
  each = λ p within.
      let now = offered_to front p in
      let Nobody : ℕ → Type 0 = λ a. ⊥ in
      let numbers = range_with_len 0 (length acts) in
      let number : (a : ℕ) → In a numbers → a < length acts = λ a there.
      All-contains (λ k. k < length acts) numbers a (range_below (length acts)) (Contains-from_In a numbers there) in
      let no : now.supporter ≡ None = ap (λ (l : List (Option ℕ)). get_or l p None) none ∙ get_or-replicate (length state) p None None within in
      let free : IsFree now = ⊎_elim
      (λ (there : has state p ≡ true).
      let zero_cost : now.cost ≡ 0 = costs p within ∙ cond-true {A = ℕ} (has state p) 0 infinite there in
      let is : IsFree now = record { none = no; edge = inl zero_cost } in is)
      (λ (lacks : has state p ≡ false).
      let large : now.cost ≡ infinite = costs p within ∙ cond-false {A = ℕ} (has state p) 0 infinite lacks in
      let is : IsFree now = record { none = no; edge = inr (omega arith) } in is)
      (cases_Bool (has state p)) in
      let most : now.cost ≤ infinite = ⊎_elim
      (λ (there : has state p ≡ true). omega (arith, costs p within, cond-true {A = ℕ} (has state p) 0 infinite there))
      (λ (lacks : has state p ≡ false). omega (arith, costs p within, cond-false {A = ℕ} (has state p) 0 infinite lacks))
      (cases_Bool (has state p)) in
      subst (IsSupported (HasOffered acts left p) prices) (sym (offers_are p))
      (held-same (Among acts left prices p Nobody numbers) (HasOffered acts left p) prices prices (after_offers acts left prices numbers p now)
      (λ a among. ⊎_elim
      (λ (nobody : ⊥). absurd nobody)
      (λ (there : In a numbers × (offers acts left p a ≡ true)).
      let parts = offers-parts acts left p a there.1 in
      let adder : IsAdder acts p a = record { number = number a there.0; adds = parts.1 } in
      let both : HasOffered acts left p a = (adder, parts.0) in both)
      among)
      (λ a has_offered.
      let both : In a numbers × (offers acts left p a ≡ true) = (In-range (length acts) a has_offered.0.number, offers-from acts left p a has_offered) in
      inr both)
      (λ a passed. refl)
      (offered-all acts left prices p numbers Nobody now most (λ a nobody. absurd nobody)
      (λ a there. omega (arith, prices_are a (number a there))) (inl free)));
}

-- an atom was settled, and the actions that need it may offer
pub next-supported : (acts : List Act) (state : List Bool) (left prices now_left now_prices needers : List ℕ) (front new : Front) →
    AreSupported acts state left prices front →
    ((p : ℕ) → p < length state → get_or front.costs p 0 ≤ infinite) →
    ((p a : ℕ) → p < length state → IsAdder acts p a → get_or left a 0 ≡ 0 → get_or front.costs p 0 ≤ get_or prices a 0) →
    All (λ a. 0 < get_or left a 0) needers → All (λ a. a < length acts) needers →
    ((a : ℕ) → lists needers a ≡ false → get_or now_left a 0 ≡ get_or left a 0) →
    ((a : ℕ) → lists needers a ≡ false → get_or now_prices a 0 ≡ get_or prices a 0) →
    ((a : ℕ) → a < length acts → 0 < get_or now_prices a 0) →
    length new.supporters ≡ length front.supporters →
    ((p : ℕ) → offered_to new p ≡ after_offers acts now_left now_prices needers p (offered_to front p)) →
    AreSupported acts state now_left now_prices new
next-supported acts state left prices now_left now_prices needers front new at most low waits numbers same_left same_prices positive size offers_are = record {
  size = size ∙ at.size;
  each = λ p within.
      let now = offered_to front p in
      let Before : ℕ → Type 0 = HasOffered acts left p in
      let unlisted : (a : ℕ) → get_or left a 0 ≡ 0 → lists needers a ≡ false = λ a none. ⊎_elim
      (λ (listed : lists needers a ≡ true).
      absurd (omega (arith, All-contains (λ k. 0 < get_or left k 0) needers a waits (Contains-from_In a needers (In-from_lists needers a listed)))))
      (λ (other : lists needers a ≡ false). other)
      (cases_Bool (lists needers a)) in
      let before : IsSupported Before now_prices now =
      held-same Before Before prices now_prices now (λ a h. h) (λ a h. h) (λ a h. same_prices a (unlisted a h.1)) (at.each p within) in
      subst (IsSupported (HasOffered acts now_left p) now_prices) (sym (offers_are p))
      (held-same (Among acts now_left now_prices p Before needers) (HasOffered acts now_left p) now_prices now_prices
      (after_offers acts now_left now_prices needers p now)
      (λ a among. ⊎_elim
      (λ (h : Before a).
      let both : HasOffered acts now_left p a = (h.0, same_left a (unlisted a h.1) ∙ h.1) in both)
      (λ (there : In a needers × (offers acts now_left p a ≡ true)).
      let parts = offers-parts acts now_left p a there.1 in
      let adder : IsAdder acts p a = record { number = All-contains (λ k. k < length acts) needers a numbers (Contains-from_In a needers there.0); adds = parts.1 } in
      let both : HasOffered acts now_left p a = (adder, parts.0) in both)
      among)
      (λ a h. ⊎_elim
      (λ (listed : lists needers a ≡ true).
      let both : In a needers × (offers acts now_left p a ≡ true) = (In-from_lists needers a listed, offers-from acts now_left p a h) in inr both)
      (λ (other : lists needers a ≡ false).
      let both : HasOffered acts left p a = (h.0, sym (same_left a other) ∙ h.1) in inl both)
      (cases_Bool (lists needers a)))
      (λ a h. refl)
      (offered-all acts now_left now_prices p needers Before now (most p within)
      (λ a h. omega (arith, low p a within h.0 h.1, same_prices a (unlisted a h.1)))
      (λ a there. positive a (All-contains (λ k. k < length acts) needers a numbers (Contains-from_In a needers there)))
      before));
}

-- ---- the end
-- of a rising list the first that passes is the least that does
find-least : (t : ℕ → Bool) (xs : List ℕ) (b : ℕ) → In b xs → t b ≡ true → ((a : ℕ) → In a xs → t a ≡ true → b ≤ a) →
    IsStrictlyIncreasing xs → find t xs ≡ Some b
find-least t [] b there passes first rising = absurd there
find-least t (x ∷ xs) b there passes first rising = ⊎_elim
    (λ (here : t x ≡ true).
    let same : x ≡ b = ⊎_elim
    (λ (is : b ≡ x). sym is)
    (λ (later : In b xs). let le : b ≤ x = first x (inl refl) here in omega (arith, rises-head x xs b rising later))
    there in
    cond-true (t x) (Some x) (find t xs) here ∙ ap Some same)
    (λ (fails : t x ≡ false).
    let later : In b xs = ⊎_elim
    (λ (is : b ≡ x). absurd (both_ways (t x) fails (sym (ap t is) ∙ passes)))
    (λ (in_rest : In b xs). in_rest)
    there in
    cond-false (t x) (Some x) (find t xs) fails
    ∙ find-least t xs b later passes (λ a among. first a (inr among)) (rises-tail x xs rising))
    (cases_Bool (t x))

-- each atom has its defined supporter, once no atom that is not settled has a finite cost
pub supporters-are : (acts : List Act) (state : List Bool) → All (IsAct (length state)) acts → (left prices : List ℕ) (front : Front) →
    IsCounted acts state front.costs front.settled left prices → IsSpent front.costs front.settled →
    AreSupported acts state left prices front → front.supporters ≡ supporters_of acts state front.costs
supporters-are acts state fit left prices front at spent supported =
    fill_by_all (supporter_of acts state front.costs) front.supporters (length state) None supported.size
    (λ p within. one p within (supported.each p within)) where
      paid : (a : ℕ) → 0 < price_of front.costs (act_at acts a)
      paid a = omega arith

      one : (p : ℕ) → p < length state → IsSupported (HasOffered acts left p) prices (offered_to front p) →
          get_or front.supporters p None ≡ supporter_of acts state front.costs p
      one p within held =
          let costs = front.costs in
          let cost = get_or costs p 0 in
          let t : ℕ → Bool = λ a. price_of costs (act_at acts a) == cost in
          let among = find t (adders_of acts p) in
          let finite = nat_lt cost infinite in
          ⊎_elim
          (λ (free : IsFree (offered_to front p)). free.none ∙ sym (⊎_elim
          (λ (there : has state p ≡ true). cond-true (has state p) None (cond finite among None) there)
          (λ (lacks : has state p ≡ false). cond-false (has state p) None (cond finite among None) lacks
          ∙ cond-false finite among None (le-ltb cost infinite (⊎_elim
          (λ (nothing : cost ≡ 0). ⊎_elim
          (λ (there : has state p ≡ true). absurd (both_ways (has state p) lacks there))
          (λ (by : (a : ℕ) × IsAdder acts p a × (price_of costs (act_at acts a) ≤ cost)).
          let cheap : price_of costs (act_at acts by.0) ≤ cost = by.2 in absurd (omega (arith, paid by.0)))
          (at.cause p within (omega arith)))
          (λ (large : infinite ≤ cost). large)
          free.edge)))
          (cases_Bool (has state p))))
          (λ (h : IsHeld (HasOffered acts left p) prices (offered_to front p)).
          let adder : IsAdder acts p h.by = h.first_at.passed.0 in
          let none : get_or left h.by 0 ≡ 0 = h.first_at.passed.1 in
          let small : cost < infinite = h.first_at.small in
          let price : price_of costs (act_at acts h.by) ≡ cost =
          sym (price-settled acts state costs front.settled left prices h.by (at.left_is h.by adder.number) (at.price_is h.by adder.number) none) ∙ h.first_at.price in
          let lacks : has state p ≡ false = ⊎_elim
          (λ (there : has state p ≡ true). absurd (omega (arith, at.there p there, paid h.by)))
          (λ (no : has state p ≡ false). no)
          (cases_Bool (has state p)) in
          let listed : In h.by (adders_of acts p) =
          In-filter (λ a. lists (act_at acts a).add p) (range_with_len 0 (length acts)) h.by (In-range (length acts) h.by adder.number) adder.adds in
          let found : among ≡ Some h.by =
          find-least t (adders_of acts p) h.by listed (eq-eqb (price_of costs (act_at acts h.by)) cost price)
          (λ a there passes.
          let other : IsAdder acts p a = adder-from acts p a there in
          let attains : price_of costs (act_at acts a) ≡ cost = eqb-true (price_of costs (act_at acts a)) cost passes in
          let closed : get_or left a 0 ≡ 0 = ⊎_elim
          (λ (open_one : 0 < get_or left a 0).
          absurd (omega (arith, price-open acts state fit costs front.settled left prices at spent a other.number open_one)))
          (λ (all : get_or left a 0 ≤ 0). omega arith)
          (cases_lt 0 (get_or left a 0)) in
          let offered : HasOffered acts left p a = (other, closed) in
          h.first_at.first a offered
          (price-settled acts state costs front.settled left prices a (at.left_is a other.number) (at.price_is a other.number) closed ∙ attains))
          (IsStrictlyIncreasing-filter (λ a. lists (act_at acts a).add p) (range_with_len 0 (length acts)) (range_rises (length acts))) in
          h.is ∙ supporter_of-found acts state costs p (Some h.by) lacks small (sym found))
          held
