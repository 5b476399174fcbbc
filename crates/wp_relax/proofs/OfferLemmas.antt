-- Prices offered by one action after another.
use Rattle.std.proofs.Common.{◌≡◌, ◌<◌, ◌+◌, ◌++◌, ◌∷◌, ◌&&◌, [], ℕ, suc, min, Bool, true, false, cond, List, length, map, take, get_or, set, eqb, refl, sym, ap, ◌∙◌, subst, ⊎_elim, arith}
use Rattle.std.specs.List.{fold, filter, range_with_len}
use Rattle.std.specs.List.Sorted.{IsStrictlyIncreasing}
use Rattle.std.proofs.lemmas.Bool.{cases_eq, cond-true, cond-false, eq-eqb, eqb-false, ne_eqb, or_parts}
use Rattle.std.proofs.lemmas.List.{map-id, get_or-set_other}
use Rattle.std.proofs.Math.Seq.{take-suc}
use Rattle.std.proofs.lemmas.List.FromFn.{map-range_with_len_more}
use Rattle.std.proofs.lemmas.List.Sums.{fold-append}
use Rattle.wp_task.specs.declared.acts.Act.{Act}
use Rattle.wp_task.specs.Set.{lists}
use Rattle.wp_task.specs.Task.{act_at}
use Rattle.wp_task.proofs.AddersLemmas.{not_listed_before}
use Rattle.wp_relax.specs.Frontier.{Front, Offered, offered_to, better, offers, least_offer, after_offer, after_offers}
use Rattle.wp_relax.proofs.StepLemmas.{listed-here, listed-other}

-- one action more has offered
pub offers-range_more : (acts : List Act) (left prices : List ℕ) (a p : ℕ) (now : Offered) →
    after_offers acts left prices (range_with_len 0 (a + 1)) p now
    ≡ after_offer acts left prices p (after_offers acts left prices (range_with_len 0 a) p now) a
offers-range_more acts left prices a p now =
    let more : range_with_len 0 (a + 1) ≡ range_with_len 0 a ++ a ∷ [] = simp map-id at (map-range_with_len_more (λ (k : ℕ). k) 0 a a (omega arith)) in
    ap (fold (after_offer acts left prices p) now) more ∙ fold-append (after_offer acts left prices p) now (range_with_len 0 a) (a ∷ [])

-- the cost after all offers is the least of them and of the cost before
cost-if : (acts : List Act) (left prices : List ℕ) (p a : ℕ) (now : Offered) (xs : List ℕ) (b : Bool) → offers acts left p a ≡ b →
    fold min (cond b (min now.cost (get_or prices a 0)) now.cost) (map (λ k. get_or prices k 0) (filter (offers acts left p) xs))
    ≡ fold min now.cost (map (λ k. get_or prices k 0) (filter (offers acts left p) (a ∷ xs)))
cost-if acts left prices p a now xs true is =
    let rest = filter (offers acts left p) xs in
    sym (ap (λ (b : Bool). fold min now.cost (map (λ k. get_or prices k 0) (cond b (a ∷ rest) rest))) is)
cost-if acts left prices p a now xs false is =
    let rest = filter (offers acts left p) xs in
    sym (ap (λ (b : Bool). fold min now.cost (map (λ k. get_or prices k 0) (cond b (a ∷ rest) rest))) is)

cost-one : (b : Bool) (now : Offered) (a price : ℕ) → (cond b (better now a price) now).cost ≡ cond b (min now.cost price) now.cost
cost-one true now a price = refl
cost-one false now a price = refl

pub offers-cost : (acts : List Act) (left prices : List ℕ) (p : ℕ) (xs : List ℕ) (now : Offered) (costs : List ℕ) → now.cost ≡ get_or costs p 0 →
    (after_offers acts left prices xs p now).cost ≡ least_offer acts left prices xs costs p
offers-cost acts left prices p xs now costs is = offers-fold xs now ∙ ap (λ n. fold min n (map (λ k. get_or prices k 0) (filter (offers acts left p) xs))) is where
  offers-fold : (ys : List ℕ) (first : Offered) →
      (after_offers acts left prices ys p first).cost ≡ fold min first.cost (map (λ k. get_or prices k 0) (filter (offers acts left p) ys))
  offers-fold [] first = refl
  offers-fold (y ∷ ys) first =
      offers-fold ys (after_offer acts left prices p first y)
      ∙ (ap (λ n. fold min n (map (λ k. get_or prices k 0) (filter (offers acts left p) ys))) (cost-one (offers acts left p y) first y (get_or prices y 0))
      ∙ cost-if acts left prices p y first ys (offers acts left p y) refl)

-- one place more of a list is offered a price
pub offered-next : (first now new : Front) (places : List ℕ) (i a price : ℕ) → IsStrictlyIncreasing places → i < length places →
    ((q : ℕ) → offered_to new q ≡ cond (eqb (get_or places i 0) q) (better (offered_to now q) a price) (offered_to now q)) →
    ((q : ℕ) → offered_to now q ≡ cond (lists (take i places) q) (better (offered_to first q) a price) (offered_to first q)) →
    (q : ℕ) → offered_to new q ≡ cond (lists (take (i + 1) places) q) (better (offered_to first q) a price) (offered_to first q)
offered-next first now new places i a price rising within one so_far q =
    let x = get_or places i 0 in
    let choose : Bool → Offered = λ b. cond b (better (offered_to first q) a price) (offered_to first q) in
    ⊎_elim
    (λ (same : q ≡ x).
    let none : lists (take i places) q ≡ false = ap (lists (take i places)) same ∙ not_listed_before places i rising within in
    let before : offered_to now q ≡ offered_to first q = so_far q ∙ ap choose none in
    one q
    ∙ (cond-true (eqb x q) (better (offered_to now q) a price) (offered_to now q) (eq-eqb x q (sym same))
    ∙ (ap (λ (o : Offered). better o a price) before
    ∙ sym (ap choose (ap (lists (take (i + 1) places)) same ∙ listed-here places i within)))))
    (λ (other : q ≡ x → ⊥).
    one q
    ∙ (cond-false (eqb x q) (better (offered_to now q) a price) (offered_to now q) (ne_eqb x q (λ (same : x ≡ q). other (sym same)))
    ∙ (so_far q ∙ sym (ap choose (listed-other places i q within other)))))
    (cases_eq q x)

-- what is left of other actions does not change what some actions offer
offers-others : (acts : List Act) (left prices now_left now_prices : List ℕ) (x p : ℕ) (xs : List ℕ) (now : Offered) → lists xs x ≡ false →
    ((a : ℕ) → (a ≡ x → ⊥) → get_or now_left a 0 ≡ get_or left a 0) → ((a : ℕ) → (a ≡ x → ⊥) → get_or now_prices a 0 ≡ get_or prices a 0) →
    after_offers acts now_left now_prices xs p now ≡ after_offers acts left prices xs p now
offers-others acts left prices now_left now_prices x p [] now none lefts costs = refl
offers-others acts left prices now_left now_prices x p (y ∷ xs) now none lefts costs =
    let both = or_parts (eqb y x) (lists xs x) none in
    let other : y ≡ x → ⊥ = eqb-false y x both.0 in
    let one : after_offer acts now_left now_prices p now y ≡ after_offer acts left prices p now y =
    λ j. cond (eqb (lefts y other j) 0 && lists (act_at acts y).add p) (better now y (costs y other j)) now in
    ap (λ (o : Offered). after_offers acts now_left now_prices xs p o) one
    ∙ offers-others acts left prices now_left now_prices x p xs (after_offer acts left prices p now y) both.1 lefts costs

-- one action more of a list is settled, and then offers
pub offers-next : (acts : List Act) (left prices now_left now_prices places : List ℕ) (i less more p : ℕ) (first now new : Offered) →
    IsStrictlyIncreasing places → i < length places →
    now_left ≡ set left (get_or places i 0) less → now_prices ≡ set prices (get_or places i 0) more →
    now ≡ after_offers acts left prices (take i places) p first →
    new ≡ after_offer acts now_left now_prices p now (get_or places i 0) →
    new ≡ after_offers acts now_left now_prices (take (i + 1) places) p first
offers-next acts left prices now_left now_prices places i less more p first now new rising within lefts costs so_far one =
    let x = get_or places i 0 in
    let step : Offered → ℕ → Offered = after_offer acts now_left now_prices p in
    let before : now ≡ after_offers acts now_left now_prices (take i places) p first =
    so_far ∙ sym (offers-others acts left prices now_left now_prices x p (take i places) first (not_listed_before places i rising within)
    (λ a other. ap (λ l. get_or l a 0) lefts ∙ get_or-set_other left x a less 0 other)
    (λ a other. ap (λ l. get_or l a 0) costs ∙ get_or-set_other prices x a more 0 other)) in
    let longer : take (i + 1) places ≡ take i places ++ x ∷ [] =
    subst (λ (n : ℕ). take n places ≡ take i places ++ x ∷ []) (let e : suc i ≡ i + 1 = omega arith in e) (take-suc places i 0 within) in
    one ∙ (ap (λ (o : Offered). step o x) before
    ∙ sym (ap (fold step first) longer ∙ fold-append step first (take i places) (x ∷ [])))
