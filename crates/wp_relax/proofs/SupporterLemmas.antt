-- A supporter attains the atom's cost, so what it needs costs less.
use Rattle.std.proofs.Common.{◌≡◌, ◌==◌, ◌<◌, ◌≤◌, ℕ, nat_lt, Bool, true, false, cond, List, [], ◌∷◌, Option, Some, None, length, get_or, eqb, refl, sym, ap, ◌∙◌, subst, inl, inr, ⊎_elim, arith}
use Rattle.std.specs.Prelude.{IfSome}
use Rattle.std.specs.List.{find, sum_by, range_with_len}
use Rattle.std.proofs.lemmas.Bool.{cases_Bool, cond-true, cond-false, ltb-true, lt-ltb, eqb-true}
use Rattle.std.proofs.lemmas.List.Elements.{All-map}
use Rattle.wp_task.specs.declared.acts.Act.{Act}
use Rattle.wp_task.specs.Set.{has}
use Rattle.wp_task.specs.Task.{act_at, adders_of}
use Rattle.wp_task.proofs.Members.{In, list_any-at}
use Rattle.wp_relax.specs.AdditiveCost.{infinite, price_of, supporter_of, supporters_of}
use Rattle.wp_relax.specs.RelaxedPlan.{AreActs}
use Rattle.wp_relax.specs.Laws.{IsAdder, SupportersNeedLess}
use Rattle.wp_relax.proofs.SumLemmas.{member-le-sum}
use Rattle.wp_relax.proofs.Unique.{adder-from}

find-passes : (t : ℕ → Bool) (xs : List ℕ) (a : ℕ) → find t xs ≡ Some a → t a ≡ true
find-passes t [] a found = absurd (cc)
find-passes t (x ∷ xs) a found = ⊎_elim
    (λ (here : t x ≡ true).
    let is : Some x ≡ Some a = sym (ap (λ (b : Bool). cond b (Some x) (find t xs)) here) ∙ found in
    let same : x ≡ a = cc in
    ap t (sym same) ∙ here)
    (λ (later : t x ≡ false). find-passes t xs a (sym (ap (λ (b : Bool). cond b (Some x) (find t xs)) later) ∙ found))
    (cases_Bool (t x))

find-in : (t : ℕ → Bool) (xs : List ℕ) (a : ℕ) → find t xs ≡ Some a → In a xs
find-in t [] a found = absurd (cc)
find-in t (x ∷ xs) a found = ⊎_elim
    (λ (here : t x ≡ true).
    let is : Some x ≡ Some a = sym (ap (λ (b : Bool). cond b (Some x) (find t xs)) here) ∙ found in
    let same : a ≡ x = cc in
    inl same)
    (λ (later : t x ≡ false). inr (find-in t xs a (sym (ap (λ (b : Bool). cond b (Some x) (find t xs)) later) ∙ found)))
    (cases_Bool (t x))

-- the supporter of an atom that is not in the state and has a finite cost
pub supporter_of-found : (acts : List Act) (state : List Bool) (costs : List ℕ) (p : ℕ) (found : Option ℕ) → has state p ≡ false →
    get_or costs p 0 < infinite → found ≡ find (λ a. price_of costs (act_at acts a) == get_or costs p 0) (adders_of acts p) →
    found ≡ supporter_of acts state costs p
supporter_of-found acts state costs p found lacks small is =
    let among = find (λ a. price_of costs (act_at acts a) == get_or costs p 0) (adders_of acts p) in
    let finite = nat_lt (get_or costs p 0) infinite in
    is ∙ sym (cond-false (has state p) None (cond finite among None) lacks ∙ cond-true finite among None (lt-ltb (get_or costs p 0) infinite small))

-- where an atom has a supporter its cost is finite, and the supporter is found among the adders
supporter-found : (acts : List Act) (state : List Bool) (costs : List ℕ) (p a : ℕ) → supporter_of acts state costs p ≡ Some a →
    (get_or costs p 0 < infinite) × (find (λ b. price_of costs (act_at acts b) == get_or costs p 0) (adders_of acts p) ≡ Some a)
supporter-found acts state costs p a is =
    let among = find (λ b. price_of costs (act_at acts b) == get_or costs p 0) (adders_of acts p) in
    let finite = nat_lt (get_or costs p 0) infinite in
    ⊎_elim
    (λ (there : has state p ≡ true).
    let none : None ≡ Some a = sym (ap (λ (b : Bool). cond b None (cond finite among None)) there) ∙ is in absurd (cc))
    (λ (lacks : has state p ≡ false).
    let rest : cond finite among None ≡ Some a = sym (ap (λ (b : Bool). cond b None (cond finite among None)) lacks) ∙ is in
    ⊎_elim
    (λ (small : finite ≡ true).
    let found : among ≡ Some a = sym (ap (λ (b : Bool). cond b among None) small) ∙ rest in
    let both : (get_or costs p 0 < infinite) × (among ≡ Some a) = (ltb-true (get_or costs p 0) infinite small, found) in
    both)
    (λ (large : finite ≡ false).
    let none : None ≡ Some a = sym (ap (λ (b : Bool). cond b among None) large) ∙ rest in absurd (cc))
    (cases_Bool finite))
    (cases_Bool (has state p))

-- the cost of such an atom is the supporter's price
pub supporter-is : (acts : List Act) (state : List Bool) (costs : List ℕ) (p a : ℕ) → supporter_of acts state costs p ≡ Some a →
    (get_or costs p 0 < infinite) × (price_of costs (act_at acts a) ≡ get_or costs p 0)
supporter-is acts state costs p a is =
    let t : ℕ → Bool = λ b. price_of costs (act_at acts b) == get_or costs p 0 in
    let found = supporter-found acts state costs p a is in
    let both : (get_or costs p 0 < infinite) × (price_of costs (act_at acts a) ≡ get_or costs p 0) =
    (found.0, eqb-true (price_of costs (act_at acts a)) (get_or costs p 0) (find-passes t (adders_of acts p) a found.1)) in
    both

pub supporter-adds : (acts : List Act) (state : List Bool) (costs : List ℕ) (p a : ℕ) → supporter_of acts state costs p ≡ Some a →
    IsAdder acts p a
supporter-adds acts state costs p a is =
    adder-from acts p a (find-in (λ b. price_of costs (act_at acts b) == get_or costs p 0) (adders_of acts p) a
    (supporter-found acts state costs p a is).1)

pub supporters_need_less : SupportersNeedLess
supporters_need_less acts state costs p a q is needed =
    let attains = supporter-is acts state costs p a is in
    let act = act_at acts a in
    let found : (x : ℕ) × In x act.pre × (eqb x q ≡ true) = list_any-at (λ x. eqb x q) act.pre needed in
    let same : found.0 ≡ q = eqb-true found.0 q found.2 in
    let there : In q act.pre = subst (λ (x : ℕ). In x act.pre) same found.1 in
    let part : get_or costs q 0 ≤ sum_by (λ k. get_or costs k 0) act.pre = member-le-sum (λ k. get_or costs k 0) act.pre q there in
    let finite : get_or costs p 0 < infinite = attains.0 in
    let priced : price_of costs act ≡ get_or costs p 0 = attains.1 in
    omega arith

if_some : (n : ℕ) (o : Option ℕ) → ((a : ℕ) → o ≡ Some a → a < n) → IfSome o (λ a. a < n)
if_some n None small = tt
if_some n (Some a) small = small a refl

pub supporters_are_acts : (acts : List Act) (state : List Bool) (costs : List ℕ) → AreActs (length acts) (supporters_of acts state costs)
supporters_are_acts acts state costs =
    All-map (λ (o : Option ℕ). IfSome o (λ a. a < length acts)) (supporter_of acts state costs) (range_with_len 0 (length state))
    (λ k d within. let p = get_or (range_with_len 0 (length state)) k d in
    if_some (length acts) (supporter_of acts state costs p) (λ a is. (supporter-adds acts state costs p a is).number))
