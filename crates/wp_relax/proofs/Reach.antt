-- A relaxed plan reaches the goals. What the supporter of a wanted atom needs is in the state, or it is wanted and its
-- own supporter costs less and so comes before.
use Rattle.std.proofs.Common.{◌≡◌, ◌⊎◌, ◌<◌, ◌≤◌, ◌&&◌, ◌||◌, not, ℕ, nat_lt, Bool, true, false, cond, List, [], ◌∷◌, Option, Some, None, length, map, get_or, refl, sym, ap, ◌∙◌, inl, inr, ⊎_elim, arith}
use Rattle.std.specs.Prelude.{IfSome}
use Rattle.std.specs.List.{All, filter, range_with_len}
use Rattle.std.proofs.lemmas.Bool.{cases_Bool, ltb-true, lt-ltb, eqb-true, eq-eqb, and_parts, and_from, or_left, or_right, not-true, not_from_false}
use Rattle.std.proofs.lemmas.List.{get_or-map, length-map}
use Rattle.std.proofs.lemmas.List.Elements.{All-contains, All-get_or}
use Rattle.std.proofs.lemmas.List.FromFn.{get_or-map-range_with_len, length-map-range_with_len}
use Rattle.wp_task.specs.declared.acts.Act.{Act}
use Rattle.wp_task.specs.Set.{has, lists}
use Rattle.wp_task.specs.Task.{act_at, applies, result_of, leads_to, has_goals, IsAct}
use Rattle.wp_task.proofs.Members.{In, In-filter, In-filter_cases, Contains-from_In, list_all-at, list_all-from, list_any-at, list_any-from}
use Rattle.wp_task.proofs.PlanLemmas.{leads_to-step, length-result_of}
use Rattle.wp_relax.specs.AdditiveCost.{infinite, price_of, costs_of, supporter_of, supporters_of}
use Rattle.wp_relax.specs.RelaxedPlan.{needs, wanted_of, is_for, supports, in_order, in_reach}
use Rattle.wp_relax.specs.Laws.{HasWanted, without_deletes, RelaxedPlansReach}
use Rattle.wp_relax.proofs.LeastWanted.{wanted_least}
use Rattle.wp_relax.proofs.Listed.{In-from_lists, lists-from_In, In-range, below_size}
use Rattle.wp_relax.proofs.OrderLemmas.{IsInOrder, in_order-cases, in_order-has, in_order-ordered, later-le}
use Rattle.wp_relax.proofs.SupporterLemmas.{supporter-is, supporter-adds, supporters_need_less}
use Rattle.wp_relax.proofs.SupporterExists.{supporters_are_there}

-- who needs something is an action
needs-is : (acts : List Act) (o : Option ℕ) (q : ℕ) → needs acts o q ≡ true →
    (a : ℕ) × (o ≡ Some a) × (lists (act_at acts a).pre q ≡ true)
needs-is acts None q needed = absurd (cc)
needs-is acts (Some a) q needed =
    let found : (b : ℕ) × (Some a ≡ Some b) × (lists (act_at acts b).pre q ≡ true) = (a, refl, needed) in found

is_for-is : (o : Option ℕ) (a : ℕ) → is_for o a ≡ true → o ≡ Some a
is_for-is None a for_it = absurd (cc)
is_for-is (Some b) a for_it = ap Some (eqb-true b a for_it)

module _ (acts : List Act) (goals : List ℕ) (state : List Bool) (fit : All (IsAct (length state)) acts)
    (known : All (λ p. p < length state) goals) (finite : in_reach goals (costs_of acts state) ≡ true) where
  abbrev costs : List ℕ
  costs = costs_of acts state

  abbrev supporters : List (Option ℕ)
  supporters = supporters_of acts state costs

  abbrev wanted : List Bool
  wanted = wanted_of acts goals state supporters

  abbrev price : ℕ → ℕ
  price a = price_of costs (act_at acts a)

  abbrev relaxed : List Act
  relaxed = map without_deletes acts

  abbrev IsSupporter : ℕ → ℕ → Type 0
  IsSupporter p a = supporter_of acts state costs p ≡ Some a

  supporter-at : (p : ℕ) → p < length state → get_or supporters p None ≡ supporter_of acts state costs p
  supporter-at p within = get_or-map-range_with_len (supporter_of acts state costs) 0 (length state) p p None within (omega arith)

  -- ---- wanted atoms are not in the state and cost something finite
  abbrev lacked : List Bool
  lacked = map (λ p. not (has state p) && nat_lt (get_or costs p 0) infinite) (range_with_len 0 (length state))

  lacked-at : (p : ℕ) → p < length state → has lacked p ≡ (not (has state p) && nat_lt (get_or costs p 0) infinite)
  lacked-at p within =
      get_or-map-range_with_len (λ k. not (has state k) && nat_lt (get_or costs k 0) infinite) 0 (length state) p p false within (omega arith)

  lacked-from : (p : ℕ) → p < length state → has state p ≡ false → get_or costs p 0 < infinite → has lacked p ≡ true
  lacked-from p within lacks small =
      lacked-at p within
      ∙ and_from (not (has state p)) (nat_lt (get_or costs p 0) infinite) (not_from_false (has state p) lacks) (lt-ltb (get_or costs p 0) infinite small)

  pub record IsLacked (p : ℕ) : Type 0 where
    pub within : p < length state
    pub lacks : has state p ≡ false
    pub small : get_or costs p 0 < infinite

  is_lacked : (p : ℕ) → has lacked p ≡ true → IsLacked p
  is_lacked p there =
      let within : p < length state = omega (
        arith,
        below_size lacked p there,
        length-map-range_with_len (λ k. not (has state k) && nat_lt (get_or costs k 0) infinite) 0 (length state),
      ) in
      let parts = and_parts (not (has state p)) (nat_lt (get_or costs p 0) infinite) (sym (lacked-at p within) ∙ there) in
      record { within = within; lacks = not-true (has state p) parts.0; small = ltb-true (get_or costs p 0) infinite parts.1 }

  lacked_has : HasWanted acts goals state supporters lacked
  lacked_has = record {
    unmet = λ p within is_goal lacks. lacked-from p within lacks
        (ltb-true (get_or costs p 0) infinite
        (list_all-at (λ k. nat_lt (get_or costs k 0) infinite) goals finite p (In-from_lists goals p is_goal)));
    closed = λ p q within there needed lacks.
        let at : IsLacked p = is_lacked p there in
        let by = needs-is acts (get_or supporters p None) q needed in
        let less : get_or costs q 0 < get_or costs p 0 =
        supporters_need_less acts state costs p by.0 q (sym (supporter-at p at.within) ∙ by.1) by.2 in
        let small : get_or costs p 0 < infinite = at.small in
        lacked-from q within lacks (omega arith);
  }

  wanted_lacked : (p : ℕ) → has wanted p ≡ true → IsLacked p
  wanted_lacked p there =
      is_lacked p ((wanted_least acts goals state supporters).least lacked lacked_has p there)

  -- ---- so each has a supporter
  supporter_or : (p : ℕ) → IsLacked p → (o : Option ℕ) → supporter_of acts state costs p ≡ o → (a : ℕ) × IsSupporter p a
  supporter_or p at None none = ⊎_elim
      (λ (there : has state p ≡ true). let lacks : has state p ≡ false = at.lacks in absurd (cc))
      (λ (large : infinite ≤ get_or costs p 0). let small : get_or costs p 0 < infinite = at.small in absurd (omega arith))
      ((supporters_are_there acts state p at.within).0 none)
  supporter_or p at (Some a) is = let found : (b : ℕ) × IsSupporter p b = (a, is) in found

  has_supporter : (p : ℕ) → has wanted p ≡ true → (a : ℕ) × IsSupporter p a
  has_supporter p there = supporter_or p (wanted_lacked p there) (supporter_of acts state costs p) refl

  -- what the supporter of a wanted atom needs and the state lacks is wanted, and costs less
  needed_wanted : (p a q : ℕ) → has wanted p ≡ true → IsSupporter p a → q < length state →
      lists (act_at acts a).pre q ≡ true → has state q ≡ false → has wanted q ≡ true
  needed_wanted p a q there is within needed lacks =
      let at : IsLacked p = wanted_lacked p there in
      (wanted_least acts goals state supporters).wanted.closed p q within there
      (ap (λ (o : Option ℕ). needs acts o q) (supporter-at p at.within ∙ is) ∙ needed) lacks

  -- ---- carrying out the plan
  pub record IsWantedBy (a : ℕ) : Type 0 where
    pub atom : ℕ
    pub there : has wanted atom ≡ true
    pub is : IsSupporter atom a

  -- what holds of a state on the way, where the actions of the plan are still to come
  pub record IsOn (now : List Bool) (plan : List ℕ) : Type 0 where
    pub size : length now ≡ length state
    pub kept : (p : ℕ) → has state p ≡ true → has now p ≡ true
    pub supporting : (a : ℕ) → In a plan → IsWantedBy a
    pub ordered : IsInOrder price plan
    pub coming : (p a : ℕ) → has wanted p ≡ true → IsSupporter p a → (has now p ≡ true) ⊎ In a plan

  relaxed-at : (a : ℕ) → a < length acts → act_at relaxed a ≡ without_deletes (act_at acts a)
  relaxed-at a within = get_or-map without_deletes acts a (act_at [] 0) (act_at [] 0) within

  -- a precondition is there: else its supporter would be sooner
  precondition : (now : List Bool) (a : ℕ) (plan : List ℕ) → IsOn now (a ∷ plan) → IsWantedBy a →
      (q : ℕ) → In q (act_at acts a).pre → has now q ≡ true
  precondition now a plan on by q needed = ⊎_elim
      (λ (there : has state q ≡ true). on.kept q there)
      (λ (lacks : has state q ≡ false).
      let is : IsSupporter by.atom a = by.is in
      let listed : lists (act_at acts a).pre q ≡ true = lists-from_In (act_at acts a).pre q needed in
      let act : IsAct (length state) (act_at acts a) = All-get_or (IsAct (length state)) acts a (act_at [] 0) (supporter-adds acts state costs by.atom a is).number fit in
      let within : q < length state = All-contains (λ p. p < length state) (act_at acts a).pre q act.needs.below (Contains-from_In q (act_at acts a).pre needed) in
      let also : has wanted q ≡ true = needed_wanted by.atom a q by.there is within listed lacks in
      let before : (b : ℕ) × IsSupporter q b = has_supporter q also in
      let less : get_or costs q 0 < get_or costs by.atom 0 = supporters_need_less acts state costs by.atom a q is listed in
      let cost_a : price a ≡ get_or costs by.atom 0 = (supporter-is acts state costs by.atom a is).1 in
      let cost_b : price before.0 ≡ get_or costs q 0 = (supporter-is acts state costs q before.0 before.1).1 in
      ⊎_elim
      (λ (there : has now q ≡ true). there)
      (λ (later : In before.0 (a ∷ plan)). ⊎_elim
      (λ (same : before.0 ≡ a). let e : price before.0 ≡ price a = ap price same in absurd (omega arith))
      (λ (rest : In before.0 plan).
      let after : price a ≤ price before.0 = later-le price before.0 a (on.ordered.0 before.0 rest) in absurd (omega arith))
      later)
      (on.coming q before.0 also before.1))
      (cases_Bool (has state q))

  result-at : (act : Act) (now : List Bool) (q : ℕ) → q < length now →
      has (result_of (without_deletes act) now) q ≡ ((has now q && true) || lists act.add q)
  result-at act now q within =
      get_or-map-range_with_len (λ p. (has now p && true) || lists act.add p) 0 (length now) q q false within (omega arith)

  result-keeps : (act : Act) (now : List Bool) (q : ℕ) → has now q ≡ true → has (result_of (without_deletes act) now) q ≡ true
  result-keeps act now q there =
      result-at act now q (below_size now q there)
      ∙ or_left (has now q && true) (lists act.add q) (and_from (has now q) true there refl)

  result-adds : (act : Act) (now : List Bool) (q : ℕ) → q < length now → lists act.add q ≡ true →
      has (result_of (without_deletes act) now) q ≡ true
  result-adds act now q within adds = result-at act now q within ∙ or_right (has now q && true) (lists act.add q) adds

  one_on : (now : List Bool) (a : ℕ) (plan : List ℕ) → IsOn now (a ∷ plan) → IsOn (result_of (without_deletes (act_at acts a)) now) plan
  one_on now a plan on = record {
    size = length-result_of (without_deletes (act_at acts a)) now ∙ on.size;
    kept = λ p there. result-keeps (act_at acts a) now p (on.kept p there);
    supporting = λ b there. on.supporting b (inr there);
    ordered = on.ordered.1;
    coming = λ p b there is. ⊎_elim
        (λ (before : has now p ≡ true). inl (result-keeps (act_at acts a) now p before))
        (λ (later : In b (a ∷ plan)). ⊎_elim
        (λ (same : b ≡ a).
        let at : IsLacked p = wanted_lacked p there in
        let within : p < length state = at.within in
        let size : length now ≡ length state = on.size in
        let adds : lists (act_at acts a).add p ≡ true = (supporter-adds acts state costs p a (is ∙ ap Some same)).adds in
        inl (result-adds (act_at acts a) now p (omega arith) adds))
        (λ (rest : In b plan). inr rest)
        later)
        (on.coming p b there is);
  }

  reaches : (plan : List ℕ) (now : List Bool) → IsOn now plan → has_goals goals (leads_to relaxed now plan) ≡ true
  reaches [] now on = list_all-from (has now) goals (λ p is_goal. ⊎_elim
      (λ (there : has state p ≡ true). on.kept p there)
      (λ (lacks : has state p ≡ false).
      let within : p < length state = All-contains (λ k. k < length state) goals p known (Contains-from_In p goals is_goal) in
      let also : has wanted p ≡ true = (wanted_least acts goals state supporters).wanted.unmet p within (lists-from_In goals p is_goal) lacks in
      let by : (a : ℕ) × IsSupporter p a = has_supporter p also in
      ⊎_elim (λ (there : has now p ≡ true). there) (λ (none : ⊥). absurd none) (on.coming p by.0 also by.1))
      (cases_Bool (has state p)))
  reaches (a ∷ plan) now on =
      let by : IsWantedBy a = on.supporting a (inl refl) in
      let within : a < length acts = (supporter-adds acts state costs by.atom a by.is).number in
      let is : act_at relaxed a ≡ without_deletes (act_at acts a) = relaxed-at a within in
      let ready : applies (act_at relaxed a) now ≡ true =
      ap (λ (act : Act). applies act now) is ∙ list_all-from (has now) (act_at acts a).pre (precondition now a plan on by) in
      ap (has_goals goals) (leads_to-step relaxed now a plan (omega (arith, length-map acts without_deletes)) ready)
      ∙ (ap (λ (act : Act). has_goals goals (leads_to relaxed (result_of act now) plan)) is
      ∙ reaches plan (result_of (without_deletes (act_at acts a)) now) (one_on now a plan on))

  -- ---- the plan at its start
  abbrev among : List ℕ
  among = filter (supports supporters wanted) (range_with_len 0 (length acts))

  starts : IsOn state (in_order price among)
  starts = record {
    size = refl;
    kept = λ p there. there;
    supporting = λ a there.
        let passes : supports supporters wanted a ≡ true =
        (In-filter_cases (supports supporters wanted) (range_with_len 0 (length acts)) a (in_order-cases price among a there)).1 in
        let at : (p : ℕ) × In p (range_with_len 0 (length wanted)) × ((is_for (get_or supporters p None) a && has wanted p) ≡ true) =
        list_any-at (λ p. is_for (get_or supporters p None) a && has wanted p) (range_with_len 0 (length wanted)) passes in
        let parts = and_parts (is_for (get_or supporters at.0 None) a) (has wanted at.0) at.2 in
        let lacks : IsLacked at.0 = wanted_lacked at.0 parts.1 in
        record { atom = at.0; there = parts.1; is = sym (supporter-at at.0 lacks.within) ∙ is_for-is (get_or supporters at.0 None) a parts.0 };
    ordered = in_order-ordered price among;
    coming = λ p a there is.
        let lacks : IsLacked p = wanted_lacked p there in
        let for_it : is_for (get_or supporters p None) a ≡ true =
        ap (λ (o : Option ℕ). is_for o a) (supporter-at p lacks.within ∙ is) ∙ eq-eqb a a refl in
        let passes : supports supporters wanted a ≡ true =
        list_any-from (λ k. is_for (get_or supporters k None) a && has wanted k) (range_with_len 0 (length wanted)) p
        (In-range (length wanted) p (below_size wanted p there))
        (and_from (is_for (get_or supporters p None) a) (has wanted p) for_it there) in
        inr (in_order-has price among a
        (In-filter (supports supporters wanted) (range_with_len 0 (length acts)) a
        (In-range (length acts) a (supporter-adds acts state costs p a is).number) passes));
  }

  plan_reaches : has_goals goals (leads_to relaxed state (in_order price among)) ≡ true
  plan_reaches = reaches (in_order price among) state starts

if_some : (P : List ℕ → Type 0) (plan : List ℕ) (b : Bool) → (b ≡ true → P plan) → IfSome (cond b (Some plan) None) P
if_some P plan true holds = holds refl
if_some P plan false holds = tt

pub relaxed_plans_reach : RelaxedPlansReach
relaxed_plans_reach acts goals state fit known =
    let costs = costs_of acts state in
    let supporters = supporters_of acts state costs in
    let wanted = wanted_of acts goals state supporters in
    if_some (λ plan. has_goals goals (leads_to (map without_deletes acts) state plan) ≡ true)
    (in_order (λ a. price_of costs (act_at acts a)) (filter (supports supporters wanted) (range_with_len 0 (length acts))))
    (in_reach goals costs)
    (λ finite. plan_reaches acts goals state fit known finite)
