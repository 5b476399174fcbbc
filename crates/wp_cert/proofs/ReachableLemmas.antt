-- The reachable states, as they come one after another, and how they are counted.
use Rattle.std.proofs.Common.{◌≡◌, ◌≢◌, ◌⊎◌, ◌&&◌, ℕ, zero, suc, ◌+◌, ◌<◌, ◌≤◌, Bool, true, false, cond, nat_lt, List, [], ◌∷◌, ◌++◌, length, map, get_or, fold, Option, Some, None, Contains, refl, sym, ap, ◌∙◌, subst, inl, inr, ⊎_elim, length-append, arith}
use Rattle.std.specs.List.{range_with_len}
use Rattle.std.proofs.lemmas.Bool.{and_parts, and_from, both_ways, cases_lt, ltb-true, ltb-false, lt-ltb}
use Rattle.std.proofs.lemmas.List.{get_or_append_left, get_or_default}
use Rattle.wp_task.specs.declared.acts.Act.{Act}
use Rattle.wp_task.specs.Task.{PlanningTask, IsReachable, act_at, applies, applicable_in, leads_to, result_of}
use Rattle.wp_task.proofs.Members.{In, In-from_Contains, Contains-from_In, In-append_left, In-append_right, In-append_cases, In-map, In-map_cases}
use Rattle.wp_plain.specs.Laws.{IsClosed}
use Rattle.wp_plain.proofs.Pigeons.{AreApart, AreApart-append, apart_pairs, pigeons}
use Rattle.wp_plain.proofs.UnseenLemmas.{seen_there, seen_from_there}
use Rattle.wp_cert.specs.Audits.{is_among}
use Rattle.wp_cert.specs.Closing.{with_state, results_of, widened, closing, closed_states}
use Rattle.wp_cert.specs.Laws.{AreReachable, ClosedStatesAreReachable, NoneAreMany}
use Rattle.wp_cert.proofs.AuditLemmas.{applicable_there, applicable_cases}

-- ---- one step from a reachable state
leads_further : (acts : List Act) (s t : List Bool) (plan : List ℕ) (a : ℕ) → leads_to acts s plan ≡ Some t →
    a < length acts → applies (act_at acts a) t ≡ true → leads_to acts s (plan ++ a ∷ []) ≡ Some (result_of (act_at acts a) t)
leads_further acts s t [] a leads within applied =
    let same : s ≡ t = cc in
    ap (λ b. elim b as (λ _. Option (List Bool)) [ true ↦ Some (result_of (act_at acts a) s) | false ↦ None ])
    (and_from (nat_lt a (length acts)) (applies (act_at acts a) s) (lt-ltb a (length acts) within) (ap (applies (act_at acts a)) same ∙ applied))
    ∙ ap (λ u. Some (result_of (act_at acts a) u)) same
leads_further acts s t (b ∷ plan) a leads within applied =
    by (nat_lt b (length acts) && applies (act_at acts b) s) leads
    (λ goes. leads_further acts (result_of (act_at acts b) s) t plan a goes within applied) where
      by : (x : Bool) → elim x as (λ _. Option (List Bool)) [ true ↦ leads_to acts (result_of (act_at acts b) s) plan | false ↦ None ] ≡ Some t →
          (leads_to acts (result_of (act_at acts b) s) plan ≡ Some t → leads_to acts (result_of (act_at acts b) s) (plan ++ a ∷ []) ≡ Some (result_of (act_at acts a) t)) →
          elim x as (λ _. Option (List Bool)) [ true ↦ leads_to acts (result_of (act_at acts b) s) (plan ++ a ∷ []) | false ↦ None ] ≡ Some (result_of (act_at acts a) t)
      by true goes rest = rest goes
      by false goes rest = absurd (cc)

reachable_step : (task : PlanningTask) (s : List Bool) (a : ℕ) → IsReachable task s → a < length task.acts → applies (act_at task.acts a) s ≡ true →
    IsReachable task (result_of (act_at task.acts a) s)
reachable_step task s a h within applied = record {
  actions = h.actions ++ a ∷ [];
  leads = leads_further task.acts task.init s h.actions a h.leads within applied;
}

-- what holds of the opening state, and of each result where it holds before, holds of each reachable state
module _ (task : PlanningTask) (P : List Bool → Type 0)
    (goes : (s : List Bool) (a : ℕ) → P s → a < length task.acts → applies (act_at task.acts a) s ≡ true → P (result_of (act_at task.acts a) s)) where
  stays : (plan : List ℕ) (s t : List Bool) → P s → leads_to task.acts s plan ≡ Some t → P t
  stays [] s t holds leads = let same : s ≡ t = cc in subst P same holds
  stays (a ∷ plan) s t holds leads =
      by (nat_lt a (length task.acts) && applies (act_at task.acts a) s) refl leads (stays plan (result_of (act_at task.acts a) s) t) where
        by : (x : Bool) → (nat_lt a (length task.acts) && applies (act_at task.acts a) s) ≡ x →
            elim x as (λ _. Option (List Bool)) [ true ↦ leads_to task.acts (result_of (act_at task.acts a) s) plan | false ↦ None ] ≡ Some t →
            (P (result_of (act_at task.acts a) s) → leads_to task.acts (result_of (act_at task.acts a) s) plan ≡ Some t → P t) → P t
        by true passes leads rest =
            let parts = and_parts (nat_lt a (length task.acts)) (applies (act_at task.acts a) s) passes in
            rest (goes s a holds (ltb-true a (length task.acts) parts.0) parts.1) leads
        by false passes leads rest = absurd (cc)

  pub holds_of_reachable : P task.init → (s : List Bool) → IsReachable task s → P s
  holds_of_reachable start s h = stays h.actions task.init s start h.leads

pub reachable_in_closed : (task : PlanningTask) (states : List (List Bool)) → IsClosed task states → (s : List Bool) → IsReachable task s → Contains states s
reachable_in_closed task states closed =
    holds_of_reachable task (Contains states) (λ s a there within applied. closed.closed s a there within applied) closed.start

-- ---- states that come in
record Comes (states new after : List (List Bool)) : Type 0 where
  old : (s : List Bool) → In s states → In s after
  came : (s : List Bool) → In s new → In s after
  others : (s : List Bool) → In s after → In s states ⊎ In s new
  apart : AreApart states → AreApart after
  front : (k : ℕ) → k < length states → get_or after k [] ≡ get_or states k []
  longer : length states ≤ length after

comes_one : (states : List (List Bool)) (s : List Bool) → Comes states (s ∷ []) (with_state states s)
comes_one states s = by (is_among states s) refl where
  by : (t : Bool) → is_among states s ≡ t → Comes states (s ∷ []) (cond t states (states ++ s ∷ []))
  by true is = record {
    old = λ t there. there;
    came = λ t. elim [ inl same ↦ subst (λ u. In u states) (sym same) (seen_there states s is) | inr none ↦ absurd none ];
    others = λ t there. inl there;
    apart = λ are. are;
    front = λ k within. refl;
    longer = omega arith;
  }
  by false is = record {
    old = λ t there. In-append_left states (s ∷ []) t there;
    came = λ t there. In-append_right states (s ∷ []) t there;
    others = λ t there. In-append_cases states (s ∷ []) t there;
    apart = λ are. AreApart-append states (s ∷ []) are ((λ none. none), tt)
        (λ t there. elim [
          | inl same ↦ both_ways (is_among states s) is (seen_from_there states s (subst (λ u. In u states) same there))
          | inr none ↦ none
        ]);
    front = λ k within. get_or_append_left states (s ∷ []) [] k within;
    longer = omega (arith, length-append states (s ∷ []));
  }

comes : (states new : List (List Bool)) → Comes states new (fold with_state states new)
comes states [] = record {
  old = λ t there. there;
  came = λ t none. absurd none;
  others = λ t there. inl there;
  apart = λ are. are;
  front = λ k within. refl;
  longer = omega arith;
}
comes states (s ∷ new) =
    let one = comes_one states s in
    let rest = comes (with_state states s) new in
    record {
      old = λ t there. rest.old t (one.old t there);
      came = λ t. elim [ inl same ↦ rest.old t (one.came t (inl same)) | inr later ↦ rest.came t later ];
      others = λ t there. which t (rest.others t there);
      apart = λ are. rest.apart (one.apart are);
      front = λ k within. rest.front k (omega (arith, one.longer)) ∙ one.front k within;
      longer = omega (arith, one.longer, rest.longer);
    } where
      which : (t : List Bool) → In t (with_state states s) ⊎ In t new → In t states ⊎ In t (s ∷ new)
      which t (inr later) = inr (inr later)
      which t (inl there) = first ((comes_one states s).others t there) where
        first : In t states ⊎ In t (s ∷ []) → In t states ⊎ In t (s ∷ new)
        first (inl old) = inl old
        first (inr (inl same)) = inr (inl same)
        first (inr (inr none)) = absurd none

-- ---- turn by turn
-- the states are reachable and differ, the opening state is there, and the first k have had their turn
record IsWidened (task : PlanningTask) (k : ℕ) (states : List (List Bool)) : Type 0 where
  start : In task.init states
  reachable : (s : List Bool) → In s states → IsReachable task s
  apart : AreApart states
  done : (j a : ℕ) → j < k → j < length states → a < length task.acts → applies (act_at task.acts a) (get_or states j []) ≡ true →
      In (result_of (act_at task.acts a) (get_or states j [])) states

opening_widened : (task : PlanningTask) → IsWidened task 0 (task.init ∷ [])
opening_widened task = record {
  start = inl refl;
  reachable = λ s. elim [ inl same ↦ subst (IsReachable task) (sym same) (record { actions = []; leads = refl }) | inr none ↦ absurd none ];
  apart = ((λ none. none), tt);
  done = λ j a before. absurd (omega arith);
}

widened_next : (task : PlanningTask) (k : ℕ) (states : List (List Bool)) → IsWidened task k states → k < length states →
    IsWidened task (k + 1) (widened task.acts states k)
widened_next task k states h within = record {
  start = all.old task.init h.start;
  reachable = λ s there. reached s (all.others s there);
  apart = all.apart h.apart;
  done = λ j a before inside below applied. ⊎_elim
      (λ (earlier : j < k).
      let same : get_or after j [] ≡ get_or states j [] = all.front j (omega (arith, earlier, within)) in
      subst (λ s. In (result_of (act_at task.acts a) s) after) (sym same)
      (all.old (result_of (act_at task.acts a) (get_or states j []))
      (h.done j a earlier (omega (arith, earlier, within)) below (ap (applies (act_at task.acts a)) (sym same) ∙ applied))))
      (λ (now : k ≤ j).
      let is : j ≡ k = omega arith in
      let same : get_or after j [] ≡ here = ap (λ i. get_or after i []) is ∙ all.front k within in
      subst (λ s. In (result_of (act_at task.acts a) s) after) (sym same)
      (all.came (result_of (act_at task.acts a) here)
      (In-map (λ (b : ℕ). result_of (act_at task.acts b) here) (applicable_in task.acts here) a
      (applicable_there task.acts here a below (ap (applies (act_at task.acts a)) (sym same) ∙ applied)))))
      (cases_lt j k);
} where
  here : List Bool
  here = get_or states k []

  after : List (List Bool)
  after = widened task.acts states k

  all : Comes states (results_of task.acts here) after
  all = comes states (results_of task.acts here)

  reached : (s : List Bool) → In s states ⊎ In s (results_of task.acts here) → IsReachable task s
  reached s (inl old) = h.reachable s old
  reached s (inr new) =
      let found : (b : ℕ) × In b (applicable_in task.acts here) × (s ≡ result_of (act_at task.acts b) here) =
      In-map_cases (λ (b : ℕ). result_of (act_at task.acts b) here) (applicable_in task.acts here) s new in
      let parts = applicable_cases task.acts here found.0 found.1 in
      subst (IsReachable task) (sym found.2)
      (reachable_step task here found.0 (h.reachable here (In-from_Contains here states (k, within, get_or_default states k here [] within))) parts.0 parts.1)

-- ---- how it ends
ends_some : (task : PlanningTask) (limit steps k : ℕ) (states last : List (List Bool)) → IsWidened task k states →
    closing task.acts limit steps k states ≡ Some last → IsWidened task (length last) last × (length last ≤ limit)
ends_some task limit zero k states last h is = absurd (cc)
ends_some task limit (suc steps) k states last h is =
    by (nat_lt limit (length states)) (nat_lt k (length states)) refl refl is
    (λ within. ends_some task limit steps (k + 1) (widened task.acts states k) last (widened_next task k states h within)) where
      by : (t u : Bool) → nat_lt limit (length states) ≡ t → nat_lt k (length states) ≡ u →
          cond t None (cond u (closing task.acts limit steps (k + 1) (widened task.acts states k)) (Some states)) ≡ Some last →
          (k < length states → closing task.acts limit steps (k + 1) (widened task.acts states k) ≡ Some last →
          IsWidened task (length last) last × (length last ≤ limit)) →
          IsWidened task (length last) last × (length last ≤ limit)
      by true u many more is rest = absurd (cc)
      by false true few more is rest = rest (ltb-true k (length states) more) is
      by false false few past is rest =
          let same : states ≡ last = cc in
          let ended : length states ≤ k = ltb-false k (length states) past in
          subst (λ l. IsWidened task (length l) l × (length l ≤ limit)) same (
            record {
              start = h.start;
              reachable = h.reachable;
              apart = h.apart;
              done = λ j a before inside. h.done j a (omega (arith, inside, ended)) inside;
            },
            ltb-false limit (length states) few,
          )

-- more different reachable states than the limit
record AreMany (task : PlanningTask) (limit : ℕ) : Type 0 where
  states : List (List Bool)
  reachable : (s : List Bool) → In s states → IsReachable task s
  apart : AreApart states
  many : limit < length states

ends_none : (task : PlanningTask) (limit steps k : ℕ) (states : List (List Bool)) → IsWidened task k states → k ≤ limit → limit < k + steps →
    closing task.acts limit steps k states ≡ None → AreMany task limit
ends_none task limit zero k states h low high is = absurd (omega arith)
ends_none task limit (suc steps) k states h low high is =
    by (nat_lt limit (length states)) (nat_lt k (length states)) refl refl is
    (λ within small. ends_none task limit steps (k + 1) (widened task.acts states k) (widened_next task k states h within)
    (omega (arith, within, small)) (omega (arith, high))) where
      by : (t u : Bool) → nat_lt limit (length states) ≡ t → nat_lt k (length states) ≡ u →
          cond t None (cond u (closing task.acts limit steps (k + 1) (widened task.acts states k)) (Some states)) ≡ None →
          (k < length states → length states ≤ limit → closing task.acts limit steps (k + 1) (widened task.acts states k) ≡ None → AreMany task limit) →
          AreMany task limit
      by true u many more is rest = record { states = states; reachable = h.reachable; apart = h.apart; many = ltb-true limit (length states) many }
      by false true few more is rest = rest (ltb-true k (length states) more) (ltb-false limit (length states) few) is
      by false false few past is rest = absurd (cc)

-- ---- the laws
pub closed_are_reachable : ClosedStatesAreReachable
closed_are_reachable task limit states is = (
  record {
    each = λ s. (
      (λ there. end.0.reachable s (In-from_Contains s states there)),
      (λ reached. Contains-from_In s states (holds_of_reachable task (λ t. In t states) step end.0.start s reached)),
    );
    apart = apart_pairs states end.0.apart;
  },
  end.1,
) where
  end : IsWidened task (length states) states × (length states ≤ limit)
  end = ends_some task limit (limit + 2) 0 (task.init ∷ []) states (opening_widened task) is

  step : (s : List Bool) (a : ℕ) → In s states → a < length task.acts → applies (act_at task.acts a) s ≡ true → In (result_of (act_at task.acts a) s) states
  step s a there within applied =
      let at = Contains-from_In s states there in
      let same : get_or states at.0 [] ≡ s = sym (get_or_default states at.0 s [] at.1) ∙ at.2 in
      subst (λ t. In (result_of (act_at task.acts a) t) states) same
      (end.0.done at.0 a at.1 at.1 within (ap (applies (act_at task.acts a)) same ∙ applied))

-- the place of a state
abbrev HasPlace : List (List Bool) → List Bool → ℕ → Type 0
HasPlace states s k = (k < length states) × (get_or states k s ≡ s)

pub none_are_many : NoneAreMany
none_are_many task limit states is all =
    let many = ends_none task limit (limit + 2) 0 (task.init ∷ []) (opening_widened task) (omega arith) (omega arith) is in
    let few : length many.states ≤ length states = pigeons (HasPlace states) (length states) many.states
    (λ s there. let at = all s (many.reachable s there) in
    let code : (k : ℕ) × (k < length states) × HasPlace states s k = (at.0, at.1, (at.1, at.2)) in code)
    (λ s t k first second at_s at_t. sym at_s.1 ∙ get_or_default states k s t at_s.0 ∙ at_t.1)
    many.apart in
    omega (arith, few, many.many)
