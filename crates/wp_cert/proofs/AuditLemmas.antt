-- Whether nothing fails in an audit.
use Rattle.std.proofs.Common.{◌≡◌, ◌⊎◌, not, ◌==◌, ℕ, ◌+◌, ◌<◌, ◌≤◌, Bool, true, false, true≢false, cond, nat_lt, List, [], ◌∷◌, length, map, get_or, Option, Some, None, Contains, refl, sym, ap, ◌∙◌, subst, inl, inr, ⊎_elim, arith}
use Rattle.std.specs.List.{find, list_all, range_with_len}
use Rattle.std.proofs.lemmas.Bool.{both_ways, false_from_ne_true, lt-ltb, cases_lt, eq-eqb, eqb-true}
use Rattle.std.proofs.lemmas.List.{get_or_past}
use Rattle.std.proofs.lemmas.List.FromFn.{length-range_with_len, get_or-range_with_len}
use Rattle.wp_task.specs.declared.acts.Act.{Act}
use Rattle.wp_task.specs.Set.{has, lists, atoms_in, set_of}
use Rattle.wp_task.specs.Task.{PlanningTask, act_at, applies, applicable_in, result_of}
use Rattle.wp_task.proofs.Members.{In, In-at, In-from_Contains, Contains-from_In, In-filter, In-filter_cases, list_any-from, list_any-at}
use Rattle.wp_task.proofs.SetLemmas.{set_by_flags}
use Rattle.wp_plain.specs.Laws.{IsClosed}
use Rattle.wp_plain.proofs.UnseenLemmas.{seen_there, seen_from_there}
use Rattle.wp_cert.specs.declared.answer.Audit.{Audit}
use Rattle.wp_cert.specs.declared.answer.Audit.TheVariants.{Yes, Foreign, NoStart, Goal, Open}
use Rattle.wp_cert.specs.Audits.{is_among, leaving, open_at, fault_at, first_of, faults_from, audit_states, or_audit, audit_of, is_foreign, foreign_from, states_of}

-- ---- what is found first
find_none : {X : Type 0} (t : X → Bool) (xs : List X) → find t xs ≡ None → (x : X) → In x xs → t x ≡ false
find_none t [] none x there = absurd there
find_none {X = X} t (y ∷ ys) none x there = by (t y) refl none there (λ rest later. find_none t ys rest x later) where
  by : (b : Bool) → t y ≡ b → cond b (Some y) (find t ys) ≡ None → In x (y ∷ ys) → (find t ys ≡ None → In x ys → t x ≡ false) → t x ≡ false
  by true is none there more = absurd (cc)
  by false is none (inl same) more = ap t same ∙ is
  by false is none (inr later) more = more none later

none_found : {X : Type 0} (t : X → Bool) (xs : List X) → ((x : X) → In x xs → t x ≡ false) → find t xs ≡ None
none_found t [] each = refl
none_found t (y ∷ ys) each = ap (λ b. cond b (Some y) (find t ys)) (each y (inl refl)) ∙ none_found t ys (λ x later. each x (inr later))

-- ---- one state
module _ (task : PlanningTask) (known : List Bool → Bool) where
  -- a state with an unmet goal, whose actions lead to known states
  pub record IsSound (s : List Bool) : Type 0 where
    pub unmet : list_all (has s) task.goals ≡ false
    pub closed : (a : ℕ) → In a (applicable_in task.acts s) → known (result_of (act_at task.acts a) s) ≡ true

  fault-none : (k : ℕ) (s : List Bool) → fault_at task known k s ≡ None → IsSound s
  fault-none k s none = by (list_all (has s) task.goals) refl none where
    rest : (o : Option ℕ) → leaving task.acts known s ≡ o → open_at k o ≡ None → leaving task.acts known s ≡ None
    rest None is none = is
    rest (Some a) is none = absurd (cc)

    by : (b : Bool) → list_all (has s) task.goals ≡ b → cond b (Some (Goal k)) (open_at k (leaving task.acts known s)) ≡ None → IsSound s
    by true is none = absurd (cc)
    by false is none = record {
      unmet = is;
      closed = λ a there.
          let left = find_none (λ (a : ℕ). not (known (result_of (act_at task.acts a) s))) (applicable_in task.acts s) (rest (leaving task.acts known s) refl none) a there in
          known_by (known (result_of (act_at task.acts a) s)) left;
    } where
      known_by : (t : Bool) → not t ≡ false → t ≡ true
      known_by true e = refl
      known_by false e = absurd (cc)

  none-fault : (k : ℕ) (s : List Bool) → IsSound s → fault_at task known k s ≡ None
  none-fault k s sound =
      ap (λ b. cond b (Some (Goal k)) (open_at k (leaving task.acts known s))) sound.unmet
      ∙ ap (open_at k) (none_found (λ (a : ℕ). not (known (result_of (act_at task.acts a) s))) (applicable_in task.acts s)
      (λ a there. ap not (sound.closed a there)))

  -- ---- all states
  pub faults-none : (k : ℕ) (states : List (List Bool)) → faults_from task known k states ≡ Yes → (s : List Bool) → In s states → IsSound s
  faults-none k [] none s there = absurd there
  faults-none k (t ∷ states) none s there =
      by (fault_at task known k t) refl none there (λ rest later. faults-none (k + 1) states rest s later) where
        not_yes : (o : Option ℕ) (b : Bool) → cond b (Some (Goal k)) (open_at k o) ≡ Some Yes → ⊥
        not_yes o true e = absurd (cc)
        not_yes None false e = absurd (cc)
        not_yes (Some x) false e = absurd (cc)

        by : (o : Option Audit) → fault_at task known k t ≡ o → first_of o (faults_from task known (k + 1) states) ≡ Yes → In s (t ∷ states) →
            (faults_from task known (k + 1) states ≡ Yes → In s states → IsSound s) → IsSound s
        by None is none (inl same) more = subst IsSound (sym same) (fault-none k t is)
        by None is none (inr later) more = more none later
        by (Some fault) is none there more = absurd (not_yes (leaving task.acts known t) (list_all (has t) task.goals) (is ∙ ap Some none))

  pub none-faults : (k : ℕ) (states : List (List Bool)) → ((s : List Bool) → In s states → IsSound s) → faults_from task known k states ≡ Yes
  none-faults k [] each = refl
  none-faults k (t ∷ states) each =
      ap (λ o. first_of o (faults_from task known (k + 1) states)) (none-fault k t (each t (inl refl)))
      ∙ none-faults (k + 1) states (λ s later. each s (inr later))

-- ---- closed states
pub In-range : (n a : ℕ) → a < n → In a (range_with_len 0 n)
In-range n a within = In-at a (range_with_len 0 n) a (omega (arith, length-range_with_len 0 n)) (get_or-range_with_len 0 n a a within ∙ (let e : 0 + a ≡ a = omega arith in e))

pub range_below : (n a : ℕ) → In a (range_with_len 0 n) → a < n
range_below n a there =
    let found = Contains-from_In a (range_with_len 0 n) there in
    let within : found.0 < n = omega (arith, found.1, length-range_with_len 0 n) in
    omega (arith, within, sym (get_or-range_with_len 0 n found.0 a within) ∙ found.2)

pub applicable_there : (acts : List Act) (s : List Bool) (a : ℕ) → a < length acts → applies (act_at acts a) s ≡ true → In a (applicable_in acts s)
applicable_there acts s a within applied =
    In-filter (λ (a : ℕ). applies (act_at acts a) s) (range_with_len 0 (length acts)) a (In-range (length acts) a within) applied

pub applicable_cases : (acts : List Act) (s : List Bool) (a : ℕ) → In a (applicable_in acts s) → (a < length acts) × (applies (act_at acts a) s ≡ true)
applicable_cases acts s a there =
    let parts = In-filter_cases (λ (a : ℕ). applies (act_at acts a) s) (range_with_len 0 (length acts)) a there in
    (range_below (length acts) a parts.0, parts.1)

pub closed_from_yes : (task : PlanningTask) (states : List (List Bool)) → audit_states task states ≡ Yes → IsClosed task states
closed_from_yes task states none = by (is_among states task.init) refl none where
  by : (b : Bool) → is_among states task.init ≡ b → cond b (faults_from task (is_among states) 0 states) NoStart ≡ Yes → IsClosed task states
  by false is none = absurd (cc)
  by true is none = record {
    start = Contains-from_In task.init states (seen_there states task.init is);
    closed = λ s a there within applied.
        let sound = faults-none task (is_among states) 0 states none s (In-from_Contains s states there) in
        Contains-from_In (result_of (act_at task.acts a) s) states
        (seen_there states (result_of (act_at task.acts a) s) (sound.closed a (applicable_there task.acts s a within applied)));
    unmet = λ s there. (faults-none task (is_among states) 0 states none s (In-from_Contains s states there)).unmet;
  }

pub yes_from_closed : (task : PlanningTask) (states : List (List Bool)) → IsClosed task states → audit_states task states ≡ Yes
yes_from_closed task states closed =
    ap (λ b. cond b (faults_from task (is_among states) 0 states) NoStart) (seen_from_there states task.init (In-from_Contains task.init states closed.start))
    ∙ none-faults task (is_among states) 0 states (λ s there. record {
      unmet = closed.unmet s (Contains-from_In s states there);
      closed = λ a among.
          let parts = applicable_cases task.acts s a among in
          seen_from_there states (result_of (act_at task.acts a) s)
          (In-from_Contains (result_of (act_at task.acts a) s) states (closed.closed s a (Contains-from_In s states there) parts.0 parts.1));
    })

-- ---- a certificate
pub yes_states : (task : PlanningTask) (cert : List (List ℕ)) → audit_of task cert ≡ Yes → audit_states task (states_of task.atoms cert) ≡ Yes
yes_states task cert none = by (foreign_from task.atoms 0 cert) none where
  by : (o : Option ℕ) → or_audit o (audit_states task (states_of task.atoms cert)) ≡ Yes → audit_states task (states_of task.atoms cert) ≡ Yes
  by None none = none
  by (Some k) none = absurd (cc)

-- the atoms of a set are those of which it is made
lists_atoms : (s : List Bool) (q : ℕ) → lists (atoms_in s) q ≡ has s q
lists_atoms s q = by (has s q) refl where
  by : (t : Bool) → has s q ≡ t → lists (atoms_in s) q ≡ t
  by true is =
      list_any-from (λ (p : ℕ). p == q) (atoms_in s) q
      (In-filter (has s) (range_with_len 0 (length s)) q (In-range (length s) q (inside is)) is) (eq-eqb q q refl) where
        inside : has s q ≡ true → q < length s
        inside is = ⊎_elim
            (λ (within : q < length s). within)
            (λ (past : length s ≤ q). absurd (both_ways (has s q) (get_or_past s q false past) is))
            (cases_lt q (length s))
  by false is = false_from_ne_true (lists (atoms_in s) q) (λ (there : lists (atoms_in s) q ≡ true).
      let found : (p : ℕ) × In p (atoms_in s) × ((p == q) ≡ true) = list_any-at (λ (p : ℕ). p == q) (atoms_in s) there in
      both_ways (has s q) is (ap (has s) (sym (eqb-true found.0 q found.2)) ∙ (In-filter_cases (has s) (range_with_len 0 (length s)) found.0 found.1).1))

set_back : (s : List Bool) (n : ℕ) → length s ≡ n → set_of (atoms_in s) n ≡ s
set_back s n len = sym (set_by_flags (lists (atoms_in s)) s n len (λ q. sym (lists_atoms s q)))

states_back : (n : ℕ) (states : List (List Bool)) → ((s : List Bool) → In s states → length s ≡ n) → states_of n (map atoms_in states) ≡ states
states_back n [] sized = refl
states_back n (s ∷ states) sized = λ j. set_back s n (sized s (inl refl)) j ∷ states_back n states (λ t later. sized t (inr later)) j

native_state : (s : List Bool) (n : ℕ) → length s ≡ n → is_foreign n (atoms_in s) ≡ false
native_state s n len = false_from_ne_true (is_foreign n (atoms_in s)) (λ (foreign : is_foreign n (atoms_in s) ≡ true).
    let found : (p : ℕ) × In p (atoms_in s) × (not (nat_lt p n) ≡ true) = list_any-at (λ (p : ℕ). not (nat_lt p n)) (atoms_in s) foreign in
    let among = In-filter_cases (has s) (range_with_len 0 (length s)) found.0 found.1 in
    let below : found.0 < length s = range_below (length s) found.0 among.0 in
    let is : nat_lt found.0 n ≡ true = lt-ltb found.0 n (omega (arith, len, below)) in
    true≢false (sym (found.2) ∙ ap not is))

all_native : (n k : ℕ) (states : List (List Bool)) → ((s : List Bool) → In s states → length s ≡ n) → foreign_from n k (map atoms_in states) ≡ None
all_native n k [] sized = refl
all_native n k (s ∷ states) sized =
    ap (λ t. cond t (Some k) (foreign_from n (k + 1) (map atoms_in states))) (native_state s n (sized s (inl refl)))
    ∙ all_native n (k + 1) states (λ t later. sized t (inr later))

pub yes_listed : (task : PlanningTask) (states : List (List Bool)) → ((s : List Bool) → In s states → length s ≡ task.atoms) →
    audit_states task states ≡ Yes → audit_of task (map atoms_in states) ≡ Yes
yes_listed task states sized none =
    ap (λ o. or_audit o (audit_states task (states_of task.atoms (map atoms_in states)))) (all_native task.atoms 0 states sized)
    ∙ ap (audit_states task) (states_back task.atoms states sized) ∙ none
