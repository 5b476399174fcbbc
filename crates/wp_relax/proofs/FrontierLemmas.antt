-- What waits at the frontier as prices are offered and atoms are settled.
use Rattle.std.proofs.Common.{◌≡◌, ◌<◌, ◌≤◌, ℕ, Bool, true, false, List, [], ◌∷◌, length, get_or, set, IsPermutation, sym, ap, ◌∙◌, subst, inl, inr, ⊎_elim, arith, length-set}
use Rattle.std.specs.List.{All, Contains}
use Rattle.std.proofs.lemmas.Bool.{cases_eq, cases_lt}
use Rattle.std.proofs.lemmas.List.{get_or_read, get_or-set_same, get_or-set_other}
use Rattle.std.proofs.lemmas.List.Elements.{All-cons, All-head, All-tail, All-set, All-weaker, All-get_or, All-contains}
use Rattle.std.proofs.lemmas.List.Sorted.{All-permutation, Contains-permutation, length_permutation}
use Rattle.wp_task.specs.Set.{has}
use Rattle.wp_task.proofs.Members.{In, In-from_Contains, Contains-from_In}
use Rattle.wp_relax.specs.AdditiveCost.{infinite}
use Rattle.wp_relax.specs.Buckets.{Waiting, waiting_at}
use Rattle.wp_relax.specs.Frontier.{IsNearest, IsSpent, IsKnown, IsFrontier}

set-falls : (costs : List ℕ) (p price q : ℕ) → p < length costs → price ≤ get_or costs p 0 → get_or (set costs p price) q 0 ≤ get_or costs q 0
set-falls costs p price q within less = ⊎_elim
    (λ (same : q ≡ p).
    let now : get_or (set costs p price) p 0 ≡ price = get_or-set_same costs p price 0 within in
    subst (λ (k : ℕ). get_or (set costs p price) k 0 ≤ get_or costs k 0) (sym same) (omega arith))
    (λ (other : q ≡ p → ⊥). let kept : get_or (set costs p price) q 0 ≡ get_or costs q 0 = get_or-set_other costs p q price 0 other in omega arith)
    (cases_eq q p)

-- a lower price was offered
pub offered : (costs : List ℕ) (settled : List Bool) (old new : List Waiting) (p price : ℕ) →
    IsFrontier costs settled old → p < length costs → price < get_or costs p 0 →
    IsPermutation (waiting_at price p ∷ old) new → IsFrontier (set costs p price) settled new
offered costs settled old new p price at within less moved =
    let one : Waiting = waiting_at price p in
    let now = set costs p price in
    let here : get_or now p 0 ≡ price = get_or-set_same costs p price 0 within in
    let most_before : get_or costs p 0 ≤ infinite = All-get_or (λ cost. cost ≤ infinite) costs p 0 within at.most in
    let first : IsKnown now one =
    record { within = omega (arith, length-set {A = ℕ}); lower = omega arith; small = omega arith } in
    record {
      size = at.size ∙ sym (length-set costs p price);
      most = All-set (λ cost. cost ≤ infinite) costs p price (omega arith) at.most;
      known = All-permutation (IsKnown now) (one ∷ old) new moved (All-cons (IsKnown now) one old first
          (All-weaker (IsKnown costs) (IsKnown now)
          (λ w was.
          let low : get_or costs w.0.1 0 ≤ w.0.0 = was.lower in
          let inside : w.0.1 < length costs = was.within in
          let is : IsKnown now w = record {
            within = omega (arith, length-set {A = ℕ});
            lower = omega (arith, set-falls costs p price w.0.1 within (omega arith));
            small = was.small;
          } in is)
          old at.known));
      each = λ q inside unsettled small. Contains-permutation (one ∷ old) new (waiting_at (get_or now q 0) q) moved
          (⊎_elim
          (λ (same : q ≡ p).
          let is : get_or now q 0 ≡ price = ap (λ k. get_or now k 0) same ∙ here in
          Contains-from_In (waiting_at (get_or now q 0) q) (one ∷ old) (inl (λ i. waiting_at (is i) (same i))))
          (λ (other : q ≡ p → ⊥).
          let kept : get_or now q 0 ≡ get_or costs q 0 = get_or-set_other costs p q price 0 other in
          let waits : Contains old (waiting_at (get_or costs q 0) q) =
          at.each q (omega (arith, length-set {A = ℕ})) unsettled (omega arith) in
          Contains-from_In (waiting_at (get_or now q 0) q) (one ∷ old)
          (inr (subst (λ (c : ℕ). In (waiting_at c q) old) (sym kept) (In-from_Contains (waiting_at (get_or costs q 0) q) old waits))))
          (cases_eq q p));
    }

-- what is not settled after p was settled is another atom, and was not settled before
was_open : (settled : List Bool) (p : ℕ) → p < length settled → (q : ℕ) → has (set settled p true) q ≡ false →
    (q ≡ p → ⊥) × (has settled q ≡ false)
was_open settled p within q open_q =
    let other : q ≡ p → ⊥ = λ same.
    let now : has (set settled p true) p ≡ true = get_or-set_same settled p true false within in
    let clash : true ≡ false = sym now ∙ (ap (has (set settled p true)) (sym same) ∙ open_q) in absurd (cc) in
    (other, sym (get_or-set_other settled p q true false other) ∙ open_q)

-- a least cost is taken out with its atom
module _ (costs : List ℕ) (settled : List Bool) (old new : List Waiting) (cost taken : ℕ) (at : IsFrontier costs settled old)
    (moved : IsPermutation old (waiting_at cost taken ∷ new)) (first : All (λ w. cost ≤ w.0.0) old) where
  abbrev w : Waiting
  w = waiting_at cost taken

  all_known : All (IsKnown costs) (w ∷ new)
  all_known = All-permutation (IsKnown costs) old (w ∷ new) moved at.known

  known : IsKnown costs w
  known = All-head (IsKnown costs) w new all_known

  pub popped-within : taken < length settled
  popped-within = omega (arith, known.within, at.size)

  pub fewer : length new < length old
  fewer = omega (arith, length_permutation old (w ∷ new) moved)

  -- an atom that is not settled still waits, unless it was this one
  still_waits : (p : ℕ) → p < length costs → has settled p ≡ false → get_or costs p 0 < infinite → (p ≡ taken → ⊥) →
      Contains new (waiting_at (get_or costs p 0) p)
  still_waits p within unsettled small other =
      let one : Waiting = waiting_at (get_or costs p 0) p in
      ⊎_elim
      (λ (same : one ≡ w). absurd (other (ap (λ (v : Waiting). v.0.1) same)))
      (λ (later : In one new). Contains-from_In one new later)
      (In-from_Contains one (w ∷ new) (Contains-permutation old (w ∷ new) one moved (at.each p within unsettled small)))

  -- what was read of it, whether it is settled
  flag : (read : Bool) → read ≡ get_or settled taken read → read ≡ has settled taken
  flag read is = get_or_read settled taken read popped-within is false

  -- it was settled before
  pub dropped : (read : Bool) → read ≡ get_or settled taken read → read ≡ true → IsFrontier costs settled new
  dropped read is before = record {
    size = at.size;
    most = at.most;
    known = All-tail (IsKnown costs) w new all_known;
    each = λ p within unsettled small. still_waits p within unsettled small
        (λ same. let clash : true ≡ false = sym before ∙ (flag read is ∙ (ap (has settled) (sym same) ∙ unsettled)) in absurd (cc));
  }

  -- it is settled now
  pub nearest : (read : Bool) → read ≡ get_or settled taken read → read ≡ false → IsNearest costs settled taken
  nearest read is unsettled = record {
    within = known.within;
    unsettled = sym (flag read is) ∙ unsettled;
    small = omega (arith, known.lower, known.small);
    least = λ q within open_q. ⊎_elim
        (λ (small : get_or costs q 0 < infinite).
        let waits : cost ≤ get_or costs q 0 =
        All-contains (λ (v : Waiting). cost ≤ v.0.0) old (waiting_at (get_or costs q 0) q) first (at.each q within open_q small) in
        omega (arith, known.lower))
        (λ (large : infinite ≤ get_or costs q 0). omega (arith, known.lower, known.small))
        (cases_lt (get_or costs q 0) infinite);
  }

  pub settles : IsFrontier costs (set settled taken true) new
  settles = record {
    size = length-set settled taken true ∙ at.size;
    most = at.most;
    known = All-tail (IsKnown costs) w new all_known;
    each = λ p within open_p small.
        let earlier = was_open settled taken popped-within p open_p in
        still_waits p within earlier.1 small earlier.0;
  }

pub spent : (costs : List ℕ) (settled : List Bool) (waiting : List Waiting) → IsFrontier costs settled waiting →
    waiting ≡ [] → IsSpent costs settled
spent costs settled waiting at empty = λ q within unsettled. ⊎_elim
    (λ (small : get_or costs q 0 < infinite).
    let waits : Contains waiting (waiting_at (get_or costs q 0) q) = at.each q within unsettled small in
    let inside : waits.0 < length waiting = waits.1 in
    let none : length waiting ≡ 0 = ap length empty in absurd (omega arith))
    (λ (large : infinite ≤ get_or costs q 0). large)
    (cases_lt (get_or costs q 0) infinite)
