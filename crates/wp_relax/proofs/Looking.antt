-- Wanted atoms that are looked at one after another: what was looked at is closed.
use Rattle.std.proofs.Common.{◌≡◌, ◌<◌, ◌++◌, ◌∷◌, [], ◌&&◌, ◌||◌, not, ℕ, Bool, true, false, List, Option, None, length, get_or, replicate, eqb, refl, sym, ap, ◌∙◌, subst, ⊎_elim, arith}
use Rattle.std.specs.List.{All}
use Rattle.std.proofs.lemmas.Bool.{cases_eq, cases_Bool, both_ways, ne_eqb, eq-eqb, and_parts, and_from, or_cases, or_left, or_right, or_parts, or_from, not-true, not_from_false}
use Rattle.std.proofs.lemmas.List.Folds.{list_any-append}
use Rattle.std.proofs.Math.Bool.{or-false}
use Rattle.wp_task.specs.declared.acts.Act.{Act}
use Rattle.wp_task.specs.Set.{has, lists}
use Rattle.wp_task.proofs.SetLemmas.{has-replicate}
use Rattle.wp_relax.specs.RelaxedPlan.{needs, wanted_of}
use Rattle.wp_relax.proofs.LeastWanted.{wanted_has, wanted_is}
use Rattle.wp_relax.proofs.Listed.{below_size}

lists-push : (xs : List ℕ) (p q : ℕ) → lists (xs ++ p ∷ []) q ≡ (lists xs q || eqb p q)
lists-push xs p q =
    list_any-append (λ k. eqb k q) xs (p ∷ []) ∙ ap (λ b. lists xs q || b) (or-false (eqb p q))

module _ (acts : List Act) (goals : List ℕ) (state : List Bool) (supporters : List (Option ℕ)) where
  -- the wanted atoms so far, and those of them that are still to be looked at
  pub record IsLooked (wanted : List Bool) (todo : List ℕ) : Type 0 where
    pub size : length wanted ≡ length state
    pub below : All (λ p. p < length state) todo
    pub unmet : (p : ℕ) → p < length state → lists goals p ≡ true → has state p ≡ false → has wanted p ≡ true
    pub closed : (p q : ℕ) → q < length state → has wanted p ≡ true → lists todo p ≡ false →
        needs acts (get_or supporters p None) q ≡ true → has state q ≡ false → has wanted q ≡ true
    pub only : (p : ℕ) → has wanted p ≡ true → has (wanted_of acts goals state supporters) p ≡ true
    pub marked : (p : ℕ) → lists todo p ≡ true → has wanted p ≡ true

  -- at first the unmet goals, all still to be looked at
  pub looked-first : (wanted : List Bool) (todo : List ℕ) (n : ℕ) → length wanted ≡ length state → All (λ p. p < length state) todo →
      ((q : ℕ) → has wanted q ≡ (has (replicate n false) q || (lists goals q && not (has state q)))) →
      ((q : ℕ) → lists todo q ≡ (lists [] q || (has wanted q && not (has (replicate n false) q)))) → IsLooked wanted todo
  looked-first wanted todo n size below set todo_is = record {
    size = size;
    below = below;
    unmet = λ p within is_goal lacks. set p
        ∙ or_right (has (replicate n false) p) (lists goals p && not (has state p))
        (and_from (lists goals p) (not (has state p)) is_goal (not_from_false (has state p) lacks));
    closed = λ p q within there done needed lacks.
        absurd (both_ways (lists todo p) done
        (todo_is p ∙ and_from (has wanted p) (not (has (replicate n false) p)) there (not_from_false (has (replicate n false) p) (has-replicate n p))));
    only = λ p there.
        ⊎_elim
        (λ (before : has (replicate n false) p ≡ true). absurd (both_ways (has (replicate n false) p) (has-replicate n p) before))
        (λ (now : (lists goals p && not (has state p)) ≡ true).
        let parts : (lists goals p ≡ true) × (not (has state p) ≡ true) = and_parts (lists goals p) (not (has state p)) now in
        (wanted_has acts goals state supporters).unmet p (omega (arith, below_size wanted p there)) parts.0 (not-true (has state p) parts.1))
        (or_cases (has (replicate n false) p) (lists goals p && not (has state p)) (sym (set p) ∙ there));
    marked = λ p listed. (and_parts (has wanted p) (not (has (replicate n false) p)) (sym (todo_is p) ∙ listed)).0;
  }

  -- an atom is looked at: what its supporter needs and the state lacks is wanted too
  module _ (wanted now : List Bool) (todo rest more : List ℕ) (p : ℕ) (at : IsLooked wanted todo) (taken : todo ≡ rest ++ p ∷ [])
      (size : length now ≡ length wanted) (below : All (λ q. q < length wanted) more)
      (set : (q : ℕ) → has now q ≡ (has wanted q || (needs acts (get_or supporters p None) q && not (has state q))))
      (todo_is : (q : ℕ) → lists more q ≡ (lists rest q || (has now q && not (has wanted q)))) where
    was-listed : (q : ℕ) → lists todo q ≡ (lists rest q || eqb p q)
    was-listed q = ap (λ (l : List ℕ). lists l q) taken ∙ lists-push rest p q

    grows : (q : ℕ) → has wanted q ≡ true → has now q ≡ true
    grows q there = set q ∙ or_left (has wanted q) (needs acts (get_or supporters p None) q && not (has state q)) there

    needed_now : (q : ℕ) → needs acts (get_or supporters p None) q ≡ true → has state q ≡ false → has now q ≡ true
    needed_now q needed lacks = set q ∙ or_right (has wanted q) (needs acts (get_or supporters p None) q && not (has state q))
        (and_from (needs acts (get_or supporters p None) q) (not (has state q)) needed (not_from_false (has state q) lacks))

    p_wanted : has wanted p ≡ true
    p_wanted = at.marked p (was-listed p ∙ or_right (lists rest p) (eqb p p) (eq-eqb p p refl))

    still_closed : (k q : ℕ) → q < length state → has now k ≡ true → lists more k ≡ false →
        needs acts (get_or supporters k None) q ≡ true → has state q ≡ false → has now q ≡ true
    still_closed k q within there done needed lacks =
        let parts = or_parts (lists rest k) (has now k && not (has wanted k)) (sym (todo_is k) ∙ done) in
        ⊎_elim
        (λ (same : k ≡ p). needed_now q (ap (λ n. needs acts (get_or supporters n None) q) (sym same) ∙ needed) lacks)
        (λ (other : k ≡ p → ⊥). ⊎_elim
        (λ (before : has wanted k ≡ true).
        grows q (at.closed k q within before
        (was-listed k ∙ or_from (lists rest k) (eqb p k) parts.0 (ne_eqb p k (λ same. other (sym same)))) needed lacks))
        (λ (new : has wanted k ≡ false).
        absurd (both_ways (has now k && not (has wanted k)) parts.1
        (and_from (has now k) (not (has wanted k)) there (not_from_false (has wanted k) new))))
        (cases_Bool (has wanted k)))
        (cases_eq k p)

    still_only : (q : ℕ) → has now q ≡ true → has (wanted_of acts goals state supporters) q ≡ true
    still_only q there = ⊎_elim
        (λ (before : has wanted q ≡ true). at.only q before)
        (λ (new : (needs acts (get_or supporters p None) q && not (has state q)) ≡ true).
        let parts = and_parts (needs acts (get_or supporters p None) q) (not (has state q)) new in
        (wanted_has acts goals state supporters).closed p q (omega (arith, below_size now q there, size, at.size)) (at.only p p_wanted)
        parts.0 (not-true (has state q) parts.1))
        (or_cases (has wanted q) (needs acts (get_or supporters p None) q && not (has state q)) (sym (set q) ∙ there))

    still_marked : (q : ℕ) → lists more q ≡ true → has now q ≡ true
    still_marked q listed = ⊎_elim
        (λ (before : lists rest q ≡ true). grows q (at.marked q (was-listed q ∙ or_left (lists rest q) (eqb p q) before)))
        (λ (new : (has now q && not (has wanted q)) ≡ true). (and_parts (has now q) (not (has wanted q)) new).0)
        (or_cases (lists rest q) (has now q && not (has wanted q)) (sym (todo_is q) ∙ listed))

    pub looked-next : IsLooked now more
    looked-next = record {
      size = size ∙ at.size;
      below = subst (λ (n : ℕ). All (λ q. q < n) more) at.size below;
      unmet = λ q within is_goal lacks. grows q (at.unmet q within is_goal lacks);
      closed = still_closed;
      only = still_only;
      marked = still_marked;
    }

  -- nothing is left to be looked at
  pub looked-all : (wanted : List Bool) (todo : List ℕ) → IsLooked wanted todo → todo ≡ [] → wanted ≡ wanted_of acts goals state supporters
  looked-all wanted todo at none =
      wanted_is acts goals state supporters wanted at.size
      (record {
        unmet = at.unmet;
        closed = λ p q within there needed lacks. at.closed p q within there (ap (λ (l : List ℕ). lists l p) none) needed lacks;
      })
      at.only
