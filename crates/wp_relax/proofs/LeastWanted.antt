-- The wanted atoms are the least set that has the unmet goals and is closed under what supporters need.
use Rattle.std.proofs.Common.{◌≡◌, ◌<◌, ◌&&◌, ◌||◌, not, ℕ, zero, suc, Bool, true, false, List, Option, None, length, get_or, refl, sym, ap, ◌∙◌, subst, ⊎_elim, arith}
use Rattle.std.specs.List.{range_with_len}
use Rattle.std.proofs.lemmas.Bool.{and_parts, and_from, or_cases, or_left, or_right, not-true, not_from_false}
use Rattle.std.proofs.lemmas.List.{ext_get_or}
use Rattle.std.proofs.lemmas.List.FromFn.{get_or-map-range_with_len}
use Rattle.wp_task.specs.declared.acts.Act.{Act}
use Rattle.wp_task.specs.Set.{has, lists}
use Rattle.wp_task.proofs.Members.{In, list_any-at, list_any-from}
use Rattle.wp_relax.specs.RelaxedPlan.{needs, is_needed, more_wanted, wanted_after, wanted_of}
use Rattle.wp_relax.specs.Laws.{HasWanted, IsLeastWanted, WantedAreLeast}
use Rattle.wp_relax.proofs.FlagLemmas.{length-wanted_after}
use Rattle.wp_relax.proofs.Growing.{stays}
use Rattle.wp_relax.proofs.Listed.{In-range, below_size}

same_flag : (a b : Bool) → (a ≡ true → b ≡ true) → (b ≡ true → a ≡ true) → a ≡ b
same_flag true true there back = refl
same_flag true false there back = sym (there refl)
same_flag false true there back = back refl
same_flag false false there back = refl

pub same_sets : (xs ys : List Bool) → length xs ≡ length ys → ((p : ℕ) → has xs p ≡ true → has ys p ≡ true) →
    ((p : ℕ) → has ys p ≡ true → has xs p ≡ true) → xs ≡ ys
same_sets xs ys size there back = ext_get_or false xs ys size (λ p within. same_flag (has xs p) (has ys p) (there p) (back p))

module _ (acts : List Act) (goals : List ℕ) (state : List Bool) (supporters : List (Option ℕ)) where
  abbrev rounds : ℕ → List Bool
  rounds d = wanted_after acts goals state supporters d

  in_state : (d p : ℕ) → has (rounds d) p ≡ true → p < length state
  in_state d p there = omega (arith, below_size (rounds d) p there, length-wanted_after acts goals state supporters d)

  first-at : (p : ℕ) → p < length state → has (rounds zero) p ≡ (lists goals p && not (has state p))
  first-at p within = get_or-map-range_with_len (λ q. lists goals q && not (has state q)) 0 (length state) p p false within (omega arith)

  next-at : (d p : ℕ) → p < length state →
      has (rounds (suc d)) p ≡ (has (rounds d) p || (is_needed acts supporters (rounds d) p && not (has state p)))
  next-at d p within =
      get_or-map-range_with_len (λ q. has (rounds d) q || (is_needed acts supporters (rounds d) q && not (has state q)))
      0 (length (rounds d)) p p false (omega (arith, length-wanted_after acts goals state supporters d)) (omega arith)

  grows : (d p : ℕ) → has (rounds d) p ≡ true → has (rounds (suc d)) p ≡ true
  grows d p there =
      next-at d p (in_state d p there)
      ∙ or_left (has (rounds d) p) (is_needed acts supporters (rounds d) p && not (has state p)) there

  starts : (d p : ℕ) → has (rounds zero) p ≡ true → has (rounds d) p ≡ true
  starts zero p there = there
  starts (suc d) p there = grows d p (starts d p there)

  settled : more_wanted acts state supporters (wanted_of acts goals state supporters) ≡ wanted_of acts goals state supporters
  settled = stays (length state) rounds (more_wanted acts state supporters)
      (length-wanted_after acts goals state supporters) (λ d. refl) grows

  is_needed-from : (wanted : List Bool) (p q : ℕ) → has wanted p ≡ true → needs acts (get_or supporters p None) q ≡ true →
      is_needed acts supporters wanted q ≡ true
  is_needed-from wanted p q there needed =
      list_any-from (λ k. has wanted k && needs acts (get_or supporters k None) q) (range_with_len 0 (length wanted)) p
      (In-range (length wanted) p (below_size wanted p there))
      (and_from (has wanted p) (needs acts (get_or supporters p None) q) there needed)

  pub wanted_has : HasWanted acts goals state supporters (wanted_of acts goals state supporters)
  wanted_has = record {
    unmet = λ p within is_goal lacks. starts (length state) p
        (first-at p within ∙ and_from (lists goals p) (not (has state p)) is_goal (not_from_false (has state p) lacks));
    closed = λ p q within there needed lacks.
        let wanted = wanted_of acts goals state supporters in
        sym (ap (λ (l : List Bool). has l q) settled)
        ∙ (next-at (length state) q within
        ∙ or_right (has wanted q) (is_needed acts supporters wanted q && not (has state q))
        (and_from (is_needed acts supporters wanted q) (not (has state q)) (is_needed-from wanted p q there needed) (not_from_false (has state q) lacks)));
  }

  within_each : (other : List Bool) → HasWanted acts goals state supporters other → (d p : ℕ) →
      has (rounds d) p ≡ true → has other p ≡ true
  within_each other has_wanted zero p there =
      let within : p < length state = in_state zero p there in
      let parts : (lists goals p ≡ true) × (not (has state p) ≡ true) =
      and_parts (lists goals p) (not (has state p)) (sym (first-at p within) ∙ there) in
      has_wanted.unmet p within parts.0 (not-true (has state p) parts.1)
  within_each other has_wanted (suc d) p there =
      let within : p < length state = in_state (suc d) p there in
      let needed = is_needed acts supporters (rounds d) p in ⊎_elim
      (λ (before : has (rounds d) p ≡ true). within_each other has_wanted d p before)
      (λ (now : (needed && not (has state p)) ≡ true).
      let parts : (needed ≡ true) × (not (has state p) ≡ true) = and_parts needed (not (has state p)) now in
      let by : (k : ℕ) × In k (range_with_len 0 (length (rounds d))) × ((has (rounds d) k && needs acts (get_or supporters k None) p) ≡ true) =
      list_any-at (λ k. has (rounds d) k && needs acts (get_or supporters k None) p) (range_with_len 0 (length (rounds d))) parts.0 in
      let both : (has (rounds d) by.0 ≡ true) × (needs acts (get_or supporters by.0 None) p ≡ true) =
      and_parts (has (rounds d) by.0) (needs acts (get_or supporters by.0 None) p) by.2 in
      has_wanted.closed by.0 p within (within_each other has_wanted d by.0 both.0) both.1 (not-true (has state p) parts.1))
      (or_cases (has (rounds d) p) (needed && not (has state p)) (sym (next-at d p within) ∙ there))

  pub wanted_least : IsLeastWanted acts goals state supporters (wanted_of acts goals state supporters)
  wanted_least = record {
    size = length-wanted_after acts goals state supporters (length state);
    wanted = wanted_has;
    least = λ other has_wanted p there. within_each other has_wanted (length state) p there;
  }

  -- a set that has the unmet goals, is closed and has wanted atoms only is the set of the wanted atoms
  pub wanted_is : (set : List Bool) → length set ≡ length state → HasWanted acts goals state supporters set →
      ((p : ℕ) → has set p ≡ true → has (wanted_of acts goals state supporters) p ≡ true) →
      set ≡ wanted_of acts goals state supporters
  wanted_is set size has_wanted only =
      same_sets set (wanted_of acts goals state supporters) (size ∙ sym wanted_least.size) only
      (λ p there. within_each set has_wanted (length state) p there)

pub wanted_are_least : WantedAreLeast
wanted_are_least acts goals state supporters set = (
  λ (least : IsLeastWanted acts goals state supporters set).
      wanted_is acts goals state supporters set least.size least.wanted
      (least.least (wanted_of acts goals state supporters) (wanted_has acts goals state supporters)),
  λ (is : set ≡ wanted_of acts goals state supporters).
      subst (IsLeastWanted acts goals state supporters) (sym is) (wanted_least acts goals state supporters),
)
