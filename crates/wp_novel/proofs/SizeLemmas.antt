-- From the late tuples among those with a new atom to the least size of a late tuple.
use Rattle.std.proofs.Common.{◌≡◌, ◌==◌, ◌&&◌, ◌||◌, ℕ, ◌+◌, ◌<◌, ◌≤◌, cond, not, Bool, true, false, List, [], ◌∷◌, length, map, refl, sym, ap, ◌∙◌, inl, inr, ⊎_elim, arith}
use Rattle.std.specs.Prelude.{nat_lt}
use Rattle.std.specs.List.{list_all, list_any}
use Rattle.std.proofs.lemmas.Bool.{cases_Bool, both_ways, eqb-true, eq-eqb, and_parts, ltb-true, ltb-false}
use Rattle.wp_task.specs.Set.{has}
use Rattle.wp_task.proofs.Members.{In, list_any-from, list_any-at}
use Rattle.wp_tuples.specs.Placing.{Placing, HasPlace, place_in, AreApart}
use Rattle.wp_arrive.specs.declared.view.Arrival.{Arrival}
use Rattle.wp_arrive.specs.FirstArrival.{first}
use Rattle.wp_novel.specs.Births.{BirthView, is_new}
use Rattle.wp_novel.specs.MarkedTuples.{pairs_after, new_atoms, old_atoms, AreCounted}
use Rattle.wp_novel.specs.Marks.{is_late, late_size, IsLeastSize}
use Rattle.wp_novel.proofs.MarkedTupleLemmas.{AreBelow, and_true, not_true, all_of_pair, single_listed, pair_listed, single_is, pair_is}

late_is : (m n : ℕ) → not (nat_lt m n) ≡ true → n ≤ m
late_is m n h = ltb-false m n (not_true (nat_lt m n) h)

early_is : (m n : ℕ) → not (nat_lt m n) ≡ false → m < n
early_is m n h = ltb-true m n (not_false (nat_lt m n) h) where
  not_false : (b : Bool) → not b ≡ false → b ≡ true
  not_false true h = refl
  not_false false h = absurd (cc)

-- the first arrivals at the places of tuples
abbrev pub firsts_in : Placing → List Arrival → List ℕ → ℕ
firsts_in places marks tuple = first marks (place_in places tuple)

-- where the birth has a tuple without a new atom, a lesser number was marked
abbrev pub IsEarlier : Placing → List Arrival → BirthView → Type 0
IsEarlier places marks b = (tuple : List ℕ) → HasPlace places tuple → list_all (has b.node.state) tuple ≡ true →
    list_any (is_new b.fresh) tuple ≡ false → firsts_in places marks tuple < b.node.number

module _ (places : Placing) (apart : AreApart places) (b : BirthView) (marks : List Arrival) (size : AreBelow places b.node.state)
    (counted : AreCounted places b.node.state) (earlier : IsEarlier places marks b) where
  abbrev state : List Bool
  state = b.node.state

  abbrev late : List ℕ → Bool
  late = is_late places marks b.node.number

  abbrev singles : List (List ℕ)
  singles = map (λ (p : ℕ). p ∷ []) (new_atoms b)

  abbrev pairs : List (List ℕ)
  pairs = pairs_after (old_atoms b) (new_atoms b)

  abbrev IsEarly : List ℕ → Type 0
  IsEarly tuple = first marks (place_in places tuple) < b.node.number

  -- no tuple of a list is late
  none_late : (tuples : List (List ℕ)) → list_any late tuples ≡ false → (tuple : List ℕ) → In tuple tuples → IsEarly tuple
  none_late tuples none tuple among = early_is (first marks (place_in places tuple)) b.node.number (⊎_elim
      (λ (h : late tuple ≡ true). absurd (both_ways (list_any late tuples) none (list_any-from late tuples tuple among h)))
      (λ (h : late tuple ≡ false). h)
      (cases_Bool (late tuple)))

  early_single : list_any late singles ≡ false → (p : ℕ) → p < places.atoms → list_all (has state) (p ∷ []) ≡ true → IsEarly (p ∷ [])
  early_single none p below all = ⊎_elim
      (λ (new : is_new b.fresh p ≡ true). none_late singles none (p ∷ []) (single_listed b p (sym (and_true (has state p)) ∙ all) new))
      (λ (old : is_new b.fresh p ≡ false). earlier (p ∷ []) below all (ap (λ x. x || false) old))
      (cases_Bool (is_new b.fresh p))

  early_pair : list_any late pairs ≡ false → (p q : ℕ) → HasPlace places (p ∷ q ∷ []) → list_all (has state) (p ∷ q ∷ []) ≡ true → IsEarly (p ∷ q ∷ [])
  early_pair none p q place all =
      let parts = and_parts (has state p) (has state q) (sym (all_of_pair state p q) ∙ all) in
      ⊎_elim
      (λ (new : is_new b.fresh p ≡ true). none_late pairs none (p ∷ q ∷ []) (pair_listed b p q place.1.0 parts.0 parts.1 (inl new)))
      (λ (first_old : is_new b.fresh p ≡ false). ⊎_elim
      (λ (new : is_new b.fresh q ≡ true). none_late pairs none (p ∷ q ∷ []) (pair_listed b p q place.1.0 parts.0 parts.1 (inr new)))
      (λ (old : is_new b.fresh q ≡ false). earlier (p ∷ q ∷ []) place all (λ j. first_old j || (old j || false)))
      (cases_Bool (is_new b.fresh q)))
      (cases_Bool (is_new b.fresh p))

  -- tuples of fewer than w atoms are early where single atoms and, if need be, pairs are
  least : (w : ℕ) → (1 < w → list_any late singles ≡ false) → (2 < w → places.width ≡ 2 → list_any late pairs ≡ false) →
      (tuple : List ℕ) → HasPlace places tuple → list_all (has state) tuple ≡ true → length tuple < w → IsEarly tuple
  least w one two [] place all short = absurd place
  least w one two (p ∷ []) place all short = early_single (one short) p place all
  least w one two (p ∷ q ∷ []) place all short = early_pair (two short place.0) p q place all
  least w one two (p ∷ q ∷ r ∷ tuple) place all short = absurd place

  abbrev Attained : ℕ → Type 0
  Attained w = (tuple : List ℕ) × HasPlace places tuple × (list_all (has state) tuple ≡ true) × (length tuple ≡ w) × (b.node.number ≤ first marks (place_in places tuple))

  size_one : list_any late singles ≡ true → IsLeastSize places (firsts_in places marks) state b.node.number 1
  size_one some =
      let found = list_any-at late singles some in
      let at = single_is b places size counted found.0 found.1 in
      let attained : Attained 1 = (found.0, at.2.0, at.2.1, ap (λ (u : List ℕ). length u) at.1, late_is (first marks (place_in places found.0)) b.node.number found.2) in
      record {
        range = (omega arith, omega (arith, apart.width.0));
        least = least 1 (λ more. absurd (omega arith)) (λ more. absurd (omega arith));
        attained = inr attained;
      }

  size_two : list_any late singles ≡ false → places.width ≡ 2 → list_any late pairs ≡ true → IsLeastSize places (firsts_in places marks) state b.node.number 2
  size_two none two some =
      let found = list_any-at late pairs some in
      let at = pair_is b places size counted two found.0 found.1 in
      let attained : Attained 2 = (found.0, at.1.0, at.1.1, at.0, late_is (first marks (place_in places found.0)) b.node.number found.2) in
      record {
        range = (omega arith, omega arith);
        least = least 2 (λ more. none) (λ more. absurd (omega arith));
        attained = inr attained;
      }

  size_none : list_any late singles ≡ false → (places.width ≡ 2 → list_any late pairs ≡ false) → IsLeastSize places (firsts_in places marks) state b.node.number (places.width + 1)
  size_none none nor = record {
    range = (omega arith, omega arith);
    least = least (places.width + 1) (λ more. none) (λ more. nor);
    attained = inl refl;
  }

  pub late_size_is : IsLeastSize places (firsts_in places marks) state b.node.number (late_size places marks b.node.number (old_atoms b) (new_atoms b))
  late_size_is = by (list_any late singles) (places.width == 2) (list_any late pairs) refl refl refl where
    by : (one wide two : Bool) → list_any late singles ≡ one → (places.width == 2) ≡ wide → list_any late pairs ≡ two →
        IsLeastSize places (firsts_in places marks) state b.node.number (cond one 1 (cond (wide && two) 2 (places.width + 1)))
    by true wide two one_is wide_is two_is = size_one one_is
    by false true true one_is wide_is two_is = size_two one_is (eqb-true places.width 2 wide_is) two_is
    by false true false one_is wide_is two_is = size_none one_is (λ h. two_is)
    by false false two one_is wide_is two_is = size_none one_is (λ h. absurd (both_ways (places.width == 2) wide_is (eq-eqb places.width 2 h)))

-- where there are no places no tuple is late
pub size_of_none : (places : Placing) (state : List Bool) (number : ℕ) (marks : List Arrival) → AreApart places → places.len ≡ 0 →
    IsLeastSize places (firsts_in places marks) state number (places.width + 1)
size_of_none places state number marks apart none = record {
  range = (omega arith, omega arith);
  least = λ tuple place all short. let below : place_in places tuple < places.len = apart.below tuple place in absurd (omega arith);
  attained = inl refl;
}
