-- What a change does to the set of what waits.
use Rattle.std.proofs.Common.{◌≡◌, ◌≢◌, ◌⊎◌, zero, suc, Bool, true, false, cond, List, [], ◌∷◌, refl, sym, ap, ◌∙◌, subst, inl, inr, ⊎_elim, arith}
use Rattle.std.specs.BTreeMap.{is_at}
use Rattle.std.specs.BTreeSet.{BTreeSet, contains}
use Rattle.std.specs.List.{All, Contains}
use Rattle.std.specs.List.Sorted.{IsStrictlySortedBy}
use Rattle.std.specs.declared.cmp.Ordering.{Ordering}
use Rattle.std.specs.declared.cmp.Ordering.TheVariants.{Less, Equal, Greater}
use Rattle.std.specs.Ordering.{is_eq}
use Rattle.std.proofs.lemmas.Bool.{cases_Bool, cond-true, cond-false}
use Rattle.std.proofs.lemmas.Cmp.{tied_itself}
use Rattle.std.proofs.lemmas.List.Elements.{All-contains, Contains-append_right}
use Rattle.std.proofs.lemmas.Map.Views.{btree_set_contains_iff}
use Rattle.wp_queue.specs.declared.queue.Waiting.{Waiting}
use Rattle.wp_queue.specs.OpenList.{IsBefore, InOrder, IsWith, IsTaken, OneListForASet}
use Rattle.wp_queue.proofs.OrderLemmas.{order, order_total, exact, before_from_less, one_way, in_order}

-- ---- one more
is_equal_at : (x y : Waiting) → is_eq (order x y) ≡ true → y ≡ x
is_equal_at x y e = sym (exact x y (by (order x y) e))
  where
    by : (o : Ordering) → is_eq o ≡ true → o ≡ Equal
    by Less h = absurd (cc)
    by Equal h = refl
    by Greater h = absurd (cc)

pub with_one : (old new : BTreeSet Waiting) (x : Waiting) → IsStrictlySortedBy order new.keys →
    ((y : Waiting) → contains order new y ≡ cond (is_at (order x) y) true (contains order old y)) → IsWith old.keys x new.keys
with_one old new x sorted updates = record {
  order = in_order new.keys sorted;
  has = λ y.
      let now = btree_set_contains_iff order_total exact new y in
      let before = btree_set_contains_iff order_total exact old y in
      let there : Contains new.keys y → Contains old.keys y ⊎ (y ≡ x) = λ h. ⊎_elim
      (λ (equal : is_eq (order x y) ≡ true). inr (is_equal_at x y equal))
      (λ (other : is_eq (order x y) ≡ false).
      inl (before.0 (sym (cond-false (is_eq (order x y)) true (contains order old y) other) ∙ sym (updates y) ∙ now.1 h)))
      (cases_Bool (is_eq (order x y))) in
      let back : Contains old.keys y ⊎ (y ≡ x) → Contains new.keys y = λ h. now.0 (updates y ∙ ⊎_elim
      (λ (waits : Contains old.keys y). ap (λ (b : Bool). cond (is_eq (order x y)) true b) (before.1 waits) ∙ both (is_eq (order x y)))
      (λ (same : y ≡ x). cond-true (is_eq (order x y)) true (contains order old y)
      (ap (λ (z : Waiting). is_eq (order x z)) same ∙ ap is_eq (tied_itself order_total x)))
      h) in
      (there, back);
}
  where
    both : (b : Bool) → cond b true true ≡ true
    both true = refl
    both false = refl

-- ---- the first
Contains-cons_cases : (x : Waiting) (rest : List Waiting) (y : Waiting) → Contains (x ∷ rest) y → (y ≡ x) ⊎ Contains rest y
Contains-cons_cases x rest y (zero, within, is) = inl (sym is)
Contains-cons_cases x rest y (suc k, within, is) = inr (k, omega arith, is)

pub taken : (old new : List Waiting) (x : Waiting) → old ≡ x ∷ new → All (λ y. order x y ≡ Less) new →
    IsStrictlySortedBy order new → IsTaken old new x.number
taken old new x front above sorted =
    let after : (y : Waiting) → Contains new y → IsBefore x y = λ y h. before_from_less x y (All-contains (λ z. order x z ≡ Less) new y above h) in
    let parts : (y : Waiting) → Contains old y → (y ≡ x) ⊎ Contains new y = λ y h.
    Contains-cons_cases x new y (subst (λ (l : List Waiting). Contains l y) front h) in
    record {
      node = x;
      named = refl;
      first = record {
        waits = subst (λ (l : List Waiting). Contains l x) (sym front) (0, omega arith, refl);
        none_before = λ y h early. ⊎_elim
            (λ (same : y ≡ x). let itself : IsBefore x x = subst (λ (z : Waiting). IsBefore z x) same early in one_way x x itself itself)
            (λ (later : Contains new y). one_way x y (after y later) early)
            (parts y h);
      };
      front = front;
      order = in_order new sorted;
      rest = λ y.
          let there : Contains new y → Contains old y × (y ≢ x) = λ h.
          let among : Contains old y = subst (λ (l : List Waiting). Contains l y) (sym front) (Contains-append_right (x ∷ []) new y h) in
          let apart : y ≢ x = λ same.
          let itself : IsBefore x x = subst (λ (z : Waiting). IsBefore x z) same (after y h) in one_way x x itself itself in
          (among, apart) in
          let back : Contains old y × (y ≢ x) → Contains new y = λ h. ⊎_elim
          (λ (same : y ≡ x). absurd (h.1 same))
          (λ (later : Contains new y). later)
          (parts y h.0) in
          (there, back);
    }

-- ---- a set has one list
nothing_in : (x : Waiting) → Contains [] x → ⊥
nothing_in x (k, within, is) = omega arith

first_before : (x : Waiting) (xs : List Waiting) → InOrder (x ∷ xs) → (y : Waiting) → Contains xs y → IsBefore x y
first_before x xs ordered y (k, within, is) = subst (λ (z : Waiting). IsBefore x z) is (ordered 0 (suc k) y (omega arith) (omega arith))

rest_in_order : (x : Waiting) (xs : List Waiting) → InOrder (x ∷ xs) → InOrder xs
rest_in_order x xs ordered = λ i j d before within. ordered (suc i) (suc j) d (omega arith) (omega arith)

in_rest : (x y : Waiting) (xs ys : List Waiting) → InOrder (x ∷ xs) → x ≡ y → ((z : Waiting) → Contains (x ∷ xs) z → Contains (y ∷ ys) z) →
    (z : Waiting) → Contains xs z → Contains ys z
in_rest x y xs ys ordered head among z h = ⊎_elim
    (λ (same : z ≡ y). let itself : IsBefore x x = subst (λ (w : Waiting). IsBefore x w) (same ∙ sym head) (first_before x xs ordered z h) in
    absurd (one_way x x itself itself))
    (λ (later : Contains ys z). later)
    (Contains-cons_cases y ys z (among z (Contains-append_right (x ∷ []) xs z h)))

same_head : (x y : Waiting) (xs ys : List Waiting) → InOrder (x ∷ xs) → InOrder (y ∷ ys) → Contains (y ∷ ys) x → Contains (x ∷ xs) y → x ≡ y
same_head x y xs ys one other here there = ⊎_elim
    (λ (same : x ≡ y). same)
    (λ (later : Contains ys x). ⊎_elim
    (λ (same : y ≡ x). sym same)
    (λ (also : Contains xs y). absurd (one_way x y (first_before x xs one y also) (first_before y ys other x later)))
    (Contains-cons_cases x xs y there))
    (Contains-cons_cases y ys x here)

pub one_list_for_a_set : OneListForASet
one_list_for_a_set [] [] one other same = refl
one_list_for_a_set [] (y ∷ ys) one other same = absurd (nothing_in y ((same y).1 (0, omega arith, refl)))
one_list_for_a_set (x ∷ xs) [] one other same = absurd (nothing_in x ((same x).0 (0, omega arith, refl)))
one_list_for_a_set (x ∷ xs) (y ∷ ys) one other same =
    let head : x ≡ y = same_head x y xs ys one other ((same x).0 (0, omega arith, refl)) ((same y).1 (0, omega arith, refl)) in
    (λ j. head j ∷ one_list_for_a_set xs ys (rest_in_order x xs one) (rest_in_order y ys other)
    (λ z. (in_rest x y xs ys one head (λ w. (same w).0) z, in_rest y x ys xs other (sym head) (λ w. (same w).1) z)) j)
