-- Actions in the order of a relaxed plan: by price, and then by number. Different numbers have one such order.
use Rattle.std.proofs.Common.{◌≡◌, ◌⊎◌, ◌==◌, ◌<◌, ◌≤◌, ◌&&◌, ◌++◌, ℕ, suc, nat_lt, eqb, Bool, true, false, cond, List, [], ◌∷◌, length, map, get_or, Ordering, Less, Equal, Greater, refl, sym, ap, ◌∙◌, subst, inl, inr, ⊎_elim, arith}
use Rattle.std.specs.Cmp.{IsTotalOrder}
use Rattle.std.specs.List.{All, Contains, IsDistinct, fold, position_or_len}
use Rattle.std.specs.List.Sorted.{IsPermutation, IsSorted, IsStrictlyIncreasing}
use Rattle.std.specs.Ordering.{nat_cmp, ordering_then, is_lt}
use Rattle.std.proofs.lemmas.Bool.{cases_Bool, cases_eq, cases_lt, ltb-true, ltb-false, lt-ltb, le-ltb, eqb-true, eqb-false, eq-eqb, ne_eqb, or_cases, or_parts, or_from, and_parts, and_left, and_right, and_cases}
use Rattle.std.proofs.lemmas.Cmp.{on_total, then_total, nat_cmp_total}
use Rattle.std.proofs.lemmas.List.{append-nil}
use Rattle.std.proofs.lemmas.List.Elements.{All-contains, All-from_recursion, All-head, All-tail, All-map}
use Rattle.std.proofs.lemmas.List.Sorted.{IsPermutation-refl, IsPermutation-sym, IsPermutation-trans, IsPermutation-middle, IsPermutation-insert, IsPermutation-append_right, IsPermutation-map, Contains-permutation, All-permutation, ranks_by, sorted_far}
use Rattle.std.proofs.lemmas.Map.Keys.{IsDistinct-tail, IsDistinct-IsPermutation}
use Rattle.wp_task.proofs.Members.{In, In-from_Contains, Contains-from_In, In-map_cases}
use Rattle.wp_relax.specs.RelaxedPlan.{is_sooner, put_in, in_order}
use Rattle.wp_relax.proofs.PlanLemmas.{put_in-insert}
use Rattle.wp_relax.proofs.Settling.{apart_from_all}
use Rattle.wp_relax.proofs.SumLemmas.{rises-tail, rises-head}

-- no action is sooner than one before it
abbrev pub IsInOrder : (ℕ → ℕ) → List ℕ → Type 0
IsInOrder price [] = Unit {0}
IsInOrder price (a ∷ plan) = ((b : ℕ) → In b plan → is_sooner price b a ≡ false) × IsInOrder price plan

-- ---- what the test says
sooner-is : (price : ℕ → ℕ) (a b : ℕ) → is_sooner price a b ≡ true →
    (price a < price b) ⊎ ((price a ≡ price b) × (a < b))
sooner-is price a b sooner = ⊎_elim
    (λ (less : nat_lt (price a) (price b) ≡ true). inl (ltb-true (price a) (price b) less))
    (λ (tie : ((price a == price b) && nat_lt a b) ≡ true).
    let parts = and_parts (price a == price b) (nat_lt a b) tie in
    let both : (price a ≡ price b) × (a < b) = (eqb-true (price a) (price b) parts.0, ltb-true a b parts.1) in
    inr both)
    (or_cases (nat_lt (price a) (price b)) ((price a == price b) && nat_lt a b) sooner)

later-from : (price : ℕ → ℕ) (a b : ℕ) → price b ≤ price a → (price a ≡ price b → b ≤ a) → is_sooner price a b ≡ false
later-from price a b cheaper tie =
    or_from (nat_lt (price a) (price b)) ((price a == price b) && nat_lt a b)
    (le-ltb (price a) (price b) cheaper)
    (⊎_elim
    (λ (same : price a ≡ price b). and_right (price a == price b) (nat_lt a b) (le-ltb a b (tie same)))
    (λ (other : price a ≡ price b → ⊥). and_left (price a == price b) (nat_lt a b) (ne_eqb (price a) (price b) other))
    (cases_eq (price a) (price b)))

-- what is not sooner costs no less
pub later-le : (price : ℕ → ℕ) (a b : ℕ) → is_sooner price a b ≡ false → price b ≤ price a
later-le price a b later =
    ltb-false (price a) (price b) (or_parts (nat_lt (price a) (price b)) ((price a == price b) && nat_lt a b) later).0

later-tie : (price : ℕ → ℕ) (a b : ℕ) → is_sooner price a b ≡ false → price a ≡ price b → b ≤ a
later-tie price a b later same = ⊎_elim
    (λ (no_tie : (price a == price b) ≡ false). absurd (eqb-false (price a) (price b) no_tie same))
    (λ (above : nat_lt a b ≡ false). ltb-false a b above)
    (and_cases (price a == price b) (nat_lt a b)
    (or_parts (nat_lt (price a) (price b)) ((price a == price b) && nat_lt a b) later).1)

-- what comes after b comes after what is sooner than b
later_after : (price : ℕ → ℕ) (a b y : ℕ) → is_sooner price a b ≡ true → is_sooner price y b ≡ false → is_sooner price y a ≡ false
later_after price a b y sooner later =
    let cheaper : price b ≤ price y = later-le price y b later in
    ⊎_elim
    (λ (less : price a < price b). later-from price y a (omega arith) (λ same. absurd (omega arith)))
    (λ (tie : (price a ≡ price b) × (a < b)).
    let e : price a ≡ price b = tie.0 in
    let less : a < b = tie.1 in
    later-from price y a (omega arith)
    (λ same. let after : b ≤ y = later-tie price y b later (same ∙ e) in omega arith))
    (sooner-is price a b sooner)

-- of two of which neither is sooner both are one
one_if_neither : (price : ℕ → ℕ) (a b : ℕ) → is_sooner price a b ≡ false → is_sooner price b a ≡ false → a ≡ b
one_if_neither price a b first second =
    let up : price b ≤ price a = later-le price a b first in
    let down : price a ≤ price b = later-le price b a second in
    let same : price a ≡ price b = omega arith in
    omega (arith, later-tie price a b first same, later-tie price b a second (sym same))

later_back : (price : ℕ → ℕ) (a b : ℕ) → is_sooner price a b ≡ true → is_sooner price b a ≡ false
later_back price a b sooner = ⊎_elim
    (λ (less : price a < price b). later-from price b a (omega arith) (λ same. absurd (omega arith)))
    (λ (tie : (price a ≡ price b) × (a < b)).
    let e : price a ≡ price b = tie.0 in
    let less : a < b = tie.1 in
    later-from price b a (omega arith) (λ same. omega arith))
    (sooner-is price a b sooner)

-- ---- the same actions
put_in-moves : (price : ℕ → ℕ) (xs : List ℕ) (a : ℕ) → IsPermutation (a ∷ xs) (put_in price xs a)
put_in-moves price xs a =
    subst (IsPermutation (a ∷ xs)) (put_in-insert price xs a)
    (IsPermutation-insert xs (position_or_len (is_sooner price a) xs) a)

fold-moves : (price : ℕ → ℕ) (xs plan : List ℕ) → IsPermutation (xs ++ plan) (fold (put_in price) plan xs)
fold-moves price [] plan = IsPermutation-refl plan
fold-moves price (a ∷ xs) plan =
    let next = put_in price plan a in
    IsPermutation-trans (a ∷ (xs ++ plan)) (xs ++ next) (fold (put_in price) next xs)
    (IsPermutation-trans (a ∷ (xs ++ plan)) (xs ++ a ∷ plan) (xs ++ next)
    (IsPermutation-sym (xs ++ a ∷ plan) (a ∷ (xs ++ plan)) (IsPermutation-middle xs a plan))
    (IsPermutation-append_right xs (a ∷ plan) next (put_in-moves price plan a)))
    (fold-moves price xs next)

pub in_order-moves : (price : ℕ → ℕ) (xs : List ℕ) → IsPermutation xs (in_order price xs)
in_order-moves price xs = subst (λ (l : List ℕ). IsPermutation l (in_order price xs)) (append-nil xs) (fold-moves price xs [])

In-moved : (xs ys : List ℕ) (x : ℕ) → IsPermutation xs ys → In x xs → In x ys
In-moved xs ys x moved there = In-from_Contains x ys (Contains-permutation xs ys x moved (Contains-from_In x xs there))

pub in_order-cases : (price : ℕ → ℕ) (xs : List ℕ) (x : ℕ) → In x (in_order price xs) → In x xs
in_order-cases price xs x there = In-moved (in_order price xs) xs x (IsPermutation-sym xs (in_order price xs) (in_order-moves price xs)) there

pub in_order-has : (price : ℕ → ℕ) (xs : List ℕ) (x : ℕ) → In x xs → In x (in_order price xs)
in_order-has price xs x there = In-moved xs (in_order price xs) x (in_order-moves price xs) there

-- ---- order
put_in-ordered : (price : ℕ → ℕ) (xs : List ℕ) (a : ℕ) → IsInOrder price xs → IsInOrder price (put_in price xs a)
put_in-ordered price [] a ordered =
    let single : IsInOrder price (a ∷ []) = ((λ b none. absurd none), tt) in single
put_in-ordered price (b ∷ xs) a ordered = ⊎_elim
    (λ (sooner : is_sooner price a b ≡ true).
    let put : IsInOrder price (a ∷ b ∷ xs) = (
      (λ y there. ⊎_elim
          (λ (first : y ≡ b). subst (λ (k : ℕ). is_sooner price k a ≡ false) (sym first) (later_back price a b sooner))
          (λ (rest : In y xs). later_after price a b y sooner (ordered.0 y rest))
          there),
      ordered,
    ) in
    subst (λ (t : Bool). IsInOrder price (cond t (a ∷ b ∷ xs) (b ∷ put_in price xs a))) (sym sooner) put)
    (λ (later : is_sooner price a b ≡ false).
    let put : IsInOrder price (b ∷ put_in price xs a) = (
      (λ y there. ⊎_elim
          (λ (new : y ≡ a). subst (λ (k : ℕ). is_sooner price k b ≡ false) (sym new) later)
          (λ (old : In y xs). ordered.0 y old)
          (In-moved (put_in price xs a) (a ∷ xs) y (IsPermutation-sym (a ∷ xs) (put_in price xs a) (put_in-moves price xs a)) there)),
      put_in-ordered price xs a ordered.1,
    ) in
    subst (λ (t : Bool). IsInOrder price (cond t (a ∷ b ∷ xs) (b ∷ put_in price xs a))) (sym later) put)
    (cases_Bool (is_sooner price a b))

fold-ordered : (price : ℕ → ℕ) (xs plan : List ℕ) → IsInOrder price plan → IsInOrder price (fold (put_in price) plan xs)
fold-ordered price [] plan ordered = ordered
fold-ordered price (a ∷ xs) plan ordered = fold-ordered price xs (put_in price plan a) (put_in-ordered price plan a ordered)

pub in_order-ordered : (price : ℕ → ℕ) (xs : List ℕ) → IsInOrder price (in_order price xs)
in_order-ordered price xs = fold-ordered price xs [] tt

-- ---- different numbers have one order
apart : (x : ℕ) (xs : List ℕ) → IsDistinct eqb (x ∷ xs) → In x xs → ⊥
unfolding IsDistinct
apart x xs distinct there =
    let differs : eqb x x ≡ false =
    All-contains (λ y. eqb x y ≡ false) xs x (All-from_recursion (λ y. eqb x y ≡ false) xs distinct.0) (Contains-from_In x xs there) in
    let same : eqb x x ≡ true = eq-eqb x x refl in
    absurd (cc)

one_first : (price : ℕ → ℕ) (x y : ℕ) (xs ys : List ℕ) → IsInOrder price (x ∷ xs) → IsInOrder price (y ∷ ys) →
    In x (y ∷ ys) → In y (x ∷ xs) → x ≡ y
one_first price x y xs ys first second there back = ⊎_elim
    (λ (same : x ≡ y). same)
    (λ (after : In x ys). ⊎_elim
    (λ (same : y ≡ x). sym same)
    (λ (before : In y xs). one_if_neither price x y (second.0 x after) (first.0 y before))
    back)
    there

rest_in : (x y z : ℕ) (xs ys : List ℕ) → x ≡ y → IsDistinct eqb (x ∷ xs) → In z xs → In z (y ∷ ys) → In z ys
rest_in x y z xs ys same distinct there found = ⊎_elim
    (λ (first : z ≡ y). absurd (apart x xs distinct (subst (λ (k : ℕ). In k xs) (first ∙ sym same) there)))
    (λ (later : In z ys). later)
    found

one_order : (price : ℕ → ℕ) (xs ys : List ℕ) → IsInOrder price xs → IsInOrder price ys → IsDistinct eqb xs → IsDistinct eqb ys →
    ((x : ℕ) → In x xs → In x ys) → ((y : ℕ) → In y ys → In y xs) → xs ≡ ys
one_order price [] [] first second a b there back = refl
one_order price [] (y ∷ ys) first second a b there back = absurd (back y (inl refl))
one_order price (x ∷ xs) [] first second a b there back = absurd (there x (inl refl))
one_order price (x ∷ xs) (y ∷ ys) first second a b there back =
    let same : x ≡ y = one_first price x y xs ys first second (there x (inl refl)) (back y (inl refl)) in
    let rest : xs ≡ ys = one_order price xs ys first.1 second.1 (IsDistinct-tail eqb x xs a) (IsDistinct-tail eqb y ys b)
    (λ z inside. rest_in x y z xs ys same a inside (there z (inr inside)))
    (λ z inside. rest_in y x z ys xs (sym same) b inside (back z (inr inside))) in
    λ j. same j ∷ rest j

rises-distinct : (xs : List ℕ) → IsStrictlyIncreasing xs → IsDistinct eqb xs
unfolding IsDistinct
rises-distinct [] rising = tt
rises-distinct (x ∷ xs) rising =
    apart_from_all x xs (λ y there same. let after : x < y = rises-head x xs y rising there in absurd (omega arith))
    (rises-distinct xs (rises-tail x xs rising))

eqb-flips : (x y : ℕ) → eqb x y ≡ eqb y x
eqb-flips x y = ⊎_elim
    (λ (same : x ≡ y). eq-eqb x y same ∙ sym (eq-eqb y x (sym same)))
    (λ (other : x ≡ y → ⊥). ne_eqb x y other ∙ sym (ne_eqb y x (λ same. other (sym same))))
    (cases_eq x y)

-- numbers that rise, put in order in whatever way
pub in_order-is : (price : ℕ → ℕ) (xs plan : List ℕ) → IsStrictlyIncreasing xs → IsPermutation xs plan → IsInOrder price plan →
    plan ≡ in_order price xs
in_order-is price xs plan rising moved ordered =
    let distinct : IsDistinct eqb xs = rises-distinct xs rising in
    one_order price plan (in_order price xs) ordered (in_order-ordered price xs)
    (IsDistinct-IsPermutation eqb eqb-flips xs plan moved distinct)
    (IsDistinct-IsPermutation eqb eqb-flips xs (in_order price xs) (in_order-moves price xs) distinct)
    (λ x there. in_order-has price xs x (In-moved plan xs x (IsPermutation-sym xs plan moved) there))
    (λ x there. In-moved xs plan x moved (in_order-cases price xs x there))

-- ---- pairs of a price and a number, sorted
nat_cmp-less : (a b : ℕ) → a < b → nat_cmp a b ≡ Less
nat_cmp-less a b less = ap (λ t. cond t Less (cond (eqb a b) Equal Greater)) (lt-ltb a b less)

nat_cmp-equal : (a b : ℕ) → a ≡ b → nat_cmp a b ≡ Equal
nat_cmp-equal a b same =
    (λ j. cond (le-ltb a b (let e : b ≤ a = omega arith in e) j) Less (cond (eq-eqb a b same j) Equal Greater))

abbrev pub pair_cmp : ℕ × ℕ → ℕ × ℕ → Ordering
pair_cmp x y = ordering_then (nat_cmp x.0 y.0) (nat_cmp x.1 y.1)

pair_total : IsTotalOrder pair_cmp
pair_total = then_total (on_total (λ (k : ℕ × ℕ). k.0) nat_cmp_total) (on_total (λ (k : ℕ × ℕ). k.1) nat_cmp_total)

not_less-later : (price : ℕ → ℕ) (x y : ℕ × ℕ) → x.0 ≡ price x.1 → y.0 ≡ price y.1 → is_lt (pair_cmp x y) ≡ false →
    is_sooner price x.1 y.1 ≡ false
not_less-later price x y x_is y_is not_less = ⊎_elim
    (λ (less : x.0 < y.0).
    let is : nat_cmp x.0 y.0 ≡ Less = nat_cmp-less x.0 y.0 less in
    let clash : true ≡ false = ap (λ o. is_lt (ordering_then o (nat_cmp x.1 y.1))) (sym is) ∙ not_less in absurd (cc))
    (λ (more : y.0 ≤ x.0). later-from price x.1 y.1 (omega arith)
    (λ tie. ⊎_elim
    (λ (before : x.1 < y.1).
    let equal : nat_cmp x.0 y.0 ≡ Equal = nat_cmp-equal x.0 y.0 (omega arith) in
    let is : nat_cmp x.1 y.1 ≡ Less = nat_cmp-less x.1 y.1 before in
    let clash : true ≡ false = (λ j. is_lt (ordering_then (sym equal j) (sym is j))) ∙ not_less in absurd (cc))
    (λ (after : y.1 ≤ x.1). after)
    (cases_lt x.1 y.1)))
    (cases_lt x.0 y.0)

AreFar : List (ℕ × ℕ) → Type 0
AreFar keys = (i j : ℕ) (d : ℕ × ℕ) → i ≤ j → j < length keys → is_lt (pair_cmp (get_or keys j d) (get_or keys i d)) ≡ false

numbers-ordered : (price : ℕ → ℕ) (keys : List (ℕ × ℕ)) → AreFar keys → All (λ k. k.0 ≡ price k.1) keys → IsInOrder price (map (λ k. k.1) keys)
unfolding AreFar
numbers-ordered price [] far priced = tt
numbers-ordered price (k ∷ keys) far priced = (
  (λ b there.
      let at : (x : ℕ × ℕ) × In x keys × (b ≡ x.1) = In-map_cases (λ (x : ℕ × ℕ). x.1) keys b there in
      let place : Contains keys at.0 = Contains-from_In at.0 keys at.1 in
      let not_less : is_lt (pair_cmp (get_or keys place.0 at.0) k) ≡ false = far 0 (suc place.0) at.0 (omega arith) (omega (arith, place.1)) in
      let later : is_sooner price at.0.1 k.1 ≡ false =
      not_less-later price at.0 k
      (All-contains (λ x. x.0 ≡ price x.1) keys at.0 (All-tail (λ x. x.0 ≡ price x.1) k keys priced) place)
      (All-head (λ x. x.0 ≡ price x.1) k keys priced)
      (ap (λ x. is_lt (pair_cmp x k)) (sym place.2) ∙ not_less) in
      subst (λ (n : ℕ). is_sooner price n k.1 ≡ false) (sym at.2) later),
  numbers-ordered price keys (λ i j d before within. far (suc i) (suc j) d (omega arith) (omega arith)) (All-tail (λ x. x.0 ≡ price x.1) k keys priced),
)

numbers-again : (price : ℕ → ℕ) (xs : List ℕ) → map (λ (k : ℕ × ℕ). k.1) (map (λ a. (price a, a)) xs) ≡ xs
numbers-again price [] = refl
numbers-again price (x ∷ xs) = ap (λ l. x ∷ l) (numbers-again price xs)

-- the numbers of sorted pairs are the plan
pub sorted-in_order : (price : ℕ → ℕ) (xs : List ℕ) (keys : List (ℕ × ℕ)) → IsStrictlyIncreasing xs →
    IsPermutation (map (λ a. (price a, a)) xs) keys → IsSorted pair_cmp keys → map (λ (k : ℕ × ℕ). k.1) keys ≡ in_order price xs
unfolding AreFar
sorted-in_order price xs keys rising moved sorted =
    let number : ℕ × ℕ → ℕ = λ k. k.1 in
    let pairs : List (ℕ × ℕ) = map (λ a. (price a, a)) xs in
    let priced : All (λ k. k.0 ≡ price k.1) keys =
    All-permutation (λ k. k.0 ≡ price k.1) pairs keys moved (All-map (λ (k : ℕ × ℕ). k.0 ≡ price k.1) (λ a. (price a, a)) xs (λ i d within. refl)) in
    in_order-is price xs (map number keys) rising
    (subst (λ (l : List ℕ). IsPermutation l (map number keys)) (numbers-again price xs) (IsPermutation-map number pairs keys moved))
    (numbers-ordered price keys (sorted_far (λ x y. is_lt (pair_cmp x y)) (ranks_by pair_total (λ (k : ℕ × ℕ). k)) keys sorted) priced)
