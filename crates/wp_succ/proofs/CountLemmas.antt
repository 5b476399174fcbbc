-- Lists of numbers by how often they have each: two that rise and have each as often are one.
use Rattle.std.proofs.Common.{◌≡◌, ◌⊎◌, ◌==◌, ◌&&◌, ◌||◌, ℕ, zero, suc, ◌+◌, ◌<◌, ◌≤◌, nat_lt, Bool, true, false, cond, List, [], ◌∷◌, ◌++◌, length, take, get_or, refl, sym, ap, ◌∙◌, subst, ⊎_elim, arith}
use Rattle.std.specs.List.{count_by, filter, list_any, range_with_len}
use Rattle.std.specs.List.Sorted.{IsPermutation}
use Rattle.std.proofs.Math.Bool.{and-false}
use Rattle.std.proofs.lemmas.Bool.{cases_eq, cases_lt, cases_order, eq-eqb, ne_eqb, lt-ltb, le-ltb}
use Rattle.std.proofs.lemmas.List.{map-id, take_more}
use Rattle.std.proofs.lemmas.List.FromFn.{filter_of_map_range_with_len_more, get_or-range_with_len, length-range_with_len, map-range_with_len_more}
use Rattle.std.proofs.lemmas.List.Kept.{AllPairs-from_increasing}
use Rattle.std.proofs.lemmas.List.Sorted.{sum_by-IsPermutation}
use Rattle.std.proofs.lemmas.List.Sums.{sum_by-append, sum_by-cons}
use Rattle.wp_task.specs.Set.{lists, AreAtoms}
use Rattle.wp_succ.specs.Tree.{times}

-- 1 for a test that passes
abbrev pub once : Bool → ℕ
once b = cond b 1 0

pub times-cons : (x : ℕ) (xs : List ℕ) (a : ℕ) → times (x ∷ xs) a ≡ once (x == a) + times xs a
times-cons x xs a = sum_by-cons (λ b. once (b == a)) x xs

pub times-append : (xs ys : List ℕ) (a : ℕ) → times (xs ++ ys) a ≡ times xs a + times ys a
times-append xs ys a = sum_by-append (λ b. once (b == a)) xs ys

pub times_itself : (x : ℕ) (xs : List ℕ) → times (x ∷ xs) x ≡ 1 + times xs x
times_itself x xs = times-cons x xs x ∙ ap (λ b. once b + times xs x) (eq-eqb x x refl)

pub times_other : (x : ℕ) (xs : List ℕ) (a : ℕ) → (x ≡ a → ⊥) → times (x ∷ xs) a ≡ times xs a
times_other x xs a other =
    let none : (x == a) ≡ false = ne_eqb x a other in
    let more : times (x ∷ xs) a ≡ once (x == a) + times xs a = times-cons x xs a in
    let zeros : once (x == a) ≡ 0 = ap (λ b. once b) none in
    omega (arith, more, zeros)

-- ---- rising lists
abbrev AllFrom : ℕ → List ℕ → Type 0
AllFrom a [] = Unit {0}
AllFrom a (x ∷ xs) = (a ≤ x) × AllFrom a xs

abbrev pub Rises : List ℕ → Type 0
Rises [] = Unit {0}
Rises (x ∷ xs) = AllFrom x xs × Rises xs

abbrev Climbs : List ℕ → Type 0
Climbs [] = Unit {0}
Climbs (x ∷ xs) = AllFrom (x + 1) xs × Climbs xs

AllFrom-less : (a b : ℕ) (xs : List ℕ) → a ≤ b → AllFrom b xs → AllFrom a xs
AllFrom-less a b [] less all = tt
AllFrom-less a b (x ∷ xs) less all = let first : b ≤ x = all.0 in (omega arith, AllFrom-less a b xs less all.1)

AllFrom-from : (a : ℕ) (xs : List ℕ) → ((k : ℕ) → k < length xs → a ≤ get_or xs k 0) → AllFrom a xs
AllFrom-from a [] each = tt
AllFrom-from a (x ∷ xs) each = (each 0 (omega arith), AllFrom-from a xs (λ k within. each (suc k) (omega arith)))

pub Rises-from : (xs : List ℕ) → ((i j : ℕ) → i ≤ j → j < length xs → get_or xs i 0 ≤ get_or xs j 0) → Rises xs
Rises-from [] each = tt
Rises-from (x ∷ xs) each = (
  AllFrom-from x xs (λ k within. each 0 (suc k) (omega arith) (omega arith)),
  Rises-from xs (λ i j order within. each (suc i) (suc j) (omega arith) (omega arith)),
)

Climbs-from : (xs : List ℕ) → ((i j : ℕ) → i < j → j < length xs → get_or xs i 0 < get_or xs j 0) → Climbs xs
Climbs-from [] each = tt
Climbs-from (x ∷ xs) each = (
  AllFrom-from (x + 1) xs (λ k within. let order : x < get_or xs k 0 = each 0 (suc k) (omega arith) (omega arith) in omega arith),
  Climbs-from xs (λ i j order within. each (suc i) (suc j) (omega arith) (omega arith)),
)

Rises-from_Climbs : (xs : List ℕ) → Climbs xs → Rises xs
Rises-from_Climbs [] climbs = tt
Rises-from_Climbs (x ∷ xs) climbs = (AllFrom-less x (x + 1) xs (omega arith) climbs.0, Rises-from_Climbs xs climbs.1)

AllFrom-filter : (t : ℕ → Bool) (a : ℕ) (xs : List ℕ) → AllFrom a xs → AllFrom a (filter t xs)
AllFrom-filter t a [] all = tt
AllFrom-filter t a (x ∷ xs) all =
    let rest = AllFrom-filter t a xs all.1 in
    elim (t x) as (λ b. AllFrom a (cond b (x ∷ filter t xs) (filter t xs))) [ true ↦ (all.0, rest) | false ↦ rest ]

pub Rises-filter : (t : ℕ → Bool) (xs : List ℕ) → Rises xs → Rises (filter t xs)
Rises-filter t [] rises = tt
Rises-filter t (x ∷ xs) rises =
    let rest = Rises-filter t xs rises.1 in
    let from = AllFrom-filter t x xs rises.0 in
    elim (t x) as (λ b. Rises (cond b (x ∷ filter t xs) (filter t xs))) [ true ↦ (from, rest) | false ↦ rest ]

pub Rises-range : (n : ℕ) → Rises (range_with_len 0 n)
Rises-range n = Rises-from (range_with_len 0 n) (λ i j order within.
    let short : j < n = omega (arith, length-range_with_len 0 n) in
    let left : get_or (range_with_len 0 n) i 0 ≡ 0 + i = get_or-range_with_len 0 n i 0 (omega arith) in
    let right : get_or (range_with_len 0 n) j 0 ≡ 0 + j = get_or-range_with_len 0 n j 0 short in
    omega (arith, left, right))

-- what is less than all is not there
times_none : (a b : ℕ) (xs : List ℕ) → a < b → AllFrom b xs → times xs a ≡ 0
times_none a b [] less all = refl
times_none a b (x ∷ xs) less all =
    let first : b ≤ x = all.0 in
    times_other x xs a (λ same. omega arith) ∙ times_none a b xs less all.1

-- two lists that rise and have each number as often
pub same_times : (xs ys : List ℕ) → Rises xs → Rises ys → ((a : ℕ) → times xs a ≡ times ys a) → xs ≡ ys
same_times [] [] left right same = refl
same_times [] (y ∷ ys) left right same = absurd (let some = times_itself y ys in let none : times [] y ≡ times (y ∷ ys) y = same y in let nothing : times [] y ≡ 0 = refl in omega (arith, some, none, nothing))
same_times (x ∷ xs) [] left right same = absurd (let some = times_itself x xs in let none : times (x ∷ xs) x ≡ times [] x = same x in let nothing : times [] x ≡ 0 = refl in omega (arith, some, none, nothing))
same_times (x ∷ xs) (y ∷ ys) left right same = ⊎_elim
    (λ (here : x ≡ y).
    let tails : (a : ℕ) → times xs a ≡ times ys a = λ a.
    let one = times-cons x xs a in let other = times-cons y ys a in let all : times (x ∷ xs) a ≡ times (y ∷ ys) a = same a in
    let firsts : once (x == a) ≡ once (y == a) = ap (λ (k : ℕ). once (k == a)) here in
    omega (arith, one, other, all, firsts) in
    let rest : xs ≡ ys = same_times xs ys left.1 right.1 tails in
    (λ j. here j ∷ rest j))
    (λ (differ : (x < y) ⊎ (y < x)). ⊎_elim
    (λ (less : x < y). absurd (
    let some = times_itself x xs in
    let none : times (y ∷ ys) x ≡ 0 = times_none x y (y ∷ ys) less (omega arith, right.0) in
    let all : times (x ∷ xs) x ≡ times (y ∷ ys) x = same x in
    omega (arith, some, none, all)))
    (λ (more : y < x). absurd (
    let some = times_itself y ys in
    let none : times (x ∷ xs) y ≡ 0 = times_none y x (x ∷ xs) more (omega arith, left.0) in
    let all : times (x ∷ xs) y ≡ times (y ∷ ys) y = same y in
    omega (arith, some, none, all)))
    differ)
    (cases_order x y)

-- ---- a filter of a range
filter-range_more : (t : ℕ → Bool) (n : ℕ) →
    filter t (range_with_len 0 (n + 1)) ≡ filter t (range_with_len 0 n) ++ cond (t n) (n ∷ []) []
filter-range_more t n = simp map-id at (filter_of_map_range_with_len_more t (λ (k : ℕ). k) 0 n n (omega arith))

times-cond : (b : Bool) (n a : ℕ) → times (cond b (n ∷ []) []) a ≡ cond b (once (n == a)) 0
times-cond true n a = let one = times-cons n [] a in let none : times [] a ≡ 0 = refl in omega (arith, one, none)
times-cond false n a = refl

zero_either : (b : Bool) → ◌≡◌ {A = ℕ} (cond b 0 0) 0
zero_either true = refl
zero_either false = refl

pub times-filter : (t : ℕ → Bool) (n a : ℕ) → times (filter t (range_with_len 0 n)) a ≡ once (nat_lt a n && t a)
times-filter t zero a = ap (λ b. once (b && t a)) (sym (le-ltb a 0 (omega arith)))
times-filter t (suc n) a =
    let one : n + 1 ≡ suc n = omega arith in
    let before : times (filter t (range_with_len 0 n)) a ≡ once (nat_lt a n && t a) = times-filter t n a in
    let more : times (filter t (range_with_len 0 (n + 1))) a ≡ times (filter t (range_with_len 0 n)) a + cond (t n) (once (n == a)) 0 =
    ap (λ l. times l a) (filter-range_more t n)
    ∙ (times-append (filter t (range_with_len 0 n)) (cond (t n) (n ∷ []) []) a
    ∙ ap (λ k. times (filter t (range_with_len 0 n)) a + k) (times-cond (t n) n a)) in
    ap (λ k. times (filter t (range_with_len 0 k)) a) (sym one) ∙ ⊎_elim
    (λ (here : n ≡ a).
    let was : once (nat_lt a n && t a) ≡ 0 = ap (λ b. once (b && t a)) (le-ltb a n (omega arith)) in
    let now : once (nat_lt a (suc n) && t a) ≡ once (t a) = ap (λ b. once (b && t a)) (lt-ltb a (suc n) (omega arith)) in
    let last : cond (t n) (once (n == a)) 0 ≡ once (t a) =
    ap (λ (k : ℕ). cond (t k) (once (n == a)) 0) here ∙ ap (λ b. cond (t a) (once b) 0) (eq-eqb n a here) in
    omega (arith, more, before, was, now, last))
    (λ (other : n ≡ a → ⊥).
    let last : cond (t n) (once (n == a)) 0 ≡ 0 = ap (λ b. cond (t n) (once b) 0) (ne_eqb n a other) ∙ zero_either (t n) in
    let now : once (nat_lt a (suc n) && t a) ≡ once (nat_lt a n && t a) = ⊎_elim
    (λ (below : a < n). ap (λ b. once (b && t a)) (lt-ltb a (suc n) (omega arith) ∙ sym (lt-ltb a n below)))
    (λ (not_below : n ≤ a). ap (λ b. once (b && t a)) (le-ltb a (suc n) (omega arith) ∙ sym (le-ltb a n not_below)))
    (cases_lt a n) in
    omega (arith, more, before, last, now))
    (cases_eq n a)

filter-all : (xs : List ℕ) → filter (λ _. true) xs ≡ xs
filter-all [] = refl
filter-all (x ∷ xs) = ap (λ l. x ∷ l) (filter-all xs)

pub times-range : (n a : ℕ) → times (range_with_len 0 n) a ≡ once (nat_lt a n && true)
times-range n a = ap (λ l. times l a) (sym (filter-all (range_with_len 0 n))) ∙ times-filter (λ _. true) n a

-- ---- rising atoms are those of a range that are listed
times-climbs : (xs : List ℕ) (a : ℕ) → Climbs xs → times xs a ≡ once (lists xs a)
times-climbs [] a climbs = refl
times-climbs (x ∷ xs) a climbs = ⊎_elim
    (λ (here : x ≡ a).
    let none : times xs a ≡ 0 = times_none a (x + 1) xs (omega arith) climbs.0 in
    let some : times (x ∷ xs) a ≡ once (x == a) + times xs a = times-cons x xs a in
    let one : once (x == a) ≡ 1 = ap (λ b. once b) (eq-eqb x a here) in
    let is : once ((x == a) || lists xs a) ≡ 1 = ap (λ b. once (b || lists xs a)) (eq-eqb x a here) in
    omega (arith, none, some, one, is))
    (λ (other : x ≡ a → ⊥).
    times_other x xs a other ∙ (times-climbs xs a climbs.1 ∙ ap (λ b. once (b || lists xs a)) (sym (ne_eqb x a other))))
    (cases_eq x a)

listed_below : (xs : List ℕ) (n a : ℕ) → ((k : ℕ) → k < length xs → get_or xs k 0 < n) → n ≤ a → lists xs a ≡ false
listed_below [] n a each past = refl
listed_below (x ∷ xs) n a each past =
    let first : x < n = each 0 (omega arith) in
    ap (λ b. b || lists xs a) (ne_eqb x a (λ same. omega arith)) ∙ listed_below xs n a (λ k within. each (suc k) (omega arith)) past

pub filter-lists : (xs : List ℕ) (n : ℕ) → AreAtoms n xs → filter (lists xs) (range_with_len 0 n) ≡ xs
filter-lists xs n are =
    let climbs = Climbs-from xs (λ i j order within. AllPairs-from_increasing xs are.rising i j 0 order within) in
    same_times (filter (lists xs) (range_with_len 0 n)) xs (Rises-filter (lists xs) (range_with_len 0 n) (Rises-range n)) (Rises-from_Climbs xs climbs)
    (λ a. times-filter (lists xs) n a ∙ (⊎_elim
    (λ (below : a < n). ap (λ b. once (b && lists xs a)) (lt-ltb a n below))
    (λ (past : n ≤ a). ap (λ b. once (nat_lt a n && b)) (listed_below xs n a (λ k within. are.below k 0 within) past)
    ∙ (ap (λ b. once b) (and-false (nat_lt a n)) ∙ ap (λ b. once b) (sym (listed_below xs n a (λ k within. are.below k 0 within) past))))
    (cases_lt a n) ∙ sym (times-climbs xs a climbs)))

-- ---- a permutation of a range, of which each number counts where a test passes
pub range-more : (n : ℕ) → range_with_len 0 (n + 1) ≡ range_with_len 0 n ++ n ∷ []
range-more n = simp map-id at (map-range_with_len_more (λ (k : ℕ). k) 0 n n (omega arith))

once_both : (b l : Bool) → ◌≡◌ {A = ℕ} (cond b (once (l && true)) 0) (once (l && b))
once_both true true = refl
once_both true false = refl
once_both false true = refl
once_both false false = refl

pub times-order : (n : ℕ) (order : List ℕ) (a : ℕ) (b : Bool) → IsPermutation (range_with_len 0 n) order →
    ◌≡◌ {A = ℕ} (cond b (times order a) 0) (once (nat_lt a n && b))
times-order n order a b moved =
    ap (λ (k : ℕ). cond b k 0) (sum_by-IsPermutation (λ k. once (k == a)) (range_with_len 0 n) order moved ∙ times-range n a)
    ∙ once_both b (nat_lt a n)

sum_either : (b : Bool) (m n : ℕ) → ◌≡◌ {A = ℕ} (cond b m 0 + cond b n 0) (cond b (m + n) 0)
sum_either true m n = refl
sum_either false m n = omega arith

-- one more of the numbers that count where the test of each passes
pub times-more : (test : ℕ → Bool) (order : List ℕ) (i a old new : ℕ) → i < length order →
    new ≡ old + cond (test (get_or order i 0)) (times (get_or order i 0 ∷ []) a) 0 →
    old ≡ cond (test a) (times (take i order) a) 0 → new ≡ cond (test a) (times (take (i + 1) order) a) 0
times-more test order i a old new within step is =
    let x = get_or order i 0 in
    let more : times (take (i + 1) order) a ≡ times (take i order) a + times (x ∷ []) a =
    ap (λ l. times l a) (take_more order i 0 within) ∙ times-append (take i order) (x ∷ []) a in
    let here : ◌≡◌ {A = ℕ} (cond (test x) (times (x ∷ []) a) 0) (cond (test a) (times (x ∷ []) a) 0) = ⊎_elim
    (λ (same : x ≡ a). ap (λ (k : ℕ). cond (test k) (times (x ∷ []) a) 0) same)
    (λ (other : x ≡ a → ⊥).
    let none : times (x ∷ []) a ≡ 0 = times_other x [] a other in
    (λ j. cond (test x) (none j) 0) ∙ (zero_either (test x) ∙ (sym (zero_either (test a)) ∙ (λ j. cond (test a) (sym none j) 0))))
    (cases_eq x a) in
    step ∙ ((λ j. is j + here j) ∙ (sum_either (test a) (times (take i order) a) (times (x ∷ []) a) ∙ (λ j. cond (test a) (sym more j) 0)))
