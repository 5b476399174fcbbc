-- Least values and sums over lists.
use Rattle.std.proofs.Common.{◌≡◌, ◌⊎◌, ◌<◌, ◌≤◌, ◌+◌, ℕ, suc, min, Bool, true, false, cond, List, [], ◌∷◌, length, get_or, refl, ap, ◌∙◌, subst, inl, inr, ⊎_elim, arith}
use Rattle.std.specs.List.{fold, sum_by, count_by}
use Rattle.std.specs.List.Sorted.{IsStrictlyIncreasing}
use Rattle.std.proofs.lemmas.Bool.{cases_lt, cases_Bool, cond-true, cond-false}
use Rattle.std.proofs.lemmas.List.Sums.{sum_by-cons}
use Rattle.wp_task.proofs.Members.{In}

-- a running least is where it began, or one of the list
pub fold_min-cases : (a : ℕ) (xs : List ℕ) → (fold min a xs ≡ a) ⊎ In (fold min a xs) xs
fold_min-cases a [] = inl refl
fold_min-cases a (x ∷ xs) = ⊎_elim
    (λ (first : fold min (min a x) xs ≡ min a x). ⊎_elim
    (λ (less : a < x). let e : min a x ≡ a = omega arith in
    let found : (fold min (min a x) xs ≡ a) ⊎ In (fold min (min a x) xs) (x ∷ xs) = inl (first ∙ e) in found)
    (λ (more : x ≤ a). let e : min a x ≡ x = omega arith in
    let found : (fold min (min a x) xs ≡ a) ⊎ In (fold min (min a x) xs) (x ∷ xs) = inr (inl (first ∙ e)) in found)
    (cases_lt a x))
    (λ (later : In (fold min (min a x) xs) xs).
    let found : (fold min (min a x) xs ≡ a) ⊎ In (fold min (min a x) xs) (x ∷ xs) = inr (inr later) in found)
    (fold_min-cases (min a x) xs)

pub fold_min-le_first : (a : ℕ) (xs : List ℕ) → fold min a xs ≤ a
fold_min-le_first a [] = omega arith
fold_min-le_first a (x ∷ xs) = omega (arith, fold_min-le_first (min a x) xs)

pub fold_min-le : (a : ℕ) (xs : List ℕ) (x : ℕ) → In x xs → fold min a xs ≤ x
fold_min-le a [] x h = absurd h
fold_min-le a (y ∷ ys) x h = ⊎_elim
    (λ (same : x ≡ y). omega (arith, fold_min-le_first (min a y) ys))
    (λ (later : In x ys). fold_min-le (min a y) ys x later)
    h

-- a member's part of a sum
pub member-le-sum : (f : ℕ → ℕ) (xs : List ℕ) (q : ℕ) → In q xs → f q ≤ sum_by f xs
member-le-sum f [] q h = absurd h
member-le-sum f (x ∷ xs) q h = ⊎_elim
    (λ (same : q ≡ x). let e : f q ≡ f x = ap f same in omega (arith, sum_by-cons f x xs))
    (λ (later : In q xs). omega (arith, sum_by-cons f x xs, member-le-sum f xs q later))
    h

-- where a sum is less, some part of it is
pub less_part : (f g : ℕ → ℕ) (xs : List ℕ) → sum_by f xs < sum_by g xs → (q : ℕ) × In q xs × (f q < g q)
less_part f g [] less = absurd (omega arith)
less_part f g (x ∷ xs) less = ⊎_elim
    (λ (here : f x < g x). let found : (q : ℕ) × In q (x ∷ xs) × (f q < g q) = (x, inl refl, here) in found)
    (λ (no_less : g x ≤ f x).
    let rest : (q : ℕ) × In q xs × (f q < g q) =
    less_part f g xs (omega (arith, sum_by-cons f x xs, sum_by-cons g x xs)) in
    let found : (q : ℕ) × In q (x ∷ xs) × (f q < g q) = (rest.0, inr rest.1, rest.2) in found)
    (cases_lt (f x) (g x))

-- sums of parts that are each no more
pub sum-le : (f g : ℕ → ℕ) (xs : List ℕ) → ((q : ℕ) → In q xs → f q ≤ g q) → sum_by f xs ≤ sum_by g xs
sum-le f g [] each = omega arith
sum-le f g (x ∷ xs) each =
    omega (arith, sum_by-cons f x xs, sum_by-cons g x xs, each x (inl refl), sum-le f g xs (λ q later. each q (inr later)))

pub sum-same : (f g : ℕ → ℕ) (xs : List ℕ) → ((q : ℕ) → In q xs → f q ≡ g q) → sum_by f xs ≡ sum_by g xs
sum-same f g [] each = refl
sum-same f g (x ∷ xs) each =
    omega (arith, sum_by-cons f x xs, sum_by-cons g x xs, each x (inl refl), sum-same f g xs (λ q later. each q (inr later)))

pub sum-zero : (f : ℕ → ℕ) (xs : List ℕ) → ((q : ℕ) → f q ≡ 0) → sum_by f xs ≡ 0
sum-zero f [] each = refl
sum-zero f (x ∷ xs) each = omega (arith, sum_by-cons f x xs, each x, sum-zero f xs each)

-- ---- lists that rise name nothing twice
pub rises-tail : (x : ℕ) (xs : List ℕ) → IsStrictlyIncreasing (x ∷ xs) → IsStrictlyIncreasing xs
rises-tail x xs rising = λ k within.
    let next : get_or (x ∷ xs) (suc k + 1) 0 ≡ get_or xs (k + 1) 0 = ap (λ n. get_or (x ∷ xs) n 0) (let e : suc k + 1 ≡ suc (k + 1) = omega arith in e) in
    omega (arith, rising (suc k) (omega arith))

pub rises-head : (x : ℕ) (xs : List ℕ) (q : ℕ) → IsStrictlyIncreasing (x ∷ xs) → In q xs → x < q
rises-head x [] q rising there = absurd there
rises-head x (y ∷ xs) q rising there =
    let first : x < y = rising 0 (omega arith) in
    ⊎_elim
    (λ (same : q ≡ y). omega arith)
    (λ (later : In q xs). omega (arith, rises-head y xs q (rises-tail x (y ∷ xs) rising) later))
    there

-- a sum in which the part of one member is more by d
pub sum-one_more : (f g : ℕ → ℕ) (p d : ℕ) (xs : List ℕ) → IsStrictlyIncreasing xs → In p xs →
    f p ≡ g p + d → ((q : ℕ) → (q ≡ p → ⊥) → f q ≡ g q) → sum_by f xs ≡ sum_by g xs + d
sum-one_more f g p d [] rising there more same = absurd there
sum-one_more f g p d (x ∷ xs) rising there more same = ⊎_elim
    (λ (here : p ≡ x).
    let rest : sum_by f xs ≡ sum_by g xs = sum-same f g xs
    (λ q later. same q (λ at. absurd (let after : x < q = rises-head x xs q rising later in omega arith))) in
    let one : f x ≡ g x + d = subst (λ (k : ℕ). f k ≡ g k + d) here more in
    omega (arith, sum_by-cons f x xs, sum_by-cons g x xs))
    (λ (later : In p xs).
    let one : f x ≡ g x = same x (λ at. absurd (let after : x < p = rises-head x xs p rising later in omega arith)) in
    let rest : sum_by f xs ≡ sum_by g xs + d = sum-one_more f g p d xs (rises-tail x xs rising) later more same in
    omega (arith, sum_by-cons f x xs, sum_by-cons g x xs))
    there

-- ---- counts
pub one-yes : (b : Bool) → b ≡ true → ◌≡◌ {A = ℕ} (cond b 1 0) 1
one-yes b is = cond-true {A = ℕ} b 1 0 is

pub one-no : (b : Bool) → b ≡ false → ◌≡◌ {A = ℕ} (cond b 1 0) 0
one-no b is = cond-false {A = ℕ} b 1 0 is

pub count-none : (t : ℕ → Bool) (xs : List ℕ) → count_by t xs ≡ 0 → (q : ℕ) → In q xs → t q ≡ false
count-none t xs none q there = ⊎_elim
    (λ (passes : t q ≡ true).
    absurd (omega (arith, member-le-sum (λ k. cond (t k) 1 0) xs q there, one-yes (t q) passes)))
    (λ (fails : t q ≡ false). fails)
    (cases_Bool (t q))

pub count-some : (t : ℕ → Bool) (xs : List ℕ) → 0 < count_by t xs → (q : ℕ) × In q xs × (t q ≡ true)
count-some t [] some = absurd (omega arith)
count-some t (x ∷ xs) some = ⊎_elim
    (λ (passes : t x ≡ true). let found : (q : ℕ) × In q (x ∷ xs) × (t q ≡ true) = (x, inl refl, passes) in found)
    (λ (fails : t x ≡ false).
    let rest : (q : ℕ) × In q xs × (t q ≡ true) =
    count-some t xs (omega (arith, sum_by-cons (λ k. cond (t k) 1 0) x xs, one-no (t x) fails)) in
    let found : (q : ℕ) × In q (x ∷ xs) × (t q ≡ true) = (rest.0, inr rest.1, rest.2) in found)
    (cases_Bool (t x))

pub count-all : (t : ℕ → Bool) (xs : List ℕ) → ((q : ℕ) → t q ≡ true) → count_by t xs ≡ length xs
count-all t [] each = refl
count-all t (x ∷ xs) each = omega (arith, sum_by-cons (λ k. cond (t k) 1 0) x xs, one-yes (t x) (each x), count-all t xs each)

pub count-same : (b c : Bool) → b ≡ c → ◌≡◌ {A = ℕ} (cond b 1 0) (cond c 1 0)
count-same b c is = λ i. cond {A = ℕ} (is i) 1 0

-- one member fewer passes
pub count-one_less : (t s : ℕ → Bool) (p : ℕ) (xs : List ℕ) → IsStrictlyIncreasing xs → In p xs → t p ≡ true → s p ≡ false →
    ((q : ℕ) → (q ≡ p → ⊥) → t q ≡ s q) → count_by t xs ≡ count_by s xs + 1
count-one_less t s p xs rising there before after same =
    sum-one_more (λ k. cond (t k) 1 0) (λ k. cond (s k) 1 0) p 1 xs rising there
    (omega (arith, one-yes (t p) before, one-no (s p) after))
    (λ q other. count-same (t q) (s q) (same q other))
