-- Members of a list, by recursion on it: the form of `Contains` in which an induction is two clauses.
use Rattle.std.proofs.Common.{◌≡◌, ◌⊎◌, ℕ, zero, suc, ◌<◌, Bool, true, false, List, [], ◌∷◌, ◌++◌, length, map, get_or, refl, sym, ap, ◌∙◌, subst, inl, inr, ⊎_elim, arith}
use Rattle.std.specs.List.{Contains, filter, list_all, list_any}
use Rattle.std.proofs.lemmas.Bool.{cases_Bool, and_parts, and_from, or_cases, or_left, or_right, cond-true, cond-false, both_ways}

abbrev pub In : {X : Type 0} → X → List X → Type 0
In x [] = ⊥
In x (y ∷ ys) = (x ≡ y) ⊎ In x ys

pub In-at : {X : Type 0} (x : X) (xs : List X) (k : ℕ) → k < length xs → get_or xs k x ≡ x → In x xs
In-at x [] k within is = absurd (omega arith)
In-at x (y ∷ ys) zero within is = inl (sym is)
In-at x (y ∷ ys) (suc k) within is = inr (In-at x ys k (omega arith) is)

pub In-from_Contains : {X : Type 0} (x : X) (xs : List X) → Contains xs x → In x xs
In-from_Contains x xs h = In-at x xs h.0 h.1 h.2

pub Contains-from_In : {X : Type 0} (x : X) (xs : List X) → In x xs → Contains xs x
Contains-from_In x [] h = absurd h
Contains-from_In x (y ∷ ys) h = ⊎_elim
    (λ (same : x ≡ y). let found : Contains (y ∷ ys) x = (0, omega arith, sym same) in found)
    (λ (later : In x ys). let k : Contains ys x = Contains-from_In x ys later in
    let found : Contains (y ∷ ys) x = (suc k.0, omega (arith, k.1), k.2) in found)
    h

-- ---- tests of each and of some
pub list_all-at : {X : Type 0} (p : X → Bool) (xs : List X) → list_all p xs ≡ true → (x : X) → In x xs → p x ≡ true
list_all-at p [] all x h = absurd h
list_all-at p (y ∷ ys) all x h = ⊎_elim
    (λ (same : x ≡ y). ap p same ∙ (and_parts (p y) (list_all p ys) all).0)
    (λ (later : In x ys). list_all-at p ys (and_parts (p y) (list_all p ys) all).1 x later)
    h

pub list_all-from : {X : Type 0} (p : X → Bool) (xs : List X) → ((x : X) → In x xs → p x ≡ true) → list_all p xs ≡ true
list_all-from p [] each = refl
list_all-from p (y ∷ ys) each = and_from (p y) (list_all p ys) (each y (inl refl)) (list_all-from p ys (λ x later. each x (inr later)))

pub list_any-from : {X : Type 0} (p : X → Bool) (xs : List X) (x : X) → In x xs → p x ≡ true → list_any p xs ≡ true
list_any-from p [] x h passes = absurd h
list_any-from p (y ∷ ys) x h passes = ⊎_elim
    (λ (same : x ≡ y). or_left (p y) (list_any p ys) (ap p (sym same) ∙ passes))
    (λ (later : In x ys). or_right (p y) (list_any p ys) (list_any-from p ys x later passes))
    h

pub list_any-at : {X : Type 0} (p : X → Bool) (xs : List X) → list_any p xs ≡ true → (x : X) × In x xs × (p x ≡ true)
list_any-at p [] some = absurd (cc)
list_any-at {X = X} p (y ∷ ys) some = ⊎_elim
    (λ (here : p y ≡ true). let found : (x : X) × In x (y ∷ ys) × (p x ≡ true) = (y, inl refl, here) in found)
    (λ (later : list_any p ys ≡ true). let rest : (x : X) × In x ys × (p x ≡ true) = list_any-at p ys later in
    let found : (x : X) × In x (y ∷ ys) × (p x ≡ true) = (rest.0, inr rest.1, rest.2) in found)
    (or_cases (p y) (list_any p ys) some)

-- ---- members of made lists
pub In-filter : {X : Type 0} (t : X → Bool) (xs : List X) (x : X) → In x xs → t x ≡ true → In x (filter t xs)
In-filter t [] x h passes = absurd h
In-filter {X = X} t (y ∷ ys) x h passes = ⊎_elim
    (λ (keeps : t y ≡ true). subst (λ (l : List X). In x l) (sym (cond-true (t y) (y ∷ filter t ys) (filter t ys) keeps))
    (⊎_elim (λ (same : x ≡ y). let found : In x (y ∷ filter t ys) = inl same in found)
    (λ (later : In x ys). let found : In x (y ∷ filter t ys) = inr (In-filter t ys x later passes) in found) h))
    (λ (drops : t y ≡ false). subst (λ (l : List X). In x l) (sym (cond-false (t y) (y ∷ filter t ys) (filter t ys) drops))
    (⊎_elim (λ (same : x ≡ y). absurd (both_ways (t y) drops (ap t (sym same) ∙ passes)))
    (λ (later : In x ys). In-filter t ys x later passes) h))
    (cases_Bool (t y))

pub In-filter_cases : {X : Type 0} (t : X → Bool) (xs : List X) (x : X) → In x (filter t xs) → In x xs × (t x ≡ true)
In-filter_cases t [] x h = absurd h
In-filter_cases {X = X} t (y ∷ ys) x h = ⊎_elim
    (λ (keeps : t y ≡ true).
    let kept : In x (y ∷ filter t ys) = subst (λ (l : List X). In x l) (cond-true (t y) (y ∷ filter t ys) (filter t ys) keeps) h in
    ⊎_elim
    (λ (same : x ≡ y). let found : In x (y ∷ ys) × (t x ≡ true) = (inl same, ap t same ∙ keeps) in found)
    (λ (later : In x (filter t ys)). let rest : In x ys × (t x ≡ true) = In-filter_cases t ys x later in
    let found : In x (y ∷ ys) × (t x ≡ true) = (inr rest.0, rest.1) in found)
    kept)
    (λ (drops : t y ≡ false).
    let rest : In x ys × (t x ≡ true) =
    In-filter_cases t ys x (subst (λ (l : List X). In x l) (cond-false (t y) (y ∷ filter t ys) (filter t ys) drops) h) in
    let found : In x (y ∷ ys) × (t x ≡ true) = (inr rest.0, rest.1) in found)
    (cases_Bool (t y))

pub In-map : {X Y : Type 0} (f : X → Y) (xs : List X) (x : X) → In x xs → In (f x) (map f xs)
In-map f [] x h = absurd h
In-map f (y ∷ ys) x h = ⊎_elim
    (λ (same : x ≡ y). let found : In (f x) (map f (y ∷ ys)) = inl (ap f same) in found)
    (λ (later : In x ys). let found : In (f x) (map f (y ∷ ys)) = inr (In-map f ys x later) in found)
    h

pub In-map_cases : {X Y : Type 0} (f : X → Y) (xs : List X) (y : Y) → In y (map f xs) → (x : X) × In x xs × (y ≡ f x)
In-map_cases f [] y h = absurd h
In-map_cases {X = X} f (z ∷ zs) y h = ⊎_elim
    (λ (same : y ≡ f z). let found : (x : X) × In x (z ∷ zs) × (y ≡ f x) = (z, inl refl, same) in found)
    (λ (later : In y (map f zs)). let rest : (x : X) × In x zs × (y ≡ f x) = In-map_cases f zs y later in
    let found : (x : X) × In x (z ∷ zs) × (y ≡ f x) = (rest.0, inr rest.1, rest.2) in found)
    h

pub In-append_left : {X : Type 0} (xs ys : List X) (x : X) → In x xs → In x (xs ++ ys)
In-append_left [] ys x h = absurd h
In-append_left (z ∷ zs) ys x h = ⊎_elim
    (λ (same : x ≡ z). let found : In x (z ∷ (zs ++ ys)) = inl same in found)
    (λ (later : In x zs). let found : In x (z ∷ (zs ++ ys)) = inr (In-append_left zs ys x later) in found)
    h

pub In-append_right : {X : Type 0} (xs ys : List X) (x : X) → In x ys → In x (xs ++ ys)
In-append_right [] ys x h = h
In-append_right (z ∷ zs) ys x h = inr (In-append_right zs ys x h)

pub In-append_cases : {X : Type 0} (xs ys : List X) (x : X) → In x (xs ++ ys) → In x xs ⊎ In x ys
In-append_cases [] ys x h = inr h
In-append_cases (z ∷ zs) ys x h = ⊎_elim
    (λ (same : x ≡ z). let found : In x (z ∷ zs) ⊎ In x ys = inl (inl same) in found)
    (λ (later : In x (zs ++ ys)). ⊎_elim
    (λ (left : In x zs). let found : In x (z ∷ zs) ⊎ In x ys = inl (inr left) in found)
    (λ (right : In x ys). let found : In x (z ∷ zs) ⊎ In x ys = inr right in found)
    (In-append_cases zs ys x later))
    h
