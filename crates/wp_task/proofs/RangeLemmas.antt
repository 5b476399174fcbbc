-- Rising numbers as what a range has of a set, and what a filter leaves to count.
use Rattle.std.proofs.Common.{◌≡◌, ◌==◌, ◌&&◌, ◌||◌, not, ℕ, zero, suc, ◌+◌, ◌<◌, ◌≤◌, Bool, true, false, cond, List, [], ◌∷◌, length, get_or, refl, sym, ap, ◌∙◌, subst, ⊎_elim, arith}
use Rattle.std.specs.List.{count_by, filter, list_all, range_with_len}
use Rattle.std.specs.List.Sorted.{IsStrictlyIncreasing}
use Rattle.std.proofs.lemmas.Bool.{cases_Bool, cases_eq, eq-eqb, ne_eqb, cond-true, cond-false}
use Rattle.std.proofs.lemmas.List.FromFn.{length-map-range_with_len, get_or-map-range_with_len}
use Rattle.std.proofs.lemmas.List.Sums.{sum_by-cons}
use Rattle.wp_task.specs.Set.{has, lists, atoms_in, set_of, AreAtoms}

-- ---- rising numbers
abbrev RisesFrom : ℕ → List ℕ → Type 0
RisesFrom a [] = Unit {0}
RisesFrom a (x ∷ xs) = (a ≤ x) × RisesFrom (x + 1) xs

rises : (a : ℕ) (xs : List ℕ) → (0 < length xs → a ≤ get_or xs 0 0) → IsStrictlyIncreasing xs → RisesFrom a xs
rises a [] first rising = tt
rises a (x ∷ []) first rising = (first (omega arith), tt)
rises a (x ∷ y ∷ xs) first rising =
    let next : x < y = rising 0 (omega arith) in
    let later : IsStrictlyIncreasing (y ∷ xs) = λ k within.
    let up : suc k + 1 ≡ suc (k + 1) = omega arith in
    subst (λ n. get_or (y ∷ xs) k 0 < get_or (x ∷ y ∷ xs) n 0) up (rising (suc k) (omega arith)) in
    (first (omega arith), rises (x + 1) (y ∷ xs) (λ _. omega arith) later)

none_before : (a b : ℕ) (xs : List ℕ) → RisesFrom b xs → a < b → lists xs a ≡ false
none_before a b [] rising before = refl
none_before a b (x ∷ xs) rising before =
    (λ j. ne_eqb x a (λ same. let late = rising.0 in omega arith) j || none_before a (x + 1) xs rising.1 (let late = rising.0 in omega arith) j)

filter_alike : (t u : ℕ → Bool) (n a : ℕ) → ((q : ℕ) → a ≤ q → q < a + n → t q ≡ u q) →
    filter t (range_with_len a n) ≡ filter u (range_with_len a n)
filter_alike t u zero a same = refl
filter_alike t u (suc n) a same =
    let here : t a ≡ u a = same a (omega arith) (omega arith) in
    let rest : filter t (range_with_len (a + 1) n) ≡ filter u (range_with_len (a + 1) n) =
    filter_alike t u n (a + 1) (λ q late early. same q (omega arith) (omega arith)) in
    (λ j. cond (here j) (a ∷ rest j) (rest j))

none_of_range : (n a : ℕ) → filter (lists []) (range_with_len a n) ≡ []
none_of_range zero a = refl
none_of_range (suc n) a = none_of_range n (a + 1)

listed_in_range : (n a : ℕ) (xs : List ℕ) → RisesFrom a xs → ((i : ℕ) → i < length xs → get_or xs i 0 < a + n) →
    filter (lists xs) (range_with_len a n) ≡ xs
listed_in_range n a [] rising below = none_of_range n a
listed_in_range zero a (x ∷ xs) rising below = absurd (let late = rising.0 in let early : x < a + 0 = below 0 (omega arith) in omega arith)
listed_in_range (suc n) a (x ∷ xs) rising below = ⊎_elim
    (λ (here : x ≡ a).
    let yes_here : lists (x ∷ xs) a ≡ true = ap (λ b. b || lists xs a) (eq-eqb x a here) in
    let rest : filter (lists (x ∷ xs)) (range_with_len (a + 1) n) ≡ filter (lists xs) (range_with_len (a + 1) n) =
    filter_alike (lists (x ∷ xs)) (lists xs) n (a + 1) (λ q late early. ap (λ b. b || lists xs q) (ne_eqb x q (λ same. omega arith))) in
    let next : x + 1 ≡ a + 1 = omega arith in
    let later : RisesFrom (a + 1) xs = subst (λ n. RisesFrom n xs) next rising.1 in
    let same : filter (lists (x ∷ xs)) (range_with_len (a + 1) n) ≡ xs =
    rest ∙ listed_in_range n (a + 1) xs later (λ i within. let b : get_or xs i 0 < a + suc n = below (suc i) (omega arith) in omega arith) in
    cond-true (lists (x ∷ xs) a) (a ∷ filter (lists (x ∷ xs)) (range_with_len (a + 1) n)) (filter (lists (x ∷ xs)) (range_with_len (a + 1) n)) yes_here
    ∙ (λ j. sym here j ∷ same j))
    (λ (other : x ≡ a → ⊥).
    let late : a + 1 ≤ x = (let l = rising.0 in omega arith) in
    let later : RisesFrom (a + 1) (x ∷ xs) = (late, rising.1) in
    cond-false (lists (x ∷ xs) a) (a ∷ filter (lists (x ∷ xs)) (range_with_len (a + 1) n)) (filter (lists (x ∷ xs)) (range_with_len (a + 1) n))
    (none_before a (a + 1) (x ∷ xs) later (omega arith))
    ∙ listed_in_range n (a + 1) (x ∷ xs) later (λ i within. let b : get_or (x ∷ xs) i 0 < a + suc n = below i within in omega arith))
    (cases_eq x a)

-- the atoms of the set of listed atoms are these
pub atoms_in-set_of : (size : ℕ) (atoms : List ℕ) → AreAtoms size atoms → atoms_in (set_of atoms size) ≡ atoms
atoms_in-set_of size atoms are =
    let below : (i : ℕ) → i < length atoms → get_or atoms i 0 < 0 + size = λ i within. let b = are.below i 0 within in omega arith in
    ap (λ n. filter (has (set_of atoms size)) (range_with_len 0 n)) (length-map-range_with_len (lists atoms) 0 size)
    ∙ (filter_alike (has (set_of atoms size)) (lists atoms) size 0
    (λ q late early. get_or-map-range_with_len (lists atoms) 0 size q q false (omega arith) (omega arith))
    ∙ listed_in_range size 0 atoms (rises 0 atoms (λ _. omega arith) are.rising) below)

-- ---- what is counted of a filter
abbrev worth : Bool → ℕ
worth b = cond b 1 0

pub count_by-filter : (q p : ℕ → Bool) (xs : List ℕ) → count_by q (filter p xs) ≡ count_by (λ x. p x && q x) xs
count_by-filter q p [] = refl
count_by-filter q p (x ∷ xs) =
    let right : count_by (λ y. p y && q y) (x ∷ xs) ≡ worth (p x && q x) + count_by (λ y. p y && q y) xs =
    sum_by-cons (λ y. worth (p y && q y)) x xs in
    let before = count_by-filter q p xs in
    ⊎_elim
    (λ (keeps : p x ≡ true).
    let left : count_by q (filter p (x ∷ xs)) ≡ worth (q x) + count_by q (filter p xs) =
    ap (count_by q) (cond-true (p x) (x ∷ filter p xs) (filter p xs) keeps) ∙ sum_by-cons (λ y. worth (q y)) x (filter p xs) in
    let here : worth (p x && q x) ≡ worth (q x) = ap (λ b. worth (b && q x)) keeps in
    omega (arith, left, right, here, before))
    (λ (drops : p x ≡ false).
    let left : count_by q (filter p (x ∷ xs)) ≡ count_by q (filter p xs) =
    ap (count_by q) (cond-false (p x) (x ∷ filter p xs) (filter p xs) drops) in
    let here : worth (p x && q x) ≡ 0 = ap (λ b. worth (b && q x)) drops in
    omega (arith, left, right, here, before))
    (cases_Bool (p x))

none_more : (b : Bool) (n : ℕ) (rest : Bool) → (n == 0) ≡ rest → ((worth (not b) + n) == 0) ≡ (b && rest)
none_more false n rest is = ne_eqb (1 + n) 0 (λ same. omega arith)
none_more true n rest is = (let same : 0 + n ≡ n = omega arith in ap (λ k. k == 0) same) ∙ is

-- all pass where none is counted that does not
pub none_fails : (p : ℕ → Bool) (xs : List ℕ) → (count_by (λ x. not (p x)) xs == 0) ≡ list_all p xs
none_fails p [] = refl
none_fails p (x ∷ xs) =
    ap (λ n. n == 0) (sum_by-cons (λ y. worth (not (p y))) x xs)
    ∙ none_more (p x) (count_by (λ y. not (p y)) xs) (list_all p xs) (none_fails p xs)
