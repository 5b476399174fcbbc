-- The atoms of a state, in order.
use Rattle.std.proofs.Common.{◌≡◌, ℕ, zero, suc, ◌+◌, ◌-◌, ◌<◌, ◌≤◌, cond, Bool, true, false, List, [], ◌∷◌, ◌++◌, length, get_or, take, refl, ap, ◌∙◌, inl, inr, ⊎_elim, arith, append-nil}
use Rattle.std.specs.List.{All, filter, range_with_len}
use Rattle.std.specs.List.Sorted.{IsStrictlyIncreasing}
use Rattle.std.proofs.lemmas.Bool.{cases_lt, both_ways}
use Rattle.std.proofs.lemmas.List.{get_or_past, get_or-take, length-take}
use Rattle.std.proofs.lemmas.List.Elements.{All-nil, All-cons}
use Rattle.std.proofs.lemmas.List.FromFn.{get_or-range_with_len, length-range_with_len}
use Rattle.std.proofs.lemmas.List.Kept.{AllPairs-from_increasing, IsStrictlyIncreasing-filter}
use Rattle.wp_task.specs.Set.{has, atoms_in, AreAtoms}
use Rattle.wp_task.proofs.AddersLemmas.{filter-range_more}
use Rattle.wp_task.proofs.Members.{In, In-at, In-filter, In-filter_cases}

-- no atom from the size on is in a set
pub none_past : (state : List Bool) (size p : ℕ) → length state ≡ size → size ≤ p → has state p ≡ false
none_past state size p e past = get_or_past state p false (omega arith)

pub has_below : (state : List Bool) (p : ℕ) → has state p ≡ true → p < length state
has_below state p h = ⊎_elim
    (λ (less : p < length state). less)
    (λ (past : length state ≤ p). absurd (both_ways (has state p) (none_past state (length state) p refl past) h))
    (cases_lt p (length state))

in_range : (n q : ℕ) → q < n → In q (range_with_len 0 n)
in_range n q below =
    let place : get_or (range_with_len 0 n) q q ≡ q = get_or-range_with_len 0 n q q below ∙ (let e : 0 + q ≡ q = omega arith in e) in
    In-at q (range_with_len 0 n) q (omega (arith, length-range_with_len 0 n)) place

range_rises : (n : ℕ) → IsStrictlyIncreasing (range_with_len 0 n)
range_rises n = λ k within.
    let short : k + 1 < n = omega (arith, length-range_with_len 0 n) in
    let here : get_or (range_with_len 0 n) k 0 ≡ 0 + k = get_or-range_with_len 0 n k 0 (omega arith) in
    let next : get_or (range_with_len 0 n) (k + 1) 0 ≡ 0 + (k + 1) = get_or-range_with_len 0 n (k + 1) 0 short in
    omega arith

pub in_atoms : (state : List Bool) (q : ℕ) → has state q ≡ true → In q (atoms_in state)
in_atoms state q there = In-filter (has state) (range_with_len 0 (length state)) q (in_range (length state) q (has_below state q there)) there

pub has_atoms : (state : List Bool) (q : ℕ) → In q (atoms_in state) → has state q ≡ true
has_atoms state q there = (In-filter_cases (has state) (range_with_len 0 (length state)) q there).1

all-from : (P : ℕ → Type 0) (xs : List ℕ) → ((x : ℕ) → In x xs → P x) → All P xs
all-from P [] each = All-nil P
all-from P (x ∷ xs) each = All-cons P x xs (each x (inl refl)) (all-from P xs (λ y later. each y (inr later)))

pub atoms_are : (state : List Bool) (n : ℕ) → length state ≡ n → AreAtoms n (atoms_in state)
atoms_are state n size = record {
  below = all-from (λ p. p < n) (atoms_in state) (λ p there. let less : p < length state = has_below state p (has_atoms state p there) in omega arith);
  rising = IsStrictlyIncreasing-filter (has state) (range_with_len 0 (length state)) (range_rises (length state));
}

-- those before an atom are less
pub before_less : (n : ℕ) (atoms : List ℕ) (i d : ℕ) → AreAtoms n atoms → i < length atoms → All (λ p. p < get_or atoms i d) (take i atoms)
before_less n atoms i d are within k e short =
    let early : k < i = omega (arith, length-take i atoms) in
    let less : get_or atoms k d < get_or atoms i d = AllPairs-from_increasing atoms are.rising k i d early within in
    let there : get_or (take i atoms) k e ≡ get_or atoms k d = get_or-take i atoms k e early ∙ same atoms k e d (omega arith) in
    omega arith
  where
    same : (xs : List ℕ) (k e d : ℕ) → k < length xs → get_or xs k e ≡ get_or xs k d
    same [] k e d h = absurd (omega arith)
    same (x ∷ xs) zero e d h = refl
    same (x ∷ xs) (suc k) e d h = same xs k e d (omega arith)

-- ---- one after another
filter-skipped : (t : ℕ → Bool) (from n : ℕ) → ((q : ℕ) → from ≤ q → q < from + n → t q ≡ false) →
    filter t (range_with_len 0 (from + n)) ≡ filter t (range_with_len 0 from)
filter-skipped t from zero none = ap (λ k. filter t (range_with_len 0 k)) (let e : from + 0 ≡ from = omega arith in e)
filter-skipped t from (suc n) none =
    ap (λ k. filter t (range_with_len 0 k)) (let e : from + suc n ≡ (from + n) + 1 = omega arith in e)
    ∙ (filter-range_more t (from + n)
    ∙ (ap (λ (b : Bool). filter t (range_with_len 0 (from + n)) ++ cond b ((from + n) ∷ []) []) (none (from + n) (omega arith) (omega arith))
    ∙ (append-nil (filter t (range_with_len 0 (from + n)))
    ∙ filter-skipped t from n (λ q late early. none q late (omega arith)))))

-- what was listed so far, where no number is left
pub listed_all : (t : ℕ → Bool) (from end : ℕ) → from ≤ end → ((q : ℕ) → from ≤ q → q < end → t q ≡ false) →
    filter t (range_with_len 0 end) ≡ filter t (range_with_len 0 from)
listed_all t from end le none =
    let e : end ≡ from + (end - from) = omega arith in
    ap (λ k. filter t (range_with_len 0 k)) e ∙ filter-skipped t from (end - from) (λ q late early. none q late (omega arith))

-- and with the next one
pub listed_more : (t : ℕ → Bool) (from p : ℕ) → from ≤ p → t p ≡ true → ((q : ℕ) → from ≤ q → q < p → t q ≡ false) →
    filter t (range_with_len 0 (p + 1)) ≡ filter t (range_with_len 0 from) ++ p ∷ []
listed_more t from p le passes none =
    filter-range_more t p
    ∙ ((λ j. listed_all t from p le none j ++ cond (passes j) (p ∷ []) []))
