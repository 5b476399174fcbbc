-- What is listed, and what is in a set.
use Rattle.std.proofs.Common.{◌≡◌, ◌<◌, ◌≤◌, ◌+◌, ℕ, Bool, true, false, List, length, get_or, eqb, refl, ◌∙◌, subst, ⊎_elim, arith}
use Rattle.std.specs.List.{range_with_len}
use Rattle.std.proofs.lemmas.Bool.{cases_lt, both_ways, eqb-true, eq-eqb}
use Rattle.std.proofs.lemmas.List.{get_or_past}
use Rattle.std.proofs.lemmas.List.FromFn.{get_or-range_with_len, length-range_with_len}
use Rattle.wp_task.specs.Set.{has, lists}
use Rattle.wp_task.proofs.Members.{In, In-at, list_any-at, list_any-from}

pub In-from_lists : (xs : List ℕ) (q : ℕ) → lists xs q ≡ true → In q xs
In-from_lists xs q listed =
    let found : (x : ℕ) × In x xs × (eqb x q ≡ true) = list_any-at (λ x. eqb x q) xs listed in
    subst (λ (x : ℕ). In x xs) (eqb-true found.0 q found.2) found.1

pub lists-from_In : (xs : List ℕ) (q : ℕ) → In q xs → lists xs q ≡ true
lists-from_In xs q there = list_any-from (λ x. eqb x q) xs q there (eq-eqb q q refl)

pub In-range : (n p : ℕ) → p < n → In p (range_with_len 0 n)
In-range n p within =
    let place : get_or (range_with_len 0 n) p p ≡ p =
    get_or-range_with_len 0 n p p within ∙ (let e : 0 + p ≡ p = omega arith in e) in
    In-at p (range_with_len 0 n) p (omega (arith, length-range_with_len 0 n)) place

-- an atom of a set is below its size
pub below_size : (set : List Bool) (p : ℕ) → has set p ≡ true → p < length set
below_size set p there = ⊎_elim
    (λ (within : p < length set). within)
    (λ (past : length set ≤ p). absurd (both_ways (has set p) (get_or_past set p false past) there))
    (cases_lt p (length set))
