-- Sets of atoms and rising lists of atoms.
use Rattle.std.proofs.Common.{◌≡◌, ◌<◌, ◌≤◌, ◌+◌, ◌&&◌, ◌||◌, ◌∷◌, [], ℕ, Bool, true, false, List, length, map, replicate, get_or, eqb, refl, sym, ap, ◌∙◌, ⊎_elim, arith}
use Rattle.std.specs.List.{IsDistinct, filter, list_any, range_with_len}
use Rattle.std.specs.List.Sorted.{IsStrictlyIncreasing}
use Rattle.std.proofs.Math.Bool.{and-false}
use Rattle.std.proofs.lemmas.Bool.{cases_Bool, cases_lt, both_ways, eqb-true, eq-eqb, ne_eqb}
use Rattle.std.proofs.lemmas.Cmp.{nat_eq_equiv}
use Rattle.std.proofs.lemmas.List.{get_or_past}
use Rattle.std.proofs.lemmas.List.FromFn.{get_or-range_with_len, length-range_with_len, length-map-range_with_len, get_or-map-range_with_len}
use Rattle.std.proofs.lemmas.List.Kept.{AllPairs-from_increasing}
use Rattle.std.proofs.lemmas.Map.Keys.{IsDistinct-from_apart}
use Rattle.std.proofs.lemmas.Map.Made.{length-from_same_keys}
use Rattle.std.proofs.lemmas.Map.Views.{any-filter_same}
use Rattle.wp_task.specs.Set.{has, lists, atoms_in}
use Rattle.wp_task.proofs.Members.{In-at, list_any-from}
use Rattle.wp_task.proofs.SetLemmas.{has-replicate}
use Rattle.wp_relax.proofs.PlanLemmas.{atoms_in-rises}
use Rattle.wp_count.specs.Broods.{with_achieved}

pub has_below : (set : List Bool) (q : ℕ) → has set q ≡ true → q < length set
has_below set q there = ⊎_elim
    (λ (below : q < length set). below)
    (λ (past : length set ≤ q). absurd (both_ways (has set q) (get_or_past set q false past) there))
    (cases_lt q (length set))

-- ---- what a list has
pub lists-filter : (t : ℕ → Bool) (xs : List ℕ) (q : ℕ) → lists (filter t xs) q ≡ (t q && lists xs q)
lists-filter t xs q = any-filter_same (λ p. eqb p q) t (t q) (λ p same. ap t (eqb-true p q same)) xs

lists-range : (n q : ℕ) → q < n → lists (range_with_len 0 n) q ≡ true
lists-range n q below =
    let place : get_or (range_with_len 0 n) q q ≡ q = get_or-range_with_len 0 n q q below ∙ (let e : 0 + q ≡ q = omega arith in e) in
    list_any-from (λ p. eqb p q) (range_with_len 0 n) q
    (In-at q (range_with_len 0 n) q (omega (arith, length-range_with_len 0 n)) place)
    (eq-eqb q q refl)

pub lists-atoms_in : (set : List Bool) (q : ℕ) → lists (atoms_in set) q ≡ has set q
lists-atoms_in set q = ⊎_elim
    (λ (there : has set q ≡ true).
    lists-filter (has set) (range_with_len 0 (length set)) q
    ∙ ((λ j. there j && lists-range (length set) q (has_below set q there) j) ∙ sym there))
    (λ (lacks : has set q ≡ false).
    lists-filter (has set) (range_with_len 0 (length set)) q
    ∙ (ap (λ b. b && lists (range_with_len 0 (length set)) q) lacks ∙ sym lacks))
    (cases_Bool (has set q))

-- ---- rising lists with the same members are as long as one another
eqb-swap : (p q : ℕ) → eqb p q ≡ eqb q p
eqb-swap p q = ⊎_elim
    (λ (same : eqb p q ≡ true). same ∙ sym (eq-eqb q p (sym (eqb-true p q same))))
    (λ (other : eqb p q ≡ false).
    other ∙ sym (ne_eqb q p (λ (same : q ≡ p). both_ways (eqb p q) other (eq-eqb p q (sym same)))))
    (cases_Bool (eqb p q))

is_member-lists : (xs : List ℕ) (q : ℕ) → list_any (eqb q) xs ≡ lists xs q
is_member-lists [] q = refl
is_member-lists (x ∷ xs) q = λ j. eqb-swap q x j || is_member-lists xs q j

rising_distinct : (xs : List ℕ) → IsStrictlyIncreasing xs → IsDistinct eqb xs
rising_distinct xs rising = IsDistinct-from_apart eqb xs (λ i j d before within. ne_eqb (get_or xs i d) (get_or xs j d)
    (λ (same : get_or xs i d ≡ get_or xs j d). let order = AllPairs-from_increasing xs rising i j d before within in omega arith))

pub same_length : (xs ys : List ℕ) → IsStrictlyIncreasing xs → IsStrictlyIncreasing ys →
    ((q : ℕ) → lists xs q ≡ lists ys q) → length xs ≡ length ys
same_length xs ys first second same =
    length-from_same_keys nat_eq_equiv xs ys (rising_distinct xs first) (rising_distinct ys second)
    (λ q. is_member-lists xs q ∙ (same q ∙ sym (is_member-lists ys q)))

-- the atoms of a set are as many as a rising list of them
pub length-atoms_in : (set : List Bool) (xs : List ℕ) → IsStrictlyIncreasing xs → ((q : ℕ) → has set q ≡ lists xs q) →
    length (atoms_in set) ≡ length xs
length-atoms_in set xs rising same =
    same_length (atoms_in set) xs (atoms_in-rises set) rising (λ q. lists-atoms_in set q ∙ same q)

pub none_in : (n : ℕ) → length (atoms_in (replicate n false)) ≡ 0
none_in n = length-atoms_in (replicate n false) [] (λ k within. absurd (omega arith)) (has-replicate n)

-- ---- the achieved atoms
-- flags past the end are not set
pub has-map_range : (t : ℕ → Bool) (n q : ℕ) → (n ≤ q → t q ≡ false) → has (map t (range_with_len 0 n)) q ≡ t q
has-map_range t n q past_end = ⊎_elim
    (λ (within : q < n). get_or-map-range_with_len t 0 n q q false within (omega arith))
    (λ (past : n ≤ q).
    get_or_past (map t (range_with_len 0 n)) q false (omega (arith, length-map-range_with_len t 0 n)) ∙ sym (past_end past))
    (cases_lt q n)

pub has-with_achieved : (got : List Bool) (track : List ℕ) (state : List Bool) → length state ≡ length got → (q : ℕ) →
    has (with_achieved got track state) q ≡ (has got q || (lists track q && has state q))
has-with_achieved got track state same q =
    has-map_range (λ p. has got p || (lists track p && has state p)) (length got) q
    (λ (past : length got ≤ q).
    (λ j. get_or_past got q false past j || (lists track q && get_or_past state q false (omega arith) j)) ∙ and-false (lists track q))
