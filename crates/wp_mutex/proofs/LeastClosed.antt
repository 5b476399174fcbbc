-- The rounds settle, and what they settle on is the least closed set.
use Rattle.std.proofs.Common.{◌≡◌, ◌⊎◌, ◌&&◌, ◌||◌, not, ℕ, zero, suc, ◌*◌, ◌<◌, ◌≤◌, Bool, true, false, List, [], length, get_or, refl, sym, ap, ◌∙◌, subst, ⊎_elim, arith}
use Rattle.std.specs.List.{All, list_any}
use Rattle.std.proofs.lemmas.Bool.{cases_lt, both_ways, and_parts, and_from, or_cases, or_left, or_right}
use Rattle.std.proofs.lemmas.List.{get_or_past}
use Rattle.std.proofs.lemmas.List.Elements.{All-from_get_or}
use Rattle.std.proofs.lemmas.List.Sums.{sum_by-le, count_by-le-length}
use Rattle.wp_task.specs.declared.acts.Act.{Act}
use Rattle.wp_task.specs.Set.{has}
use Rattle.wp_task.proofs.Members.{In-from_Contains, Contains-from_In, list_any-at, list_any-from}
use Rattle.wp_mutex.specs.PossiblePairs.{joins, makes, more_pairs, pairs_after, possible_pairs, HasRows, ArePairsOf, IsStep, IsClosed}
use Rattle.wp_mutex.specs.Laws.{PairsSettle, LeastAreClosed, IsLeastClosed}
use Rattle.wp_mutex.specs.WorkList.{unset, missing}
use Rattle.wp_mutex.proofs.PairLemmas.{joins-le, joins-swap, joins-below, joins-from, joins-to, rows-pairs_by, same_pairs, makes-from, makes_cases, makes-swap, Made, may_apply-more, may_follow-more}
use Rattle.wp_mutex.proofs.Rounds.{fewer, stays}

-- an atom of a set is below its size
pub below_size : (set : List Bool) (p : ℕ) → has set p ≡ true → p < length set
below_size set p there = ⊎_elim
    (λ (within : p < length set). within)
    (λ (past : length set ≤ p). absurd (both_ways (has set p) (get_or_past set p false past) there))
    (cases_lt p (length set))

-- rows of the same lengths, past the last row too
pub same_rows : (n : ℕ) (xs ys : List (List Bool)) → HasRows n xs → HasRows n ys → (q : ℕ) →
    length (get_or xs q []) ≡ length (get_or ys q [])
same_rows n xs ys rows others q = ⊎_elim
    (λ (within : q < n). rows.each q within ∙ sym (others.each q within))
    (λ (past : n ≤ q).
    ap length (get_or_past xs q [] (omega (arith, rows.count))) ∙ sym (ap length (get_or_past ys q [] (omega (arith, others.count)))))
    (cases_lt q n)

-- a flag of a row is a pair
row_pair : (n : ℕ) (pairs : List (List Bool)) → HasRows n pairs → (q p : ℕ) → has (get_or pairs q []) p ≡ true → p ≤ q
row_pair n pairs rows q p there =
    let inside : p < length (get_or pairs q []) = below_size (get_or pairs q []) p there in
    ⊎_elim
    (λ (within : q < n). omega (arith, rows.each q within))
    (λ (past : n ≤ q).
    let none : length (get_or pairs q []) ≡ 0 = ap length (get_or_past pairs q [] (omega (arith, rows.count))) in
    absurd (omega arith))
    (cases_lt q n)

-- a set that has all pairs of another is the same, or lacks fewer
pub fewer_pairs : (n : ℕ) (xs ys : List (List Bool)) → HasRows n xs → HasRows n ys → ArePairsOf xs ys →
    (xs ≡ ys) ⊎ (missing ys < missing xs)
fewer_pairs n xs ys rows others keeps =
    fewer xs ys (rows.count ∙ sym others.count) (same_rows n xs ys rows others) (λ q p there.
    let le : p ≤ q = row_pair n xs rows q p there in
    sym (joins-le ys p q le) ∙ keeps p q (joins-le xs p q le ∙ there))

module _ (acts : List Act) where
  abbrev test : List (List Bool) → ℕ → ℕ → Bool
  test pairs p q = joins pairs p q || list_any (makes (joins pairs) p q) acts

  any-swap : (pairs : List (List Bool)) (p q : ℕ) → list_any (makes (joins pairs) p q) acts ≡ true →
      list_any (makes (joins pairs) q p) acts ≡ true
  any-swap pairs p q some =
      let found = list_any-at (makes (joins pairs) p q) acts some in
      list_any-from (makes (joins pairs) q p) acts found.0 found.1 (makes-swap (joins pairs) found.0 p q found.2)

  test-swap : (pairs : List (List Bool)) (p q : ℕ) → test pairs p q ≡ true → test pairs q p ≡ true
  test-swap pairs p q holds = ⊎_elim
      (λ (there : joins pairs p q ≡ true).
      or_left (joins pairs q p) (list_any (makes (joins pairs) q p) acts) (joins-swap pairs q p ∙ there))
      (λ (made : list_any (makes (joins pairs) p q) acts ≡ true).
      or_right (joins pairs q p) (list_any (makes (joins pairs) q p) acts) (any-swap pairs p q made))
      (or_cases (joins pairs p q) (list_any (makes (joins pairs) p q) acts) holds)

  more-keeps : (pairs : List (List Bool)) → ArePairsOf pairs (more_pairs acts pairs)
  more-keeps pairs p q there =
      let below = joins-below pairs p q there in
      joins-from (length pairs) (test pairs) (test-swap pairs) p q below.0 below.1
      (or_left (joins pairs p q) (list_any (makes (joins pairs) p q) acts) there)

  more-makes : (pairs : List (List Bool)) → IsStep acts (length pairs) (joins pairs) (more_pairs acts pairs)
  more-makes pairs act p q among low high may adds follows =
      joins-from (length pairs) (test pairs) (test-swap pairs) p q low high
      (or_right (joins pairs p q) (list_any (makes (joins pairs) p q) acts)
      (list_any-from (makes (joins pairs) p q) acts act (In-from_Contains act acts among)
      (makes-from (joins pairs) act p q may adds follows)))

  more-within : (n : ℕ) (pairs other : List (List Bool)) → length pairs ≡ n → IsStep acts n (joins other) other →
      ArePairsOf pairs other → ArePairsOf (more_pairs acts pairs) other
  more-within n pairs other size closed within p q there =
      let below = joins-below (more_pairs acts pairs) p q there in
      let count : length (more_pairs acts pairs) ≡ length pairs = (rows-pairs_by (length pairs) (test pairs)).count in
      let low : p < n = omega (arith, below.0) in
      let high : q < n = omega (arith, below.1) in
      ⊎_elim
      (λ (old : joins pairs p q ≡ true). within p q old)
      (λ (made : list_any (makes (joins pairs) p q) acts ≡ true).
      let found = list_any-at (makes (joins pairs) p q) acts made in
      ⊎_elim
      (λ (m : Made (joins pairs) found.0 p q).
      closed found.0 p q (Contains-from_In found.0 acts found.1) low high
      (may_apply-more (joins pairs) (joins other) within found.0 m.may) m.adds
      (may_follow-more (joins pairs) (joins other) within found.0 q m.follows))
      (λ (m : Made (joins pairs) found.0 q p).
      joins-swap other p q ∙ closed found.0 q p (Contains-from_In found.0 acts found.1) high low
      (may_apply-more (joins pairs) (joins other) within found.0 m.may) m.adds
      (may_follow-more (joins pairs) (joins other) within found.0 p m.follows))
      (makes_cases (joins pairs) found.0 p q found.2))
      (or_cases (joins pairs p q) (list_any (makes (joins pairs) p q) acts)
      (joins-to (length pairs) (test pairs) (test-swap pairs) p q there))

module _ (acts : List Act) (state : List Bool) where
  abbrev n : ℕ
  n = length state

  abbrev after : ℕ → List (List Bool)
  after d = pairs_after acts state d

  abbrev opening : ℕ → ℕ → Bool
  opening p q = has state p && has state q

  opening-swap : (p q : ℕ) → opening p q ≡ true → opening q p ≡ true
  opening-swap p q both =
      let parts = and_parts (has state p) (has state q) both in and_from (has state q) (has state p) parts.1 parts.0

  rows_after : (d : ℕ) → HasRows n (after d)
  rows_after zero = rows-pairs_by n opening
  rows_after (suc d) =
      subst (λ (k : ℕ). HasRows k (after (suc d))) (rows_after d).count (rows-pairs_by (length (after d)) (test acts (after d)))

  most : (d : ℕ) → missing (after d) ≤ n * n
  most d =
      let rows : HasRows n (after d) = rows_after d in
      let each : All (λ row. unset row ≤ n) (after d) =
      All-from_get_or (λ row. unset row ≤ n) (after d) [] (λ q within.
      let inside : q < n = omega (arith, rows.count) in
      omega (arith, count_by-le-length (λ b. not b) (get_or (after d) q []), rows.each q inside)) in
      let sum : missing (after d) ≤ length (after d) * n = sum_by-le unset n (after d) each in
      subst (λ (k : ℕ). missing (after d) ≤ k * n) rows.count sum

  settled : after (suc (n * n)) ≡ after (n * n)
  settled = stays (n * n) after (more_pairs acts) most (λ d. refl)
      (λ d. fewer_pairs n (after d) (after (suc d)) (rows_after d) (rows_after (suc d)) (more-keeps acts (after d)))

  opening-stays : (d p q : ℕ) → has state p ≡ true → has state q ≡ true → joins (after d) p q ≡ true
  opening-stays zero p q one other =
      joins-from n opening opening-swap p q (below_size state p one) (below_size state q other)
      (and_from (has state p) (has state q) one other)
  opening-stays (suc d) p q one other = more-keeps acts (after d) p q (opening-stays d p q one other)

  abbrev possible : List (List Bool)
  possible = possible_pairs acts state

  pub possible_rows : HasRows n possible
  possible_rows = rows_after (n * n)

  pub possible_closed : IsClosed acts state possible
  possible_closed = record {
    opening = opening-stays (n * n);
    steps = λ act p q among low high may adds follows.
        let size : length possible ≡ n = possible_rows.count in
        let left : p < length possible = omega arith in
        let right : q < length possible = omega arith in
        sym (ap (λ (pairs : List (List Bool)). joins pairs p q) settled)
        ∙ more-makes acts possible act p q among left right may adds follows;
  }

  within_closed : (other : List (List Bool)) → IsClosed acts state other → (d : ℕ) → ArePairsOf (after d) other
  within_closed other closed zero p q there =
      let parts = and_parts (has state p) (has state q) (joins-to n opening opening-swap p q there) in
      closed.opening p q parts.0 parts.1
  within_closed other closed (suc d) p q there =
      more-within acts n (after d) other (rows_after d).count closed.steps (within_closed other closed d) p q there

  pub possible_least : (other : List (List Bool)) → IsClosed acts state other → ArePairsOf possible other
  possible_least other closed = within_closed other closed (n * n)

  pub least_closed : IsLeastClosed acts state possible
  least_closed = record { rows = possible_rows; closed = possible_closed; least = possible_least }

pub pairs_settle : PairsSettle
pairs_settle acts state = settled acts state

-- a closed set that every closed set has is the set of possible pairs
pub least_is_possible : (acts : List Act) (state : List Bool) (pairs : List (List Bool)) → HasRows (length state) pairs →
    IsClosed acts state pairs → ArePairsOf pairs (possible_pairs acts state) → pairs ≡ possible_pairs acts state
least_is_possible acts state pairs rows closed within =
    same_pairs (length state) pairs (possible_pairs acts state) rows (possible_rows acts state) within
    (possible_least acts state pairs closed)

pub least_are_closed : LeastAreClosed
least_are_closed acts state pairs = (
  λ least. least_is_possible acts state pairs least.rows least.closed
      (least.least (possible_pairs acts state) (possible_closed acts state)),
  λ same. subst (λ (xs : List (List Bool)). IsLeastClosed acts state xs) (sym same) (least_closed acts state),
)
