-- Sets of pairs as triangles of flags, and what an action makes possible.
use Rattle.std.proofs.Common.{◌≡◌, ◌⊎◌, ◌&&◌, ◌||◌, not, ℕ, ◌+◌, ◌<◌, ◌≤◌, max, min, Bool, true, false, List, [], length, map, replicate, get_or, refl, sym, ap, ◌∙◌, subst, inl, inr, ⊎_elim, arith}
use Rattle.std.specs.List.{range_with_len}
use Rattle.std.proofs.lemmas.Bool.{cases_lt, both_ways, and_parts, and_from, or_cases, or_left, or_right}
use Rattle.std.proofs.lemmas.List.{get_or_past, ext_get_or, length-replicate}
use Rattle.std.proofs.lemmas.List.FromFn.{get_or-map-range_with_len, length-map-range_with_len}
use Rattle.wp_task.specs.declared.acts.Act.{Act}
use Rattle.wp_task.specs.Set.{has, lists}
use Rattle.wp_task.proofs.Members.{list_all-at, list_all-from}
use Rattle.wp_task.proofs.SetLemmas.{has-replicate}
use Rattle.wp_mutex.specs.PossiblePairs.{joins, pairs_by, joins_all, may_apply, may_follow, makes, HasRows, ArePairsOf}

-- ---- rows
pub joins-le : (pairs : List (List Bool)) (p q : ℕ) → p ≤ q → joins pairs p q ≡ has (get_or pairs q []) p
joins-le pairs p q le =
    let high : max p q ≡ q = omega arith in
    let low : min p q ≡ p = omega arith in
    (λ j. has (get_or pairs (high j) []) (low j))

pub joins-swap : (pairs : List (List Bool)) (p q : ℕ) → joins pairs p q ≡ joins pairs q p
joins-swap pairs p q =
    let high : max p q ≡ max q p = omega arith in
    let low : min p q ≡ min q p = omega arith in
    (λ j. has (get_or pairs (high j) []) (low j))

pub row_of-pairs_by : (n : ℕ) (test : ℕ → ℕ → Bool) (q : ℕ) → q < n →
    get_or (pairs_by n test) q [] ≡ map (λ p. test p q) (range_with_len 0 (q + 1))
row_of-pairs_by n test q within =
    get_or-map-range_with_len (λ k. map (λ p. test p k) (range_with_len 0 (k + 1))) 0 n q q [] within (omega arith)

pub joins-pairs_by : (n : ℕ) (test : ℕ → ℕ → Bool) (p q : ℕ) → p ≤ q → q < n → joins (pairs_by n test) p q ≡ test p q
joins-pairs_by n test p q le within =
    joins-le (pairs_by n test) p q le
    ∙ (ap (λ row. has row p) (row_of-pairs_by n test q within)
    ∙ get_or-map-range_with_len (λ k. test k q) 0 (q + 1) p p false (omega arith) (omega arith))

pub length-pairs_by : (n : ℕ) (test : ℕ → ℕ → Bool) → length (pairs_by n test) ≡ n
length-pairs_by n test = length-map-range_with_len (λ k. map (λ p. test p k) (range_with_len 0 (k + 1))) 0 n

pub rows-pairs_by : (n : ℕ) (test : ℕ → ℕ → Bool) → HasRows n (pairs_by n test)
rows-pairs_by n test = record {
  count = length-pairs_by n test;
  each = λ q within. ap length (row_of-pairs_by n test q within) ∙ length-map-range_with_len (λ p. test p q) 0 (q + 1);
}

-- the atoms of a pair are below the size
pub joins-below : (pairs : List (List Bool)) (p q : ℕ) → joins pairs p q ≡ true → (p < length pairs) × (q < length pairs)
joins-below pairs p q there = ⊎_elim
    (λ (within : max p q < length pairs).
    let left : p < length pairs = omega arith in let right : q < length pairs = omega arith in (left, right))
    (λ (past : length pairs ≤ max p q).
    absurd (both_ways (joins pairs p q) (ap (λ row. has row (min p q)) (get_or_past pairs (max p q) [] past)) there))
    (cases_lt (max p q) (length pairs))

-- ---- pairs by a test that minds no order
module _ (n : ℕ) (test : ℕ → ℕ → Bool) (swap : (p q : ℕ) → test p q ≡ true → test q p ≡ true) where
  pub joins-from : (p q : ℕ) → p < n → q < n → test p q ≡ true → joins (pairs_by n test) p q ≡ true
  joins-from p q low high holds = ⊎_elim
      (λ (less : p < q). joins-pairs_by n test p q (omega arith) high ∙ holds)
      (λ (not_less : q ≤ p). joins-swap (pairs_by n test) p q ∙ (joins-pairs_by n test q p not_less low ∙ swap p q holds))
      (cases_lt p q)

  pub joins-to : (p q : ℕ) → joins (pairs_by n test) p q ≡ true → test p q ≡ true
  joins-to p q there =
      let size : length (pairs_by n test) ≡ n = length-pairs_by n test in
      let below = joins-below (pairs_by n test) p q there in
      let low : p < n = omega (arith, below.0) in
      let high : q < n = omega (arith, below.1) in
      ⊎_elim
      (λ (less : p < q). sym (joins-pairs_by n test p q (omega arith) high) ∙ there)
      (λ (not_less : q ≤ p).
      swap q p (sym (joins-pairs_by n test q p not_less low) ∙ (sym (joins-swap (pairs_by n test) p q) ∙ there)))
      (cases_lt p q)

-- ---- two triangles with the same pairs are the same
same_flag : (x y : Bool) → (x ≡ true → y ≡ true) → (y ≡ true → x ≡ true) → x ≡ y
same_flag true y one other = sym (one refl)
same_flag false true one other = other refl
same_flag false false one other = refl

row-joins : (pairs : List (List Bool)) (n p q : ℕ) → HasRows n pairs → p < q + 1 → has (get_or pairs q []) p ≡ joins pairs p q
row-joins pairs n p q rows within = sym (joins-le pairs p q (omega arith))

pub same_pairs : (n : ℕ) (xs ys : List (List Bool)) → HasRows n xs → HasRows n ys → ArePairsOf xs ys → ArePairsOf ys xs → xs ≡ ys
same_pairs n xs ys rows others there back =
    ext_get_or [] xs ys (rows.count ∙ sym others.count) (λ q within.
    let low : q < n = omega (arith, rows.count) in
    let len : length (get_or xs q []) ≡ length (get_or ys q []) = rows.each q low ∙ sym (others.each q low) in
    ext_get_or false (get_or xs q []) (get_or ys q []) len (λ p inside.
    let below : p < q + 1 = omega (arith, rows.each q low) in
    let one : has (get_or xs q []) p ≡ joins xs p q = row-joins xs n p q rows below in
    let other : has (get_or ys q []) p ≡ joins ys p q = row-joins ys n p q others below in
    one ∙ (same_flag (joins xs p q) (joins ys p q) (there p q) (back p q) ∙ sym other)))

-- ---- what an action makes possible
module _ (less more : ℕ → ℕ → Bool) (keeps : (p q : ℕ) → less p q ≡ true → more p q ≡ true) where
  pub joins_all-more : (atoms : List ℕ) (q : ℕ) → joins_all less atoms q ≡ true → joins_all more atoms q ≡ true
  joins_all-more atoms q all =
      list_all-from (λ p. more p q) atoms (λ p there. keeps p q (list_all-at (λ k. less k q) atoms all p there))

  pub may_apply-more : (act : Act) → may_apply less act ≡ true → may_apply more act ≡ true
  may_apply-more act all =
      list_all-from (joins_all more act.pre) act.pre
      (λ q there. joins_all-more act.pre q (list_all-at (joins_all less act.pre) act.pre all q there))

  pub may_follow-more : (act : Act) (q : ℕ) → may_follow less act q ≡ true → may_follow more act q ≡ true
  may_follow-more act q may = ⊎_elim
      (λ (added : lists act.add q ≡ true). or_left (lists act.add q) ((more q q && joins_all more act.pre q) && not (lists act.del q)) added)
      (λ (stays : ((less q q && joins_all less act.pre q) && not (lists act.del q)) ≡ true).
      let parts = and_parts (less q q && joins_all less act.pre q) (not (lists act.del q)) stays in
      let known = and_parts (less q q) (joins_all less act.pre q) parts.0 in
      or_right (lists act.add q) ((more q q && joins_all more act.pre q) && not (lists act.del q))
      (and_from (more q q && joins_all more act.pre q) (not (lists act.del q))
      (and_from (more q q) (joins_all more act.pre q) (keeps q q known.0) (joins_all-more act.pre q known.1)) parts.1))
      (or_cases (lists act.add q) ((less q q && joins_all less act.pre q) && not (lists act.del q)) may)

module _ (pair : ℕ → ℕ → Bool) (act : Act) where
  pub makes-from : (p q : ℕ) → may_apply pair act ≡ true → lists act.add p ≡ true → may_follow pair act q ≡ true →
      makes pair p q act ≡ true
  makes-from p q may added follows =
      and_from (may_apply pair act) ((lists act.add p && may_follow pair act q) || (lists act.add q && may_follow pair act p)) may
      (or_left (lists act.add p && may_follow pair act q) (lists act.add q && may_follow pair act p)
      (and_from (lists act.add p) (may_follow pair act q) added follows))

  pub record Made (p q : ℕ) : Type 0 where
    pub may : may_apply pair act ≡ true
    pub adds : lists act.add p ≡ true
    pub follows : may_follow pair act q ≡ true

  pub makes_cases : (p q : ℕ) → makes pair p q act ≡ true → Made p q ⊎ Made q p
  makes_cases p q makes_it =
      let parts = and_parts (may_apply pair act) ((lists act.add p && may_follow pair act q) || (lists act.add q && may_follow pair act p)) makes_it in
      ⊎_elim
      (λ (one : (lists act.add p && may_follow pair act q) ≡ true).
      let both = and_parts (lists act.add p) (may_follow pair act q) one in
      let found : Made p q ⊎ Made q p = inl (record { may = parts.0; adds = both.0; follows = both.1 }) in found)
      (λ (other : (lists act.add q && may_follow pair act p) ≡ true).
      let both = and_parts (lists act.add q) (may_follow pair act p) other in
      let found : Made p q ⊎ Made q p = inr (record { may = parts.0; adds = both.0; follows = both.1 }) in found)
      (or_cases (lists act.add p && may_follow pair act q) (lists act.add q && may_follow pair act p) parts.1)

  pub makes-swap : (p q : ℕ) → makes pair p q act ≡ true → makes pair q p act ≡ true
  makes-swap p q makes_it = ⊎_elim
      (λ (one : Made p q).
      and_from (may_apply pair act) ((lists act.add q && may_follow pair act p) || (lists act.add p && may_follow pair act q)) one.may
      (or_right (lists act.add q && may_follow pair act p) (lists act.add p && may_follow pair act q)
      (and_from (lists act.add p) (may_follow pair act q) one.adds one.follows)))
      (λ (other : Made q p). makes-from q p other.may other.adds other.follows)
      (makes_cases p q makes_it)

-- ---- the set of no pair
module _ (n : ℕ) where
  abbrev no_row : ℕ → List Bool
  no_row q = replicate (q + 1) false

  no_row_at : (q : ℕ) → q < n → get_or (map no_row (range_with_len 0 n)) q [] ≡ no_row q
  no_row_at q within = get_or-map-range_with_len no_row 0 n q q [] within (omega arith)

  pub rows-no_pairs : HasRows n (map no_row (range_with_len 0 n))
  rows-no_pairs = record {
    count = length-map-range_with_len no_row 0 n;
    each = λ q within. ap length (no_row_at q within) ∙ length-replicate (q + 1) false;
  }

  pub joins-no_pairs : (p q : ℕ) → joins (map no_row (range_with_len 0 n)) p q ≡ false
  joins-no_pairs p q = ⊎_elim
      (λ (within : max p q < n). ap (λ row. has row (min p q)) (no_row_at (max p q) within) ∙ has-replicate (max p q + 1) (min p q))
      (λ (past : n ≤ max p q).
      ap (λ row. has row (min p q)) (get_or_past (map no_row (range_with_len 0 n)) (max p q) [] (omega (arith, length-map-range_with_len no_row 0 n))))
      (cases_lt (max p q) n)

pub sized : (n : ℕ) (pairs : List (List Bool)) → HasRows n pairs → HasRows (length pairs) pairs
sized n pairs rows = subst (λ (k : ℕ). HasRows k pairs) (sym rows.count) rows
