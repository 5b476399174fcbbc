-- From one moment of the work list to a later one.
use Rattle.std.proofs.Common.{◌≡◌, ◌==◌, ◌⊎◌, ◌&&◌, ◌||◌, not, ℕ, ◌+◌, ◌<◌, ◌≤◌, ◌++◌, ◌∷◌, [], max, min, Bool, true, false, List, length, get_or, set, refl, sym, ap, ◌∙◌, subst, inl, inr, ⊎_elim, arith}
use Rattle.std.proofs.Math.Bool.{or-false}
use Rattle.std.proofs.lemmas.Bool.{cases_lt, cases_eq, both_ways, eqb-true, eq-eqb, and_parts, and_from, or_cases, or_left, or_right, or_parts, not-true, not_from_false}
use Rattle.std.proofs.lemmas.List.{length-set, length-append, get_or-set_same, get_or-set_other}
use Rattle.std.proofs.lemmas.List.Folds.{list_any-append}
use Rattle.wp_task.specs.declared.acts.Act.{Act}
use Rattle.wp_task.specs.Set.{has}
use Rattle.wp_mutex.specs.PossiblePairs.{joins, HasRows, ArePairsOf, IsStep}
use Rattle.wp_mutex.specs.WorkList.{Work, missing, is_pair, waits, is_settled, Grows, IsWithin, IsSound, HasMade}
use Rattle.wp_mutex.proofs.PairLemmas.{joins-swap, may_apply-more, may_follow-more}
use Rattle.wp_mutex.proofs.LeastClosed.{fewer_pairs}

-- ---- one after another
pub grows_none : (w : Work) → Grows w w
grows_none w = record {
  size = refl;
  rows = λ n rows. rows;
  more = λ p q there. there;
  settled = λ p q done. done;
  less = omega arith;
}

pub grows_on : (a b c : Work) → Grows a b → Grows b c → Grows a c
grows_on a b c one other =
    let first = one.less in
    let second = other.less in
    record {
      size = other.size ∙ one.size;
      rows = λ n rows. other.rows n (one.rows n rows);
      more = λ p q there. other.more p q (one.more p q there);
      settled = λ p q done. one.settled p q (other.settled p q done);
      less = omega (arith, first, second);
    }

pub within_none : (test : ℕ → ℕ → Bool) (pairs : List (List Bool)) → IsWithin test pairs pairs
within_none test pairs other old has_all = old

pub within_on : (test first : ℕ → ℕ → Bool) (a b c : List (List Bool)) → IsWithin test a b → IsWithin first b c →
    ((p q : ℕ) → first p q ≡ true → test p q ≡ true) → IsWithin test a c
within_on test first a b c one next sub other old has_all =
    next other (one other old has_all) (λ p q holds. has_all p q (sub p q holds))

pub sound_none : (acts : List Act) (pairs : List (List Bool)) → IsSound acts pairs pairs
sound_none acts pairs other closed old = old

pub sound_on : (acts : List Act) (a b c : List (List Bool)) → length b ≡ length a → IsSound acts a b → IsSound acts b c → IsSound acts a c
sound_on acts a b c size one next other closed old =
    next other (subst (λ (n : ℕ). IsStep acts n (joins other) other) (sym size) closed) (one other closed old)

pub made_kept : (act : Act) (test : ℕ → Bool) (a b c : List (List Bool)) → HasMade act test a b → ArePairsOf b c → HasMade act test a c
made_kept act test a b c made more p q low high holds may adds follows = more p q (made p q low high holds may adds follows)

pub made_later : (act : Act) (test : ℕ → Bool) (a b c : List (List Bool)) → length b ≡ length a → ArePairsOf a b →
    HasMade act test b c → HasMade act test a c
made_later act test a b c size more made p q low high holds may adds follows =
    let left : p < length b = omega arith in
    let right : q < length b = omega arith in
    made p q left right holds (may_apply-more (joins a) (joins b) more act may) adds (may_follow-more (joins a) (joins b) more act q follows)

-- ---- a pair is put in
pair_cases : (x y p q : ℕ) → is_pair x y (p, q) ≡ true → ((p ≡ x) × (q ≡ y)) ⊎ ((p ≡ y) × (q ≡ x))
pair_cases x y p q same = ⊎_elim
    (λ (one : ((p == x) && (q == y)) ≡ true).
    let parts = and_parts (p == x) (q == y) one in
    let left : p ≡ x = eqb-true p x parts.0 in
    let right : q ≡ y = eqb-true q y parts.1 in
    inl (left, right))
    (λ (other : ((p == y) && (q == x)) ≡ true).
    let parts = and_parts (p == y) (q == x) other in
    let left : p ≡ y = eqb-true p y parts.0 in
    let right : q ≡ x = eqb-true q x parts.1 in
    inr (left, right))
    (or_cases ((p == x) && (q == y)) ((p == y) && (q == x)) same)

is_straight : (x y p q : ℕ) → p ≡ x → q ≡ y → is_pair x y (p, q) ≡ true
is_straight x y p q left right =
    or_left ((p == x) && (q == y)) ((p == y) && (q == x)) (and_from (p == x) (q == y) (eq-eqb p x left) (eq-eqb q y right))

is_turned : (x y p q : ℕ) → p ≡ y → q ≡ x → is_pair x y (p, q) ≡ true
is_turned x y p q left right =
    or_right ((p == x) && (q == y)) ((p == y) && (q == x)) (and_from (p == y) (q == x) (eq-eqb p y left) (eq-eqb q x right))

-- the same pair where the greater and the lesser numbers are the same
pub is_same_pair : (x y p q : ℕ) → max x y ≡ max p q → min p q ≡ min x y → is_pair x y (p, q) ≡ true
is_same_pair x y p q high low = ⊎_elim
    (λ (less : p < q). ⊎_elim
    (λ (rises : x < y). is_straight x y p q (omega arith) (omega arith))
    (λ (falls : y ≤ x). is_turned x y p q (omega arith) (omega arith))
    (cases_lt x y))
    (λ (more : q ≤ p). ⊎_elim
    (λ (rises : x < y). is_turned x y p q (omega arith) (omega arith))
    (λ (falls : y ≤ x). is_straight x y p q (omega arith) (omega arith))
    (cases_lt x y))
    (cases_lt p q)

pub waits-push : (waiting : List (ℕ × ℕ)) (p q x y : ℕ) → waits (waiting ++ (p, q) ∷ []) x y ≡ (waits waiting x y || is_pair x y (p, q))
waits-push waiting p q x y =
    list_any-append (is_pair x y) waiting ((p, q) ∷ []) ∙ ap (λ b. waits waiting x y || b) (or-false (is_pair x y (p, q)))

module _ (xs : List (List Bool)) (p q : ℕ) (row : List Bool) (rows : HasRows (length xs) xs) (left : p < length xs) (right : q < length xs)
    (len : length row ≡ length (get_or xs (max p q) []))
    (flags : (k : ℕ) → has row k ≡ (has (get_or xs (max p q) []) k || (min p q == k))) where
  abbrev ys : List (List Bool)
  ys = set xs (max p q) row

  high : max p q < length xs
  high = omega arith

  at_row : get_or ys (max p q) [] ≡ row
  at_row = get_or-set_same xs (max p q) row [] high

  at_other : (k : ℕ) → (k ≡ max p q → ⊥) → get_or ys k [] ≡ get_or xs k []
  at_other k differs = get_or-set_other xs (max p q) k row [] differs

  rows_kept : (n : ℕ) → HasRows n xs → HasRows n ys
  rows_kept n before = record {
    count = length-set xs (max p q) row ∙ before.count;
    each = λ k within. ⊎_elim
        (λ (same : k ≡ max p q).
        ap (λ i. length (get_or ys i [])) same ∙ (ap length at_row ∙ (len ∙ (ap (λ i. length (get_or xs i [])) (sym same) ∙ before.each k within))))
        (λ (differs : k ≡ max p q → ⊥). ap length (at_other k differs) ∙ before.each k within)
        (cases_eq k (max p q));
  }

  more : ArePairsOf xs ys
  more x y there = ⊎_elim
      (λ (same : max x y ≡ max p q).
      let old : has (get_or xs (max p q) []) (min x y) ≡ true = ap (λ i. has (get_or xs i []) (min x y)) (sym same) ∙ there in
      ap (λ i. has (get_or ys i []) (min x y)) same
      ∙ (ap (λ r. has r (min x y)) at_row
      ∙ (flags (min x y) ∙ or_left (has (get_or xs (max p q) []) (min x y)) (min p q == min x y) old)))
      (λ (differs : max x y ≡ max p q → ⊥). ap (λ r. has r (min x y)) (at_other (max x y) differs) ∙ there)
      (cases_eq (max x y) (max p q))

  there : joins ys p q ≡ true
  there =
      ap (λ r. has r (min p q)) at_row
      ∙ (flags (min p q) ∙ or_right (has (get_or xs (max p q) []) (min p q)) (min p q == min p q) (eq-eqb (min p q) (min p q) refl))

  only : (x y : ℕ) → joins ys x y ≡ true → (joins xs x y ≡ true) ⊎ (is_pair x y (p, q) ≡ true)
  only x y now = ⊎_elim
      (λ (same : max x y ≡ max p q).
      let flag : has row (min x y) ≡ true =
      sym (ap (λ r. has r (min x y)) at_row) ∙ (sym (ap (λ i. has (get_or ys i []) (min x y)) same) ∙ now) in
      ⊎_elim
      (λ (old : has (get_or xs (max p q) []) (min x y) ≡ true).
      let found : (joins xs x y ≡ true) ⊎ (is_pair x y (p, q) ≡ true) = inl (ap (λ i. has (get_or xs i []) (min x y)) same ∙ old) in found)
      (λ (new : (min p q == min x y) ≡ true).
      let found : (joins xs x y ≡ true) ⊎ (is_pair x y (p, q) ≡ true) =
      inr (is_same_pair x y p q same (eqb-true (min p q) (min x y) new)) in found)
      (or_cases (has (get_or xs (max p q) []) (min x y)) (min p q == min x y) (sym (flags (min x y)) ∙ flag)))
      (λ (differs : max x y ≡ max p q → ⊥).
      let found : (joins xs x y ≡ true) ⊎ (is_pair x y (p, q) ≡ true) =
      inl (sym (ap (λ r. has r (min x y)) (at_other (max x y) differs)) ∙ now) in found)
      (cases_eq (max x y) (max p q))

  pub join_there : joins ys p q ≡ true
  join_there = there

  pub join_within : IsWithin (λ x y. (x == p) && (y == q)) xs ys
  join_within other old has_all x y now = ⊎_elim
      (λ (before : joins xs x y ≡ true). old x y before)
      (λ (new : is_pair x y (p, q) ≡ true).
      let known : joins other p q ≡ true = has_all p q (and_from (p == p) (q == q) (eq-eqb p p refl) (eq-eqb q q refl)) in
      ⊎_elim
      (λ (straight : (p ≡ x) × (q ≡ y)). (λ j. joins other (sym straight.0 j) (sym straight.1 j)) ∙ known)
      (λ (turned : (p ≡ y) × (q ≡ x)).
      joins-swap other x y ∙ ((λ j. joins other (sym turned.0 j) (sym turned.1 j)) ∙ known))
      (pair_cases x y p q new))
      (only x y now)

  module _ (waiting : List (ℕ × ℕ)) (absent : joins xs p q ≡ false) where
    abbrev old : Work
    old = record { pairs = xs; waiting = waiting }

    abbrev new : Work
    new = record { pairs = ys; waiting = waiting ++ (p, q) ∷ [] }

    settled : (x y : ℕ) → is_settled new x y ≡ true → is_settled old x y ≡ true
    settled x y done =
        let parts = and_parts (joins ys x y) (not (waits new.waiting x y)) done in
        let none = or_parts (waits waiting x y) (is_pair x y (p, q))
        (sym (waits-push waiting p q x y) ∙ not-true (waits new.waiting x y) parts.1) in
        ⊎_elim
        (λ (before : joins xs x y ≡ true).
        and_from (joins xs x y) (not (waits waiting x y)) before (not_from_false (waits waiting x y) none.0))
        (λ (same : is_pair x y (p, q) ≡ true). absurd (both_ways (is_pair x y (p, q)) none.1 same))
        (only x y parts.0)

    less : length new.waiting + missing ys ≤ length waiting + missing xs
    less =
        let longer : length (waiting ++ (p, q) ∷ []) ≡ length waiting + 1 = length-append waiting ((p, q) ∷ []) in
        ⊎_elim
        (λ (same : xs ≡ ys).
        absurd (both_ways (joins xs p q) absent (ap (λ (pairs : List (List Bool)). joins pairs p q) same ∙ there)))
        (λ (fewer : missing ys < missing xs). omega (arith, longer, fewer))
        (fewer_pairs (length xs) xs ys rows (rows_kept (length xs) rows) more)

    pub join_grows : Grows old new
    join_grows = record {
      size = length-set xs (max p q) row;
      rows = rows_kept;
      more = more;
      settled = settled;
      less = less;
    }

  pub join_rows : HasRows (length ys) ys
  join_rows = subst (λ (n : ℕ). HasRows n ys) (sym (length-set xs (max p q) row)) (rows_kept (length xs) rows)
