-- What marks leave at the places of tuples.
use Rattle.std.proofs.Common.{◌≡◌, ◌==◌, ◌&&◌, ◌||◌, ℕ, ◌-◌, ◌^◌, ◌≤◌, min, cond, Bool, true, false, List, [], ◌∷◌, length, refl, sym, ap, ◌∙◌, ⊎_elim, arith}
use Rattle.std.specs.List.{list_all, list_any, All}
use Rattle.std.proofs.lemmas.Bool.{cases_Bool, eq-eqb, eqb-true, both_ways, false_from_ne_true, and_parts, and_from}
use Rattle.std.proofs.lemmas.List.Elements.{All-head, All-tail}
use Rattle.wp_task.specs.Set.{has}
use Rattle.wp_task.proofs.Members.{list_any-from, list_any-at}
use Rattle.wp_tuples.specs.Placing.{Placing, HasPlace, place_in, AreApart}
use Rattle.wp_arrive.specs.FirstArrival.{first}
use Rattle.wp_arrive.proofs.Firsts.{first_le, first_append}
use Rattle.wp_novel.specs.Births.{BirthView, is_new, nodes_of}
use Rattle.wp_novel.specs.MarkedTuples.{marked_tuples, AreCounted}
use Rattle.wp_novel.specs.NoveltyTables.{is_same}
use Rattle.wp_novel.specs.StandsFor.{first_number}
use Rattle.wp_novel.specs.Marks.{marks_at, birth_marks, marks_for}
use Rattle.wp_novel.proofs.MarkedTupleLemmas.{AreBelow, listed_are, to_listed}

-- the first arrival at a place of a number that is marked at some tuples
first-marks_at : (places : Placing) (number : ℕ) (tuples : List (List ℕ)) (t : ℕ) → number ≤ 2 ^ 64 - 1 →
    first (marks_at places number tuples) t ≡ cond (list_any (λ u. place_in places u == t) tuples) number (2 ^ 64 - 1)
first-marks_at places number [] t low = refl
first-marks_at places number (u ∷ tuples) t low =
    ap (λ n. cond (place_in places u == t) (min number n) n) (first-marks_at places number tuples t low)
    ∙ out (place_in places u == t) (list_any (λ v. place_in places v == t) tuples)
  where
    out : (b c : Bool) → cond b (min number (cond c number (2 ^ 64 - 1))) (cond c number (2 ^ 64 - 1)) ≡ cond (b || c) number (2 ^ 64 - 1)
    out true true = omega arith
    out true false = omega arith
    out false true = refl
    out false false = refl

module _ (places : Placing) (apart : AreApart places) where
  -- whether a birth is marked at a tuple
  abbrev is_marked : BirthView → List ℕ → Bool
  is_marked b tuple = list_all (has b.node.state) tuple && list_any (is_new b.fresh) tuple

  same_test : (b : BirthView) (tuple : List ℕ) → AreBelow places b.node.state → AreCounted places b.node.state → HasPlace places tuple →
      list_any (λ u. place_in places u == place_in places tuple) (marked_tuples places.width b) ≡ is_marked b tuple
  same_test b tuple size counted place = ⊎_elim
      (λ (passes : is_marked b tuple ≡ true).
      let parts = and_parts (list_all (has b.node.state) tuple) (list_any (is_new b.fresh) tuple) passes in
      list_any-from (λ u. place_in places u == place_in places tuple) (marked_tuples places.width b) tuple
      (to_listed b places size counted tuple (place, parts.0, parts.1)) (eq-eqb (place_in places tuple) (place_in places tuple) refl)
      ∙ sym passes)
      (λ (fails : is_marked b tuple ≡ false).
      false_from_ne_true (list_any (λ u. place_in places u == place_in places tuple) (marked_tuples places.width b)) (λ some.
      let found = list_any-at (λ u. place_in places u == place_in places tuple) (marked_tuples places.width b) some in
      let listed = listed_are b places size counted found.0 found.1 in
      let same : found.0 ≡ tuple = apart.apart found.0 tuple listed.0 place (eqb-true (place_in places found.0) (place_in places tuple) found.2) in
      both_ways (is_marked b tuple) fails (ap (is_marked b) (sym same) ∙ and_from (list_all (has b.node.state) found.0) (list_any (is_new b.fresh) found.0) listed.1 listed.2))
      ∙ sym fails)
      (cases_Bool (is_marked b tuple))

  -- the first arrival of a birth's marks at the place of a tuple
  first_of_birth : (b : BirthView) (tuple : List ℕ) → AreBelow places b.node.state → AreCounted places b.node.state → HasPlace places tuple →
      b.node.number ≤ 2 ^ 64 - 1 → first (marks_at places b.node.number (marked_tuples places.width b)) (place_in places tuple) ≡ cond (is_marked b tuple) b.node.number (2 ^ 64 - 1)
  first_of_birth b tuple size counted place low =
      first-marks_at places b.node.number (marked_tuples places.width b) (place_in places tuple) low
      ∙ ap (λ c. cond c b.node.number (2 ^ 64 - 1)) (same_test b tuple size counted place)

  -- where the birth has the tuple, and no new atom of it, a number up to its own was there before
  abbrev pub IsNoEarlier : ℕ × ℕ → List ℕ → ℕ → BirthView → Type 0
  IsNoEarlier counters tuple m b =
      is_same b.node.counters counters ≡ true → list_all (has b.node.state) tuple ≡ true → list_any (is_new b.fresh) tuple ≡ false → m ≤ b.node.number

  pub record CanCount (b : BirthView) : Type 0 where
    pub size : AreBelow places b.node.state
    pub counted : AreCounted places b.node.state
    pub low : b.node.number ≤ 2 ^ 64 - 1

  -- what holds of a birth that has the counters
  abbrev pub IsOf : ℕ × ℕ → (BirthView → Type 0) → BirthView → Type 0
  IsOf counters P b = is_same b.node.counters counters ≡ true → P b

  -- with the first arrival before, that of the marks of births is the number of the first birth that has the tuple
  pub first_of_births : (births : List BirthView) (counters : ℕ × ℕ) (tuple : List ℕ) (m : ℕ) → HasPlace places tuple → All (IsOf counters CanCount) births →
      All (IsNoEarlier counters tuple m) births →
      min m (first (marks_for places counters births) (place_in places tuple)) ≡ min m (first_number (nodes_of births) counters tuple)
  first_of_births [] counters tuple m place can later = refl
  first_of_births (b ∷ births) counters tuple m place can later =
      let first_can = All-head (IsOf counters CanCount) b births can in
      ap (λ n. min m n) (first_append (birth_marks places counters b) (marks_for places counters births) (place_in places tuple))
      ∙ by (is_same b.node.counters counters) (list_all (has b.node.state) tuple) (list_any (is_new b.fresh) tuple)
      (λ same. let h : CanCount b = first_can same in first_of_birth b tuple h.size h.counted place h.low)
      (All-head (IsNoEarlier counters tuple m) b births later)
      (first_of_births births counters tuple m place (All-tail (IsOf counters CanCount) b births can) (All-tail (IsNoEarlier counters tuple m) b births later))
      (first_le (marks_for places counters births) (place_in places tuple))
    where
      by : (s a n : Bool) → (s ≡ true → first (marks_at places b.node.number (marked_tuples places.width b)) (place_in places tuple) ≡ cond (a && n) b.node.number (2 ^ 64 - 1)) →
          (s ≡ true → a ≡ true → n ≡ false → m ≤ b.node.number) →
          min m (first (marks_for places counters births) (place_in places tuple)) ≡ min m (first_number (nodes_of births) counters tuple) →
          first (marks_for places counters births) (place_in places tuple) ≤ 2 ^ 64 - 1 →
          min m (min (first (cond s (marks_at places b.node.number (marked_tuples places.width b)) []) (place_in places tuple)) (first (marks_for places counters births) (place_in places tuple)))
          ≡ min m (cond (s && a) (min b.node.number (first_number (nodes_of births) counters tuple)) (first_number (nodes_of births) counters tuple))
      by true true true mine early rest most = omega (arith, mine refl, rest, most)
      by true true false mine early rest most = let m_low : m ≤ b.node.number = early refl refl refl in omega (arith, mine refl, rest, most)
      by true false n mine early rest most = omega (arith, mine refl, rest, most)
      by false a n mine early rest most = omega (arith, rest, most)
