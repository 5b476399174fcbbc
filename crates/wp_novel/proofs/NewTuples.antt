-- From first arrivals to novelty.
use Rattle.std.proofs.Common.{◌≡◌, ◌⊎◌, ℕ, ◌+◌, ◌-◌, ◌^◌, ◌<◌, ◌≤◌, Bool, true, List, [], ◌∷◌, length, Some, refl, sym, ap, ◌∙◌, subst, inl, inr, ⊎_elim, arith}
use Rattle.std.specs.List.{Contains, All, list_all}
use Rattle.std.proofs.lemmas.Bool.{cases_order, and_parts, and_from}
use Rattle.std.proofs.lemmas.List.Elements.{All-nil, All-cons, All-head, All-tail}
use Rattle.wp_task.specs.Set.{has, IsIn}
use Rattle.wp_task.specs.Novelty.{Generated, IsNewAt, HasNovelty, novelty_of}
use Rattle.wp_task.proofs.NoveltyLemmas.{novelty_is_computed}
use Rattle.wp_tuples.specs.Placing.{HasPlace}
use Rattle.wp_novel.specs.declared.birth.Pair.{Pair}
use Rattle.wp_novel.specs.NoveltyTables.{HomeView, NoveltyTables, AreFilled, counters_of, is_same, home_of, first_at}
use Rattle.wp_novel.specs.StandsFor.{has_tuple, first_number, StandsFor}
use Rattle.wp_novel.specs.MarkedTuples.{AreCounted}
use Rattle.wp_novel.specs.Marks.{IsLeastSize}
use Rattle.wp_novel.proofs.AtomLemmas.{has_below}
use Rattle.wp_novel.proofs.FirstLemmas.{first_number_is_first}
use Rattle.wp_novel.proofs.PairLemmas.{same_counters, is_same_itself}

-- ---- tuples that are in a state
all_in : (state : List Bool) (tuple : List ℕ) → All (IsIn state) tuple → list_all (has state) tuple ≡ true
all_in state [] h = refl
all_in state (p ∷ tuple) h = and_from (has state p) (list_all (has state) tuple) (All-head (IsIn state) p tuple h) (all_in state tuple (All-tail (IsIn state) p tuple h))

all_from : (state : List Bool) (tuple : List ℕ) → list_all (has state) tuple ≡ true → All (IsIn state) tuple
all_from state [] h = All-nil (IsIn state)
all_from state (p ∷ tuple) h =
    let parts = and_parts (has state p) (list_all (has state) tuple) h in
    All-cons (IsIn state) p tuple parts.0 (all_from state tuple parts.1)

-- ---- births
-- where no lesser number is the first at a tuple of the state, the tuple is new
is_new : (births : List Generated) (x : Generated) (tuple : List ℕ) → list_all (has x.state) tuple ≡ true → x.number ≤ first_number births x.counters tuple →
    IsNewAt births x tuple
is_new births x tuple all late = record {
  holds = all_from x.state tuple all;
  new = λ y among less same there.
      let has_it : has_tuple x.counters tuple y ≡ true =
      and_from (is_same y.counters x.counters) (list_all (has y.state) tuple)
      (ap (λ (c : ℕ × ℕ). is_same c x.counters) same ∙ is_same_itself x.counters) (all_in y.state tuple there) in
      let least : first_number births x.counters tuple ≤ y.number = (first_number_is_first births x.counters tuple).least y among has_it in
      omega arith;
}

-- where a lesser number is, the tuple is not new
not_new : (births : List Generated) (x : Generated) (tuple : List ℕ) → x.number < 2 ^ 64 → first_number births x.counters tuple < x.number →
    ¬ (IsNewAt births x tuple)
not_new births x tuple word early at = ⊎_elim
    (λ (none : first_number births x.counters tuple ≡ 2 ^ 64 - 1). omega arith)
    (λ (some : (b : Generated) × Contains births b × (has_tuple x.counters tuple b ≡ true) × (b.number ≡ first_number births x.counters tuple)).
    let b : Generated = some.0 in
    let parts = and_parts (is_same b.counters x.counters) (list_all (has b.state) tuple) some.2 in
    let less : b.number < x.number = omega (arith, some.3) in
    at.new b some.1 less (same_counters b.counters x.counters parts.0) (all_from b.state tuple parts.1))
    (first_number_is_first births x.counters tuple).attained

-- ---- a tuple is as new in another order, and without an atom that it names twice
two_in : (state : List Bool) (p q : ℕ) → has state p ≡ true → has state q ≡ true → All (IsIn state) (p ∷ q ∷ [])
two_in state p q one other = All-cons (IsIn state) p (q ∷ []) one (All-cons (IsIn state) q [] other (All-nil (IsIn state)))

new_swapped : (nodes : List Generated) (x : Generated) (p q : ℕ) → IsNewAt nodes x (p ∷ q ∷ []) → IsNewAt nodes x (q ∷ p ∷ [])
new_swapped nodes x p q at = record {
  holds = swapped x.state p q at.holds;
  new = λ y among before same there. at.new y among before same (swapped y.state q p there);
}
  where
    swapped : (state : List Bool) (a b : ℕ) → All (IsIn state) (a ∷ b ∷ []) → All (IsIn state) (b ∷ a ∷ [])
    swapped state a b h =
        two_in state b a (All-head (IsIn state) b [] (All-tail (IsIn state) a (b ∷ []) h)) (All-head (IsIn state) a (b ∷ []) h)

new_once : (nodes : List Generated) (x : Generated) (p : ℕ) → IsNewAt nodes x (p ∷ p ∷ []) → IsNewAt nodes x (p ∷ [])
new_once nodes x p at = record {
  holds = All-tail (IsIn x.state) p (p ∷ []) at.holds;
  new = λ y among before same there.
      let h : has y.state p ≡ true = All-head (IsIn y.state) p [] there in at.new y among before same (two_in y.state p p h h);
}

-- ---- the rule
pub has_novelty : (t : NoveltyTables) (pair : Pair) (births : List Generated) (x : Generated) (home : HomeView) (w : ℕ) → AreFilled t → StandsFor t births →
    counters_of pair ≡ x.counters → home_of t.homes pair ≡ Some home → length x.state ≡ t.index.atoms → AreCounted t.index x.state → x.number < 2 ^ 64 → IsLeastSize t.index (first_at home) x.state x.number w →
    HasNovelty t.index.width births x w
has_novelty t pair births x home w filled stands counters found fits counted word size = record {
  range = size.range;
  least = by;
  attained = ⊎_elim
      (λ (last : w ≡ t.index.width + 1). inl last)
      (λ (some : (tuple : List ℕ) × HasPlace t.index tuple × (list_all (has x.state) tuple ≡ true) ×
      (length tuple ≡ w) × (x.number ≤ first_at home tuple)).
      let arrival : first_at home some.0 ≡ first_number births x.counters some.0 = stands.firsts pair home found some.0 some.1 ∙ ap (λ (c : ℕ × ℕ). first_number births c some.0) counters in
      let late : x.number ≤ first_number births x.counters some.0 = omega (arith, some.4) in
      let answer : (tuple : List ℕ) × (length tuple ≡ w) × IsNewAt births x tuple =
      (some.0, some.3, is_new births x some.0 some.2 late) in inr answer)
      size.attained;
}
  where
    old : (tuple : List ℕ) → HasPlace t.index tuple → length tuple < w → ¬ (IsNewAt births x tuple)
    old tuple h short at =
        let arrival : first_at home tuple ≡ first_number births x.counters tuple = stands.firsts pair home found tuple h ∙ ap (λ (c : ℕ × ℕ). first_number births c tuple) counters in
        let less : first_at home tuple < x.number = size.least tuple h (all_in x.state tuple at.holds) short in
        let early : first_number births x.counters tuple < x.number = omega arith in
        not_new births x tuple word early at

    within : (p : ℕ) → has x.state p ≡ true → p < t.index.atoms
    within p h = let less : p < length x.state = has_below x.state p h in omega arith

    one_old : (p : ℕ) → 1 < w → ¬ (IsNewAt births x (p ∷ []))
    one_old p short at = old (p ∷ []) (within p (All-head (IsIn x.state) p [] at.holds)) short at

    two_old : (p q : ℕ) → p < q → 2 < w → ¬ (IsNewAt births x (p ∷ q ∷ []))
    two_old p q less short at =
        let two : t.index.width ≡ 2 = omega (arith, size.range.1, filled.apart.width.1) in
        let p_in : has x.state p ≡ true = All-head (IsIn x.state) p (q ∷ []) at.holds in
        let q_in : has x.state q ≡ true = All-head (IsIn x.state) q [] (All-tail (IsIn x.state) p (q ∷ []) at.holds) in
        old (p ∷ q ∷ []) (two, (less, within q q_in, counted two p q less p_in q_in)) short at

    by : (tuple : List ℕ) → 1 ≤ length tuple → length tuple < w → ¬ (IsNewAt births x tuple)
    by [] some short at = absurd (omega arith)
    by (p ∷ []) some short at = one_old p short at
    by (p ∷ q ∷ []) some short at = ⊎_elim
        (λ (same : p ≡ q). one_old p (omega arith) (new_once births x p (subst (λ (k : ℕ). IsNewAt births x (p ∷ k ∷ [])) (sym same) at)))
        (λ (differ : (p < q) ⊎ (q < p)). ⊎_elim
        (λ (less : p < q). two_old p q less short at)
        (λ (more : q < p). two_old q p more short (new_swapped births x p q at))
        differ)
        (cases_order p q)
    by (p ∷ q ∷ r ∷ tuple) some short at = absurd (omega (arith, size.range.1, filled.apart.width.1))

pub novelty_is : (t : NoveltyTables) (pair : Pair) (births : List Generated) (x : Generated) (home : HomeView) (w : ℕ) → AreFilled t → StandsFor t births →
    counters_of pair ≡ x.counters → home_of t.homes pair ≡ Some home → length x.state ≡ t.index.atoms → AreCounted t.index x.state → x.number < 2 ^ 64 → IsLeastSize t.index (first_at home) x.state x.number w →
    w ≡ novelty_of t.index.width births x
novelty_is t pair births x home w filled stands counters found fits counted word size =
    (novelty_is_computed t.index.width births x w).0 (has_novelty t pair births x home w filled stands counters found fits counted word size)
