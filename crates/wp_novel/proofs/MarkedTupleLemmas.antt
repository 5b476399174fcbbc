-- The tuples of a birth that marks go through are those of its state that have a new atom.
use Rattle.std.proofs.Common.{◌≡◌, ◌⊎◌, ◌==◌, ◌&&◌, ◌||◌, ℕ, zero, suc, ◌+◌, ◌<◌, ◌≤◌, cond, not, Bool, true, false, List, [], ◌∷◌, ◌++◌, length, map, refl, sym, ap, ◌∙◌, subst, inl, inr, ⊎_elim, arith}
use Rattle.std.specs.List.{All, filter, list_all, list_any, range_with_len}
use Rattle.std.proofs.lemmas.Bool.{cases_Bool, cases_order, both_ways, eqb-true, eq-eqb, and_parts, and_from, lt-ltb, le-ltb}
use Rattle.std.proofs.lemmas.List.Elements.{All-nil, All-cons}
use Rattle.wp_task.specs.Set.{has, atoms_in}
use Rattle.wp_task.proofs.Members.{In, In-from_Contains, Contains-from_In, In-map, In-map_cases, In-filter, In-filter_cases, In-append_left, In-append_right, In-append_cases}
use Rattle.wp_tuples.specs.Placing.{Placing, HasPlace}
use Rattle.wp_novel.specs.Births.{BirthView, is_new}
use Rattle.wp_novel.specs.MarkedTuples.{pair_of, pairs_after, new_atoms, old_atoms, marked_tuples, AreCounted, MarkedTuplesAreNew}
use Rattle.wp_novel.proofs.AtomLemmas.{has_below, in_atoms, has_atoms}

-- ---- tests
pub and_true : (b : Bool) → (b && true) ≡ b
and_true true = refl
and_true false = refl

or_false : (b : Bool) → (b || false) ≡ b
or_false true = refl
or_false false = refl

pub not_true : (b : Bool) → not b ≡ true → b ≡ false
not_true true h = absurd (cc)
not_true false h = refl

not_from : (b : Bool) → b ≡ false → not b ≡ true
not_from b h = ap not h

or_cases : (a b : Bool) → (a || b) ≡ true → (a ≡ true) ⊎ (b ≡ true)
or_cases true b h = inl refl
or_cases false b h = inr h

pub all_of_pair : (state : List Bool) (p q : ℕ) → list_all (has state) (p ∷ q ∷ []) ≡ (has state p && has state q)
all_of_pair state p q = ap (λ b. has state p && b) (and_true (has state q))

-- ---- the atoms of a state
abbrev pub AreBelow : Placing → List Bool → Type 0
AreBelow places state = (p : ℕ) → has state p ≡ true → p < places.atoms

pub below_from : (places : Placing) (state : List Bool) → length state ≡ places.atoms → AreBelow places state
below_from places state size p h = let less : p < length state = has_below state p h in omega arith

-- ---- the pair of two atoms
pub pair_less : (p q : ℕ) → p < q → pair_of p q ≡ p ∷ q ∷ []
pair_less p q less = ap (λ b. cond b (p ∷ q ∷ []) (q ∷ p ∷ [])) (lt-ltb p q less)

pub pair_more : (p q : ℕ) → q < p → pair_of p q ≡ q ∷ p ∷ []
pair_more p q more = ap (λ b. cond b (p ∷ q ∷ []) (q ∷ p ∷ [])) (le-ltb p q (omega arith))

-- ---- lists that rise
abbrev Rises : List ℕ → Type 0
Rises [] = Unit {0}
Rises (q ∷ atoms) = ((x : ℕ) → In x atoms → q < x) × Rises atoms

range_from : (from count x : ℕ) → In x (range_with_len from count) → from ≤ x
range_from from zero x h = absurd h
range_from from (suc count) x h = ⊎_elim
    (λ (here : x ≡ from). omega arith)
    (λ (later : In x (range_with_len (from + 1) count)). let more : from + 1 ≤ x = range_from (from + 1) count x later in omega arith)
    h

range_rises : (from count : ℕ) → Rises (range_with_len from count)
range_rises from zero = tt
range_rises from (suc count) = (λ x later. let more : from + 1 ≤ x = range_from (from + 1) count x later in omega arith, range_rises (from + 1) count)

filter_rises : (t : ℕ → Bool) (xs : List ℕ) → Rises xs → Rises (filter t xs)
filter_rises t [] rises = tt
filter_rises t (x ∷ xs) rises = by (t x) (filter_rises t xs rises.1) where
  by : (b : Bool) → Rises (filter t xs) → Rises (cond b (x ∷ filter t xs) (filter t xs))
  by true rest = (λ y there. rises.0 y (In-filter_cases t xs y there).0, rest)
  by false rest = rest

-- ---- the pairs of atoms with those before them
with_before : (before new : List ℕ) (p q : ℕ) → In p before → In q new → In (pair_of p q) (pairs_after before new)
with_before before [] p q old there = absurd there
with_before before (x ∷ new) p q old there =
    let here = map (λ (a : ℕ). pair_of a x) before in
    let later = pairs_after (before ++ x ∷ []) new in
    ⊎_elim
    (λ (same : q ≡ x). In-append_left here later (pair_of p q)
    (subst (λ (y : ℕ). In (pair_of p q) (map (λ (a : ℕ). pair_of a y) before)) same (In-map (λ (a : ℕ). pair_of a q) before p old)))
    (λ (rest : In q new). In-append_right here later (pair_of p q) (with_before (before ++ x ∷ []) new p q (In-append_left before (x ∷ []) p old) rest))
    there

two_new : (before new : List ℕ) (p q : ℕ) → Rises new → In p new → In q new → p < q → In (pair_of p q) (pairs_after before new)
two_new before [] p q rises one other less = absurd one
two_new before (x ∷ new) p q rises one other less =
    let here = map (λ (a : ℕ). pair_of a x) before in
    let later = pairs_after (before ++ x ∷ []) new in
    ⊎_elim
    (λ (first : p ≡ x). ⊎_elim
    (λ (same : q ≡ x). absurd (omega arith))
    (λ (rest : In q new). In-append_right here later (pair_of p q)
    (with_before (before ++ x ∷ []) new p q (In-append_right before (x ∷ []) p (inl first)) rest))
    other)
    (λ (after : In p new). ⊎_elim
    (λ (same : q ≡ x). let wrong : x < p = rises.0 p after in absurd (omega arith))
    (λ (rest : In q new). In-append_right here later (pair_of p q) (two_new (before ++ x ∷ []) new p q rises.1 after rest less))
    other)
    one

abbrev IsPairOf : List ℕ → List ℕ → List ℕ → Type 0
IsPairOf before new u = (p q : ℕ) × (In p before ⊎ In p new) × In q new × ((p < q) ⊎ (q < p)) × (u ≡ pair_of p q)

pairs_are : (before new u : List ℕ) → Rises new → ((p q : ℕ) → In p before → In q new → (p < q) ⊎ (q < p)) → In u (pairs_after before new) →
    IsPairOf before new u
pairs_are before [] u rises apart there = absurd there
pairs_are before (x ∷ new) u rises apart there = ⊎_elim
    (λ (here : In u (map (λ (a : ℕ). pair_of a x) before)).
    let found : (p : ℕ) × In p before × (u ≡ pair_of p x) = In-map_cases (λ (a : ℕ). pair_of a x) before u here in
    let goal : IsPairOf before (x ∷ new) u = (found.0, x, inl found.1, inl refl, apart found.0 x found.1 (inl refl), found.2) in goal)
    (λ (later : In u (pairs_after (before ++ x ∷ []) new)).
    let rest : IsPairOf (before ++ x ∷ []) new u = pairs_are (before ++ x ∷ []) new u rises.1 (λ p q one other. ⊎_elim
    (λ (old : In p before). apart p q old (inr other))
    (λ (last : In p (x ∷ [])). ⊎_elim
    (λ (same : p ≡ x). let less : x < q = rises.0 q other in let order : p < q = omega arith in inl order)
    (λ (none : ⊥). absurd none)
    last)
    (In-append_cases before (x ∷ []) p one)) later in
    let one : In rest.0 before ⊎ In rest.0 (x ∷ new) = ⊎_elim
    (λ (seen : In rest.0 (before ++ x ∷ [])). ⊎_elim
    (λ (old : In rest.0 before). inl old)
    (λ (last : In rest.0 (x ∷ [])). inr (⊎_elim (λ (same : rest.0 ≡ x). inl same) (λ (none : ⊥). absurd none) last))
    (In-append_cases before (x ∷ []) rest.0 seen))
    (λ (mine : In rest.0 new). inr (inr mine))
    rest.2 in
    let goal : IsPairOf before (x ∷ new) u = (rest.0, rest.1, one, inr rest.3, rest.4, rest.5) in goal)
    (In-append_cases (map (λ (a : ℕ). pair_of a x) before) (pairs_after (before ++ x ∷ []) new) u there)

-- ---- the atoms of a birth
module _ (b : BirthView) where
  pub in_new : (p : ℕ) → has b.node.state p ≡ true → is_new b.fresh p ≡ true → In p (new_atoms b)
  in_new p there new = In-filter (is_new b.fresh) (atoms_in b.node.state) p (in_atoms b.node.state p there) new

  in_old : (p : ℕ) → has b.node.state p ≡ true → is_new b.fresh p ≡ false → In p (old_atoms b)
  in_old p there old = In-filter (λ (a : ℕ). not (is_new b.fresh a)) (atoms_in b.node.state) p (in_atoms b.node.state p there) (not_from (is_new b.fresh p) old)

  pub of_new : (p : ℕ) → In p (new_atoms b) → (has b.node.state p ≡ true) × (is_new b.fresh p ≡ true)
  of_new p h = let at = In-filter_cases (is_new b.fresh) (atoms_in b.node.state) p h in (has_atoms b.node.state p at.0, at.1)

  pub of_old : (p : ℕ) → In p (old_atoms b) → (has b.node.state p ≡ true) × (is_new b.fresh p ≡ false)
  of_old p h =
      let at = In-filter_cases (λ (a : ℕ). not (is_new b.fresh a)) (atoms_in b.node.state) p h in
      (has_atoms b.node.state p at.0, not_true (is_new b.fresh p) at.1)

  new_rises : Rises (new_atoms b)
  new_rises = filter_rises (is_new b.fresh) (atoms_in b.node.state) (filter_rises (has b.node.state) (range_with_len 0 (length b.node.state)) (range_rises 0 (length b.node.state)))

  old_apart : (p q : ℕ) → In p (old_atoms b) → In q (new_atoms b) → (p < q) ⊎ (q < p)
  old_apart p q old new = ⊎_elim
      (λ (same : p ≡ q). absurd (both_ways (is_new b.fresh q) (ap (is_new b.fresh) (sym same) ∙ (of_old p old).1) (of_new q new).1))
      (λ (differ : (p < q) ⊎ (q < p)). differ)
      (cases_order p q)

  pub single_listed : (p : ℕ) → has b.node.state p ≡ true → is_new b.fresh p ≡ true → In (p ∷ []) (map (λ (a : ℕ). a ∷ []) (new_atoms b))
  single_listed p there new = In-map (λ (a : ℕ). a ∷ []) (new_atoms b) p (in_new p there new)

  pub pair_listed : (p q : ℕ) → p < q → has b.node.state p ≡ true → has b.node.state q ≡ true → (is_new b.fresh p ≡ true) ⊎ (is_new b.fresh q ≡ true) →
      In (p ∷ q ∷ []) (pairs_after (old_atoms b) (new_atoms b))
  pair_listed p q less one other new = ⊎_elim
      (λ (first : is_new b.fresh p ≡ true). ⊎_elim
      (λ (both : is_new b.fresh q ≡ true).
      subst (λ (u : List ℕ). In u (pairs_after (old_atoms b) (new_atoms b))) (pair_less p q less)
      (two_new (old_atoms b) (new_atoms b) p q new_rises (in_new p one first) (in_new q other both) less))
      (λ (old : is_new b.fresh q ≡ false).
      subst (λ (u : List ℕ). In u (pairs_after (old_atoms b) (new_atoms b))) (pair_more q p less)
      (with_before (old_atoms b) (new_atoms b) q p (in_old q other old) (in_new p one first)))
      (cases_Bool (is_new b.fresh q)))
      (λ (old : is_new b.fresh p ≡ false).
      let second : is_new b.fresh q ≡ true = ⊎_elim
      (λ (wrong : is_new b.fresh p ≡ true). absurd (both_ways (is_new b.fresh p) old wrong))
      (λ (h : is_new b.fresh q ≡ true). h)
      new in
      subst (λ (u : List ℕ). In u (pairs_after (old_atoms b) (new_atoms b))) (pair_less p q less)
      (with_before (old_atoms b) (new_atoms b) p q (in_old p one old) (in_new q other second)))
      (cases_Bool (is_new b.fresh p))

  -- ---- what is listed
  module _ (places : Placing) (size : AreBelow places b.node.state) (counted : AreCounted places b.node.state) where
    abbrev pub IsNewTuple : List ℕ → Type 0
    IsNewTuple u = HasPlace places u × (list_all (has b.node.state) u ≡ true) × (list_any (is_new b.fresh) u ≡ true)

    pub single_is : (u : List ℕ) → In u (map (λ (a : ℕ). a ∷ []) (new_atoms b)) → (p : ℕ) × (u ≡ p ∷ []) × IsNewTuple u
    single_is u h =
        let found : (p : ℕ) × In p (new_atoms b) × (u ≡ p ∷ []) = In-map_cases (λ (a : ℕ). a ∷ []) (new_atoms b) u h in
        let at = of_new found.0 found.1 in
        let below : found.0 < places.atoms = size found.0 at.0 in
        let new : IsNewTuple (found.0 ∷ []) = (below, and_true (has b.node.state found.0) ∙ at.0, or_false (is_new b.fresh found.0) ∙ at.1) in
        (found.0, found.2, subst IsNewTuple (sym found.2) new)

    new_pair : (two : places.width ≡ 2) (p q : ℕ) → p < q → has b.node.state p ≡ true → has b.node.state q ≡ true →
        (is_new b.fresh p ≡ true) ⊎ (is_new b.fresh q ≡ true) → IsNewTuple (p ∷ q ∷ [])
    new_pair two p q less one other new =
        let below : q < places.atoms = size q other in
        let any : list_any (is_new b.fresh) (p ∷ q ∷ []) ≡ true = ⊎_elim
        (λ (h : is_new b.fresh p ≡ true). ap (λ x. x || (is_new b.fresh q || false)) h)
        (λ (h : is_new b.fresh q ≡ true). ap (λ x. is_new b.fresh p || (x || false)) h ∙ last (is_new b.fresh p))
        new in
        ((two, (less, below, counted two p q less one other)), all_of_pair b.node.state p q ∙ and_from (has b.node.state p) (has b.node.state q) one other, any)
      where
        last : (x : Bool) → (x || true) ≡ true
        last true = refl
        last false = refl

    pub pair_is : (two : places.width ≡ 2) (u : List ℕ) → In u (pairs_after (old_atoms b) (new_atoms b)) → (length u ≡ 2) × IsNewTuple u
    pair_is two u h =
        let found : IsPairOf (old_atoms b) (new_atoms b) u = pairs_are (old_atoms b) (new_atoms b) u new_rises old_apart h in
        let p = found.0 in
        let q = found.1 in
        let second = of_new q found.3 in
        let first : has b.node.state p ≡ true = ⊎_elim (λ (old : In p (old_atoms b)). (of_old p old).0) (λ (new : In p (new_atoms b)). (of_new p new).0) found.2 in
        let Goal : List ℕ → Type 0 = λ (t : List ℕ). (length t ≡ 2) × IsNewTuple t in
        ⊎_elim
        (λ (less : p < q). subst Goal (sym (found.5 ∙ pair_less p q less)) (refl, new_pair two p q less first second.0 (inr second.1)))
        (λ (more : q < p). subst Goal (sym (found.5 ∙ pair_more p q more)) (refl, new_pair two q p more second.0 first (inl second.1)))
        found.4

    pub listed_are : (u : List ℕ) → In u (marked_tuples places.width b) → IsNewTuple u
    listed_are u h = ⊎_elim
        (λ (single : In u (map (λ (a : ℕ). a ∷ []) (new_atoms b))). (single_is u single).2)
        (λ (pair : In u (cond (places.width == 2) (pairs_after (old_atoms b) (new_atoms b)) [])). by (places.width == 2) refl pair)
        (In-append_cases (map (λ (a : ℕ). a ∷ []) (new_atoms b)) (cond (places.width == 2) (pairs_after (old_atoms b) (new_atoms b)) []) u h)
      where
        by : (c : Bool) → (places.width == 2) ≡ c → In u (cond c (pairs_after (old_atoms b) (new_atoms b)) []) → IsNewTuple u
        by true is pair = (pair_is (eqb-true places.width 2 is) u pair).1
        by false is pair = absurd pair

    pub to_listed : (u : List ℕ) → IsNewTuple u → In u (marked_tuples places.width b)
    to_listed [] h = absurd h.0
    to_listed (p ∷ []) h =
        In-append_left (map (λ (a : ℕ). a ∷ []) (new_atoms b)) (cond (places.width == 2) (pairs_after (old_atoms b) (new_atoms b)) []) (p ∷ [])
        (single_listed p (sym (and_true (has b.node.state p)) ∙ h.1) (sym (or_false (is_new b.fresh p)) ∙ h.2))
    to_listed (p ∷ q ∷ []) h =
        let two : (places.width == 2) ≡ true = eq-eqb places.width 2 h.0.0 in
        let parts = and_parts (has b.node.state p) (has b.node.state q) (sym (all_of_pair b.node.state p q) ∙ h.1) in
        let new : (is_new b.fresh p ≡ true) ⊎ (is_new b.fresh q ≡ true) =
        or_cases (is_new b.fresh p) (is_new b.fresh q) (ap (λ x. is_new b.fresh p || x) (sym (or_false (is_new b.fresh q))) ∙ h.2) in
        In-append_right (map (λ (a : ℕ). a ∷ []) (new_atoms b)) (cond (places.width == 2) (pairs_after (old_atoms b) (new_atoms b)) []) (p ∷ q ∷ [])
        (subst (λ (c : Bool). In (p ∷ q ∷ []) (cond c (pairs_after (old_atoms b) (new_atoms b)) [])) (sym two)
        (pair_listed p q h.0.1.0 parts.0 parts.1 new))
    to_listed (p ∷ q ∷ r ∷ u) h = absurd h.0

-- what holds of each tuple of a list
all_from : (P : List ℕ → Type 0) (us : List (List ℕ)) → ((u : List ℕ) → In u us → P u) → All P us
all_from P [] each = All-nil P
all_from P (u ∷ us) each = All-cons P u us (each u (inl refl)) (all_from P us (λ v later. each v (inr later)))

pub marked_have_places : (places : Placing) (b : BirthView) → AreBelow places b.node.state → AreCounted places b.node.state →
    All (HasPlace places) (marked_tuples places.width b)
marked_have_places places b size counted = all_from (HasPlace places) (marked_tuples places.width b) (λ u among. (listed_are b places size counted u among).0)

pub marked_in_state : (places : Placing) (b : BirthView) → AreBelow places b.node.state → AreCounted places b.node.state →
    All (λ u. list_all (has b.node.state) u ≡ true) (marked_tuples places.width b)
marked_in_state places b size counted = all_from (λ u. list_all (has b.node.state) u ≡ true) (marked_tuples places.width b) (λ u among. (listed_are b places size counted u among).1)

-- ---- the law
pub marked_tuples_new : MarkedTuplesAreNew
marked_tuples_new places b tuple apart size counted = (
  λ h. listed_are b places (below_from places b.node.state size) counted tuple (In-from_Contains tuple (marked_tuples places.width b) h),
  λ h. Contains-from_In tuple (marked_tuples places.width b) (to_listed b places (below_from places b.node.state size) counted tuple h),
)
