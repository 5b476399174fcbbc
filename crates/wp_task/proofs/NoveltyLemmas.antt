-- The computed novelty is the one that the relation holds of.
use Rattle.std.proofs.Common.{◌≡◌, ◌⊎◌, ◌==◌, ◌&&◌, not, ℕ, zero, suc, ◌+◌, ◌-◌, ◌<◌, ◌≤◌, Bool, true, false, List, [], ◌∷◌, length, map, get_or, eqb, nat_lt, refl, sym, ap, ◌∙◌, subst, inl, inr, ⊎_elim, arith}
use Rattle.std.specs.List.{All, filter, list_all, position_or_len, range_with_len}
use Rattle.std.specs.List.Sorted.{IsStrictlyIncreasing}
use Rattle.std.proofs.lemmas.Bool.{cases_Bool, cases_lt, cases_order, and_parts, and_from, cond-true, cond-false, both_ways, false_from_ne_true, not-true, not_from_false, eqb-true, eq-eqb, ne_eqb, ltb-true, lt-ltb}
use Rattle.std.proofs.lemmas.Cmp.{nat_eq_equiv}
use Rattle.std.proofs.lemmas.List.{get_or_past}
use Rattle.std.proofs.lemmas.List.Elements.{All-contains, Contains-get_or}
use Rattle.std.proofs.lemmas.List.FromFn.{get_or-range_with_len, length-range_with_len}
use Rattle.std.proofs.lemmas.List.Kept.{AllPairs-from_increasing, IsStrictlyIncreasing-filter}
use Rattle.std.proofs.lemmas.List.Sums.{passes_at_first, fails_before_first, prefix_len-le-length}
use Rattle.std.proofs.lemmas.Map.Keys.{IsDistinct-from_apart}
use Rattle.std.proofs.lemmas.Map.Made.{length-le_from_is_member}
use Rattle.wp_task.specs.Set.{has, IsIn, lists, atoms_in}
use Rattle.wp_task.specs.Novelty.{Generated, IsNewAt, HasNovelty, sets_of, is_earlier, is_new, has_new, novelty_of, NoveltyIsComputed}
use Rattle.wp_task.proofs.Members.{In, In-at, In-from_Contains, Contains-from_In, list_all-at, list_all-from, list_any-at, list_any-from, In-filter, In-filter_cases, In-map, In-map_cases, In-append_left, In-append_right, In-append_cases}

-- ---- the sets of i atoms
length-set : (i : ℕ) (atoms : List ℕ) (set : List ℕ) → In set (sets_of i atoms) → length set ≡ i
length-set zero atoms set h = ⊎_elim (λ (same : set ≡ []). ap length same) (λ (none : ⊥). absurd none) h
length-set (suc i) [] set h = absurd h
length-set (suc i) (p ∷ atoms) set h = ⊎_elim
    (λ (first : In set (map (λ s. p ∷ s) (sets_of i atoms))).
    let rest : (s : List ℕ) × In s (sets_of i atoms) × (set ≡ p ∷ s) = In-map_cases (λ s. p ∷ s) (sets_of i atoms) set first in
    ap length rest.2 ∙ ap suc (length-set i atoms rest.0 rest.1))
    (λ (later : In set (sets_of (suc i) atoms)). length-set (suc i) atoms set later)
    (In-append_cases (map (λ s. p ∷ s) (sets_of i atoms)) (sets_of (suc i) atoms) set h)

members_of_set : (i : ℕ) (atoms : List ℕ) (set : List ℕ) → In set (sets_of i atoms) → (q : ℕ) → In q set → In q atoms
members_of_set zero atoms set h q there = ⊎_elim
    (λ (same : set ≡ []). absurd (subst (λ (l : List ℕ). In q l) same there))
    (λ (none : ⊥). absurd none) h
members_of_set (suc i) [] set h q there = absurd h
members_of_set (suc i) (p ∷ atoms) set h q there = ⊎_elim
    (λ (first : In set (map (λ s. p ∷ s) (sets_of i atoms))).
    let rest : (s : List ℕ) × In s (sets_of i atoms) × (set ≡ p ∷ s) = In-map_cases (λ s. p ∷ s) (sets_of i atoms) set first in
    let here : In q (p ∷ rest.0) = subst (λ (l : List ℕ). In q l) rest.2 there in
    ⊎_elim
    (λ (same : q ≡ p). let found : In q (p ∷ atoms) = inl same in found)
    (λ (then : In q rest.0). let found : In q (p ∷ atoms) = inr (members_of_set i atoms rest.0 rest.1 q then) in found)
    here)
    (λ (later : In set (sets_of (suc i) atoms)).
    let found : In q (p ∷ atoms) = inr (members_of_set (suc i) atoms set later q there) in found)
    (In-append_cases (map (λ s. p ∷ s) (sets_of i atoms)) (sets_of (suc i) atoms) set h)

sets_of-more : (i p : ℕ) (atoms set : List ℕ) → In set (sets_of i atoms) → In set (sets_of i (p ∷ atoms))
sets_of-more zero p atoms set h = h
sets_of-more (suc i) p atoms set h = In-append_right (map (λ s. p ∷ s) (sets_of i atoms)) (sets_of (suc i) atoms) set h

-- what a test keeps of the atoms is one of their sets
sets_of-filter : (t : ℕ → Bool) (atoms : List ℕ) → In (filter t atoms) (sets_of (length (filter t atoms)) atoms)
sets_of-filter t [] = inl refl
sets_of-filter t (p ∷ atoms) = ⊎_elim
    (λ (keeps : t p ≡ true).
    let P : List ℕ → Type 0 = λ l. In l (sets_of (length l) (p ∷ atoms)) in
    subst P (sym (cond-true (t p) (p ∷ filter t atoms) (filter t atoms) keeps))
    (In-append_left (map (λ s. p ∷ s) (sets_of (length (filter t atoms)) atoms)) (sets_of (suc (length (filter t atoms))) atoms) (p ∷ filter t atoms)
    (In-map (λ s. p ∷ s) (sets_of (length (filter t atoms)) atoms) (filter t atoms) (sets_of-filter t atoms))))
    (λ (drops : t p ≡ false).
    let P : List ℕ → Type 0 = λ l. In l (sets_of (length l) (p ∷ atoms)) in
    subst P (sym (cond-false (t p) (p ∷ filter t atoms) (filter t atoms) drops))
    (sets_of-more (length (filter t atoms)) p atoms (filter t atoms) (sets_of-filter t atoms)))
    (cases_Bool (t p))

-- ---- the atoms of a state
all_in : (state : List Bool) (tuple : List ℕ) → All (IsIn state) tuple → (q : ℕ) → In q tuple → has state q ≡ true
all_in state tuple all q there = All-contains (IsIn state) tuple q all (Contains-from_In q tuple there)

all_in-from : (state : List Bool) (tuple : List ℕ) → ((q : ℕ) → In q tuple → has state q ≡ true) → All (IsIn state) tuple
all_in-from state tuple each = λ k d within.
    each (get_or tuple k d) (In-from_Contains (get_or tuple k d) tuple (Contains-get_or tuple k d within))

in_range : (n q : ℕ) → q < n → In q (range_with_len 0 n)
in_range n q below =
    let place : get_or (range_with_len 0 n) q q ≡ q = get_or-range_with_len 0 n q q below ∙ (let e : 0 + q ≡ q = omega arith in e) in
    In-at q (range_with_len 0 n) q (omega (arith, length-range_with_len 0 n)) place

has_below : (state : List Bool) (q : ℕ) → has state q ≡ true → q < length state
has_below state q there = ⊎_elim
    (λ (below : q < length state). below)
    (λ (past : length state ≤ q). absurd (both_ways (has state q) (get_or_past state q false past) there))
    (cases_lt q (length state))

in_atoms : (state : List Bool) (q : ℕ) → has state q ≡ true → In q (atoms_in state)
in_atoms state q there = In-filter (has state) (range_with_len 0 (length state)) q (in_range (length state) q (has_below state q there)) there

has_atoms : (state : List Bool) (q : ℕ) → In q (atoms_in state) → has state q ≡ true
has_atoms state q there = (In-filter_cases (has state) (range_with_len 0 (length state)) q there).1

range_rises : (n : ℕ) → IsStrictlyIncreasing (range_with_len 0 n)
range_rises n = λ k within.
    let short : k + 1 < n = omega (arith, length-range_with_len 0 n) in
    let here : get_or (range_with_len 0 n) k 0 ≡ 0 + k = get_or-range_with_len 0 n k 0 (omega arith) in
    let next : get_or (range_with_len 0 n) (k + 1) 0 ≡ 0 + (k + 1) = get_or-range_with_len 0 n (k + 1) 0 short in
    omega arith

-- rising numbers that are all in a list are not more than it
rising_few : (xs ys : List ℕ) → IsStrictlyIncreasing xs → ((q : ℕ) → In q xs → In q ys) → length xs ≤ length ys
rising_few xs ys rising among =
    length-le_from_is_member nat_eq_equiv xs ys
    (IsDistinct-from_apart eqb xs (λ i j d before within. ne_eqb (get_or xs i d) (get_or xs j d)
    (λ (same : get_or xs i d ≡ get_or xs j d). let order = AllPairs-from_increasing xs rising i j d before within in omega arith)))
    (λ q is_there.
    let found : (x : ℕ) × In x xs × (eqb q x ≡ true) = list_any-at (eqb q) xs is_there in
    list_any-from (eqb q) ys found.0 (among found.0 found.1) found.2)

some_member : (xs : List ℕ) (q : ℕ) → In q xs → 1 ≤ length xs
some_member [] q there = absurd there
some_member (x ∷ xs) q there = omega arith

-- ---- earlier nodes
earlier_parts : (x y : Generated) → is_earlier x y ≡ true → (y.number < x.number) × (y.counters ≡ x.counters)
earlier_parts x y earlier =
    let parts = and_parts (nat_lt y.number x.number) ((y.counters.0 == x.counters.0) && (y.counters.1 == x.counters.1)) earlier in
    let counters = and_parts (y.counters.0 == x.counters.0) (y.counters.1 == x.counters.1) parts.1 in
    let g : y.counters.0 ≡ x.counters.0 = eqb-true y.counters.0 x.counters.0 counters.0 in
    let r : y.counters.1 ≡ x.counters.1 = eqb-true y.counters.1 x.counters.1 counters.1 in
    (ltb-true y.number x.number parts.0, λ j. (g j, r j))

earlier_from : (x y : Generated) → y.number < x.number → y.counters ≡ x.counters → is_earlier x y ≡ true
earlier_from x y before same =
    and_from (nat_lt y.number x.number) ((y.counters.0 == x.counters.0) && (y.counters.1 == x.counters.1))
    (lt-ltb y.number x.number before)
    (and_from (y.counters.0 == x.counters.0) (y.counters.1 == x.counters.1)
    (eq-eqb y.counters.0 x.counters.0 (ap (λ (c : ℕ × ℕ). c.0) same))
    (eq-eqb y.counters.1 x.counters.1 (ap (λ (c : ℕ × ℕ). c.1) same)))

-- ---- the test of a size, and the relation at that size
has_new-gives : (nodes : List Generated) (x : Generated) (i : ℕ) → has_new nodes x i ≡ true →
    (tuple : List ℕ) × (length tuple ≡ i) × IsNewAt nodes x tuple
has_new-gives nodes x i some =
    let found : (set : List ℕ) × In set (sets_of i (atoms_in x.state)) × (is_new nodes x set ≡ true) =
    list_any-at (is_new nodes x) (sets_of i (atoms_in x.state)) some in
    let set = found.0 in
    let at : IsNewAt nodes x set = record {
      holds = all_in-from x.state set (λ q there. has_atoms x.state q (members_of_set i (atoms_in x.state) set found.1 q there));
      new = λ y among before same all.
          both_ways (list_all (has y.state) set)
          (not-true (list_all (has y.state) set)
          (list_all-at (λ (z : Generated). not (list_all (has z.state) set)) (filter (is_earlier x) nodes) found.2 y
          (In-filter (is_earlier x) nodes y (In-from_Contains y nodes among) (earlier_from x y before same))))
          (list_all-from (has y.state) set (all_in y.state set all));
    } in
    let answer : (tuple : List ℕ) × (length tuple ≡ i) × IsNewAt nodes x tuple =
    (set, length-set i (atoms_in x.state) set found.1, at) in
    answer

-- a new tuple, without what it names twice, is a new set
has_new-from : (nodes : List Generated) (x : Generated) (tuple : List ℕ) → IsNewAt nodes x tuple → 1 ≤ length tuple →
    (i : ℕ) × (1 ≤ i) × (i ≤ length tuple) × (has_new nodes x i ≡ true)
has_new-from nodes x tuple at some =
    let set = filter (lists tuple) (atoms_in x.state) in
    let listed : (q : ℕ) → In q tuple → In q set = λ q there.
    In-filter (lists tuple) (atoms_in x.state) q (in_atoms x.state q (all_in x.state tuple at.holds q there))
    (list_any-from (λ p. eqb p q) tuple q there (eq-eqb q q refl)) in
    let named : (q : ℕ) → In q set → In q tuple = λ q there.
    let found : (p : ℕ) × In p tuple × (eqb p q ≡ true) =
    list_any-at (λ p. eqb p q) tuple (In-filter_cases (lists tuple) (atoms_in x.state) q there).1 in
    subst (λ (p : ℕ). In p tuple) (eqb-true found.0 q found.2) found.1 in
    let rising : IsStrictlyIncreasing set =
    IsStrictlyIncreasing-filter (lists tuple) (atoms_in x.state)
    (IsStrictlyIncreasing-filter (has x.state) (range_with_len 0 (length x.state)) (range_rises (length x.state))) in
    let few : length set ≤ length tuple = rising_few set tuple rising named in
    let first : In (get_or tuple 0 0) tuple = In-from_Contains (get_or tuple 0 0) tuple (Contains-get_or tuple 0 0 some) in
    let not_none : 1 ≤ length set = some_member set (get_or tuple 0 0) (listed (get_or tuple 0 0) first) in
    let new : is_new nodes x set ≡ true =
    list_all-from (λ (y : Generated). not (list_all (has y.state) set)) (filter (is_earlier x) nodes)
    (λ y among.
    let parts : In y nodes × (is_earlier x y ≡ true) = In-filter_cases (is_earlier x) nodes y among in
    let earlier = earlier_parts x y parts.1 in
    not_from_false (list_all (has y.state) set) (false_from_ne_true (list_all (has y.state) set)
    (λ (all : list_all (has y.state) set ≡ true).
    at.new y (Contains-from_In y nodes parts.0) earlier.0 earlier.1
    (all_in-from y.state tuple (λ q there. list_all-at (has y.state) set all q (listed q there)))))) in
    let answer : (i : ℕ) × (1 ≤ i) × (i ≤ length tuple) × (has_new nodes x i ≡ true) =
    (length set, not_none, few, list_any-from (is_new nodes x) (sets_of (length set) (atoms_in x.state)) set (sets_of-filter (lists tuple) (atoms_in x.state)) new) in
    answer

-- ---- the law
computed : (width : ℕ) (nodes : List Generated) (x : Generated) → HasNovelty width nodes x (novelty_of width nodes x)
computed width nodes x =
    let sizes = range_with_len 1 width in
    let count : length sizes ≡ width = length-range_with_len 1 width in
    let place = position_or_len (has_new nodes x) sizes in
    let within : place ≤ length sizes = prefix_len-le-length (λ i. not (has_new nodes x i)) sizes in
    record {
      range = (omega arith, omega arith);
      least = λ tuple some short at.
          let smaller : (i : ℕ) × (1 ≤ i) × (i ≤ length tuple) × (has_new nodes x i ≡ true) = has_new-from nodes x tuple at some in
          let i = smaller.0 in
          let before : i - 1 < place = omega (arith, smaller.1, smaller.2) in
          let size : get_or sizes (i - 1) 0 ≡ i =
          get_or-range_with_len 1 width (i - 1) 0 (omega arith) ∙ (let e : 1 + (i - 1) ≡ i = omega (arith, smaller.1) in e) in
          both_ways (has_new nodes x i) (ap (has_new nodes x) (sym size) ∙ fails_before_first (has_new nodes x) sizes (i - 1) 0 before) smaller.3;
      attained = ⊎_elim
          (λ (found : place < width).
          let size : get_or sizes place 0 ≡ 1 + place = get_or-range_with_len 1 width place 0 found in
          inr (has_new-gives nodes x (1 + place)
          (ap (has_new nodes x) (sym size) ∙ passes_at_first (has_new nodes x) sizes 0 (omega arith))))
          (λ (none : width ≤ place). let last : 1 + place ≡ width + 1 = omega arith in inl last)
          (cases_lt place width);
    }

-- of two sizes the smaller one would have a new tuple that the greater one excludes
not_smaller : (width : ℕ) (nodes : List Generated) (x : Generated) (v w : ℕ) →
    HasNovelty width nodes x v → HasNovelty width nodes x w → v < w → ⊥
not_smaller width nodes x v w small great less = ⊎_elim
    (λ (last : v ≡ width + 1). let most : w ≤ width + 1 = great.range.1 in omega arith)
    (λ (attained : (tuple : List ℕ) × (length tuple ≡ v) × IsNewAt nodes x tuple).
    let one : 1 ≤ v = small.range.0 in
    let len : length attained.0 ≡ v = attained.1 in
    great.least attained.0 (omega arith) (omega arith) attained.2)
    small.attained

one_novelty : (width : ℕ) (nodes : List Generated) (x : Generated) (v w : ℕ) →
    HasNovelty width nodes x v → HasNovelty width nodes x w → v ≡ w
one_novelty width nodes x v w first second = ⊎_elim
    (λ (same : v ≡ w). same)
    (λ (differ : (v < w) ⊎ (w < v)). ⊎_elim
    (λ (less : v < w). absurd (not_smaller width nodes x v w first second less))
    (λ (more : w < v). absurd (not_smaller width nodes x w v second first more))
    differ)
    (cases_order v w)

pub novelty_is_computed : NoveltyIsComputed
novelty_is_computed width nodes x w =
    let here = computed width nodes x in (
      λ has_it. one_novelty width nodes x w (novelty_of width nodes x) has_it here,
      λ is_it. subst (HasNovelty width nodes x) (sym is_it) here,
    )
