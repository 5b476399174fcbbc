-- A node of a novelty that is at most the width is the first with its counters at which some tuple is true.
use Rattle.std.proofs.Common.{◌≡◌, ◌⊎◌, ◌==◌, ◌&&◌, not, ℕ, zero, suc, ◌+◌, ◌<◌, ◌≤◌, Bool, true, false, cond, List, [], ◌∷◌, ◌++◌, length, map, get_or, nat_lt, refl, sym, ap, ◌∙◌, subst, inl, inr, ⊎_elim, arith, All, Contains, filter}
use Rattle.std.specs.List.{flat_map, list_all, position_or_len, range_with_len}
use Rattle.std.proofs.lemmas.Bool.{and_from, both_ways, cases_lt, eq-eqb, lt-ltb, not-true}
use Rattle.std.proofs.lemmas.List.{get_or_default}
use Rattle.std.proofs.lemmas.List.Elements.{All-contains}
use Rattle.std.proofs.lemmas.List.FromFn.{get_or-range_with_len, length-range_with_len}
use Rattle.std.proofs.lemmas.List.Sums.{passes_at_first, fails_before_first}
use Rattle.std.proofs.lemmas.Slice.Eq.{slice_eq-Decides}
use Rattle.std.specs.Cmp.{unsigned_Decides}
use Rattle.std.specs.Cmp.Lexicographic.{pointwise}
use Rattle.std.specs.Prelude.{nat_eq}
use Rattle.wp_task.specs.Set.{has, IsIn, atoms_in}
use Rattle.wp_task.specs.Novelty.{Generated, IsNewAt, sets_of, is_earlier, is_new, has_new, novelty_of, tuples_in}
use Rattle.wp_task.proofs.Members.{In, In-at, In-from_Contains, Contains-from_In, list_all-at, list_all-from, list_any-at, In-filter, In-filter_cases, In-map, In-map_cases, In-append_left, In-append_right, In-append_cases}
use Rattle.wp_plain.specs.Nodes.{Successor}
use Rattle.wp_plain.specs.Pairs.{place_in}
use Rattle.wp_plain.specs.Expansion.{fresh_of}
use Rattle.wp_plain.specs.Laws.{AllAreCounted}

-- ---- the sets of i atoms
set_members : (i : ℕ) (atoms set : List ℕ) → In set (sets_of i atoms) → (q : ℕ) → In q set → In q atoms
set_members zero atoms set (inl same) q there = absurd (subst (λ (l : List ℕ). In q l) same there)
set_members zero atoms set (inr none) q there = absurd none
set_members (suc i) [] set h q there = absurd h
set_members (suc i) (p ∷ atoms) set h q there =
    by (In-append_cases (map (λ s. p ∷ s) (sets_of i atoms)) (sets_of (suc i) atoms) set h) (set_members i atoms) (set_members (suc i) atoms) where
      at : (s : List ℕ) → In s (sets_of i atoms) → In q (p ∷ s) → ((t : List ℕ) → In t (sets_of i atoms) → (r : ℕ) → In r t → In r atoms) → In q (p ∷ atoms)
      at s among (inl same) rest = inl same
      at s among (inr later) rest = inr (rest s among q later)

      by : In set (map (λ s. p ∷ s) (sets_of i atoms)) ⊎ In set (sets_of (suc i) atoms) →
          ((t : List ℕ) → In t (sets_of i atoms) → (r : ℕ) → In r t → In r atoms) →
          ((t : List ℕ) → In t (sets_of (suc i) atoms) → (r : ℕ) → In r t → In r atoms) → In q (p ∷ atoms)
      by (inl with_p) rest later =
          let found : (s : List ℕ) × In s (sets_of i atoms) × (set ≡ p ∷ s) = In-map_cases (λ s. p ∷ s) (sets_of i atoms) set with_p in
          at found.0 found.1 (subst (λ (l : List ℕ). In q l) found.2 there) rest
      by (inr without_p) rest later = inr (later set without_p q there)

-- the sets of some of the atoms are sets of the atoms
sets-filter : (t : ℕ → Bool) (i : ℕ) (atoms set : List ℕ) → In set (sets_of i (filter t atoms)) → In set (sets_of i atoms)
sets-filter t zero atoms set h = h
sets-filter t (suc i) [] set h = absurd h
sets-filter t (suc i) (p ∷ atoms) set h = by (t p) h (sets-filter t i atoms) (sets-filter t (suc i) atoms set) where
  more : In set (sets_of (suc i) atoms) → In set (sets_of (suc i) (p ∷ atoms))
  more there = In-append_right (map (λ s. p ∷ s) (sets_of i atoms)) (sets_of (suc i) atoms) set there

  split : In set (map (λ s. p ∷ s) (sets_of i (filter t atoms))) ⊎ In set (sets_of (suc i) (filter t atoms)) →
      ((s : List ℕ) → In s (sets_of i (filter t atoms)) → In s (sets_of i atoms)) →
      (In set (sets_of (suc i) (filter t atoms)) → In set (sets_of (suc i) atoms)) → In set (sets_of (suc i) (p ∷ atoms))
  split (inl with_p) rest later =
      let found : (s : List ℕ) × In s (sets_of i (filter t atoms)) × (set ≡ p ∷ s) =
      In-map_cases (λ s. p ∷ s) (sets_of i (filter t atoms)) set with_p in
      In-append_left (map (λ s. p ∷ s) (sets_of i atoms)) (sets_of (suc i) atoms) set
      (subst (λ (l : List ℕ). In l (map (λ s. p ∷ s) (sets_of i atoms))) (sym found.2)
      (In-map (λ s. p ∷ s) (sets_of i atoms) found.0 (rest found.0 found.1)))
  split (inr without_p) rest later = more (later without_p)

  by : (b : Bool) → In set (sets_of (suc i) (cond b (p ∷ filter t atoms) (filter t atoms))) →
      ((s : List ℕ) → In s (sets_of i (filter t atoms)) → In s (sets_of i atoms)) →
      (In set (sets_of (suc i) (filter t atoms)) → In set (sets_of (suc i) atoms)) → In set (sets_of (suc i) (p ∷ atoms))
  by true there rest later =
      split (In-append_cases (map (λ s. p ∷ s) (sets_of i (filter t atoms))) (sets_of (suc i) (filter t atoms)) set there) rest later
  by false there rest later = more (later there)

In-flat_map : {X A : Type 0} (f : X → List A) (xs : List X) (x : X) (a : A) → In x xs → In a (f x) → In a (flat_map f xs)
In-flat_map f [] x a there inside = absurd there
In-flat_map {A = A} f (y ∷ xs) x a (inl same) inside =
    In-append_left (f y) (flat_map f xs) a (subst (λ (l : List A). In a l) (ap f same) inside)
In-flat_map f (y ∷ xs) x a (inr later) inside = In-append_right (f y) (flat_map f xs) a (In-flat_map f xs x a later inside)

-- ---- novelty at most the width
-- x is the first with its counters at which a tuple is true
abbrev pub HasTuple : ℕ → ℕ → List Generated → Generated → Type 0
HasTuple width atoms all x = (tuple : List ℕ) × In tuple (tuples_in width atoms) × IsNewAt all x tuple

earlier_from : (x y : Generated) → y.number < x.number → y.counters ≡ x.counters → is_earlier x y ≡ true
earlier_from x y before same =
    and_from (nat_lt y.number x.number) ((y.counters.0 == x.counters.0) && (y.counters.1 == x.counters.1))
    (lt-ltb y.number x.number before)
    (and_from (y.counters.0 == x.counters.0) (y.counters.1 == x.counters.1)
    (eq-eqb y.counters.0 x.counters.0 (ap (λ (c : ℕ × ℕ). c.0) same))
    (eq-eqb y.counters.1 x.counters.1 (ap (λ (c : ℕ × ℕ). c.1) same)))

new_at : (all : List Generated) (x : Generated) (i : ℕ) (set : List ℕ) → In set (sets_of i (atoms_in x.state)) → is_new all x set ≡ true → IsNewAt all x set
new_at all x i set among new = record {
  holds = λ k d within.
      let atom = get_or set k d in
      let there : In atom set = In-at atom set k within (get_or_default set k atom d within) in
      (In-filter_cases (has x.state) (range_with_len 0 (length x.state)) atom (set_members i (atoms_in x.state) set among atom there)).1;
  new = λ y there before same holds.
      both_ways (list_all (has y.state) set)
      (not-true (list_all (has y.state) set)
      (list_all-at (λ (z : Generated). not (list_all (has z.state) set)) (filter (is_earlier x) all) new y
      (In-filter (is_earlier x) all y (In-from_Contains y all there) (earlier_from x y before same))))
      (list_all-from (has y.state) set (λ q inside. All-contains (IsIn y.state) set q holds (Contains-from_In q set inside)));
}

pub has_tuple : (width atoms : ℕ) (all : List Generated) (x : Generated) → length x.state ≡ atoms → novelty_of width all x ≤ width → HasTuple width atoms all x
has_tuple width atoms all x size small =
    let sizes = range_with_len 1 width in
    let place = position_or_len (has_new all x) sizes in
    let count : length sizes ≡ width = length-range_with_len 1 width in
    let within : place < width = omega arith in
    let size_at : get_or sizes place 0 ≡ 1 + place = get_or-range_with_len 1 width place 0 within in
    let passes : has_new all x (1 + place) ≡ true = ap (has_new all x) (sym size_at) ∙ passes_at_first (has_new all x) sizes 0 (omega arith) in
    let found : (set : List ℕ) × In set (sets_of (1 + place) (atoms_in x.state)) × (is_new all x set ≡ true) =
    list_any-at (is_new all x) (sets_of (1 + place) (atoms_in x.state)) passes in
    let wide : In found.0 (sets_of (1 + place) (range_with_len 0 (length x.state))) =
    sets-filter (has x.state) (1 + place) (range_with_len 0 (length x.state)) found.0 found.1 in
    let there : In (1 + place) sizes =
    In-at (1 + place) sizes place (omega arith) (get_or-range_with_len 1 width place (1 + place) within) in
    let answer : HasTuple width atoms all x = (
      found.0,
      In-flat_map (λ i. sets_of i (range_with_len 0 atoms)) sizes (1 + place) found.0 there
          (subst (λ n. In found.0 (sets_of (1 + place) (range_with_len 0 n))) size wide),
      new_at all x (1 + place) found.0 found.1 found.2,
    ) in
    answer

-- later nodes change nothing
pub fresh-later : (counters : List (List Bool) → ℕ × ℕ) (states : List (List Bool)) (number : ℕ) (xs : List Successor) (g : Generated) →
    In g (fresh_of counters states number xs) → number ≤ g.number
fresh-later counters states number [] g there = absurd there
fresh-later counters states number (x ∷ xs) g (inl same) = let is : g.number ≡ number = ap (λ y. y.number) same in omega arith
fresh-later counters states number (x ∷ xs) g (inr later) =
    let rest : number + 1 ≤ g.number = fresh-later counters states (number + 1) xs g later in omega arith

pub new-later : (all more : List Generated) (x : Generated) (tuple : List ℕ) → ((y : Generated) → In y more → x.number < y.number) →
    IsNewAt all x tuple → IsNewAt (all ++ more) x tuple
new-later all more x tuple late is = record {
  holds = is.holds;
  new = λ y there before same. by y before same (In-append_cases all more y (In-from_Contains y (all ++ more) there));
} where
  by : (y : Generated) → y.number < x.number → y.counters ≡ x.counters → In y all ⊎ In y more → All (IsIn y.state) tuple → ⊥
  by y before same (inl old) = is.new y (Contains-from_In y all old) before same
  by y before same (inr new) = let after : x.number < y.number = late y new in absurd (omega arith)

-- ---- places of tuples
placed_at : (tuples : List (List ℕ)) (tuple : List ℕ) → Contains tuples tuple →
    (place_in tuples tuple < length tuples) × (get_or tuples (place_in tuples tuple) [] ≡ tuple)
placed_at tuples tuple there =
    let test = pointwise nat_eq tuple in
    let itself : test tuple ≡ true = (slice_eq-Decides unsigned_Decides tuple tuple (test tuple) refl).1 refl in
    let read : get_or tuples there.0 [] ≡ tuple = get_or_default tuples there.0 [] tuple there.1 ∙ there.2 in
    let before : place_in tuples tuple ≤ there.0 = ⊎_elim
    (λ (later : there.0 < place_in tuples tuple).
    absurd (both_ways (test (get_or tuples there.0 [])) (fails_before_first test tuples there.0 [] later) (ap test read ∙ itself)))
    (λ (first : place_in tuples tuple ≤ there.0). first)
    (cases_lt there.0 (place_in tuples tuple)) in
    let below : place_in tuples tuple < length tuples = omega (arith, there.1) in
    let found = get_or tuples (place_in tuples tuple) [] in
    (below, sym ((slice_eq-Decides unsigned_Decides tuple found (test found) refl).0 (passes_at_first test tuples [] below)))

pub all_are_counted : AllAreCounted
all_are_counted task width =
    let tuples = tuples_in width task.atoms in
    record {
      all = λ state tuple reachable there holds. there;
      below = λ tuple there. (placed_at tuples tuple there).0;
      apart = λ x y there also same.
          sym (placed_at tuples x there).1 ∙ (ap (λ k. get_or tuples k []) same ∙ (placed_at tuples y also).1);
    }
