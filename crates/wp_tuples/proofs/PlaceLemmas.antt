-- The places number the tuples.
use Rattle.std.proofs.Common.{◌≡◌, ◌⊎◌, ℕ, zero, suc, ◌+◌, ◌-◌, ◌<◌, ◌≤◌, List, [], ◌∷◌, ◌++◌, length, map, refl, sym, ap, ◌∙◌, subst, inl, inr, ⊎_elim, arith}
use Rattle.std.specs.List.{Contains, range_with_len}
use Rattle.std.proofs.lemmas.Bool.{cases_lt}
use Rattle.wp_task.specs.Novelty.{sets_of, tuples_in}
use Rattle.wp_task.proofs.Members.{In, In-from_Contains, Contains-from_In, In-map, In-map_cases, In-append_left, In-append_right, In-append_cases}
use Rattle.wp_tuples.specs.TuplePlaces.{place_of, AreNumbered}
use Rattle.wp_tuples.proofs.Triangles.{triangle, within_row, same_row, row_of}
use Rattle.wp_tuples.proofs.CountLemmas.{length-tuples_one, length-tuples_two}

-- ---- the sets of one and of two numbers of a range
abbrev pub IsSingle : ℕ → ℕ → List ℕ → Type 0
IsSingle from count tuple = (p : ℕ) × (from ≤ p) × (p < from + count) × (tuple ≡ p ∷ [])

abbrev pub IsPair : ℕ → ℕ → List ℕ → Type 0
IsPair from count tuple = (p q : ℕ) × (from ≤ p) × (p < q) × (q < from + count) × (tuple ≡ p ∷ q ∷ [])

single_from : (from count : ℕ) (tuple : List ℕ) → In tuple (sets_of 1 (range_with_len from count)) → IsSingle from count tuple
single_from from zero tuple h = absurd h
single_from from (suc count) tuple h = ⊎_elim
    (λ (same : tuple ≡ from ∷ []). let first : IsSingle from (suc count) tuple = (from, omega arith, omega arith, same) in first)
    (λ (later : In tuple (sets_of 1 (range_with_len (from + 1) count))).
    let rest : IsSingle (from + 1) count tuple = single_from (from + 1) count tuple later in
    let found : IsSingle from (suc count) tuple = (rest.0, omega (arith, rest.1), omega (arith, rest.2), rest.3) in found)
    h

single_in : (from count p : ℕ) → from ≤ p → p < from + count → In (p ∷ []) (sets_of 1 (range_with_len from count))
single_in from zero p low high = absurd (omega arith)
single_in from (suc count) p low high = ⊎_elim
    (λ (past : from < p). inr (single_in (from + 1) count p (omega arith) (omega arith)))
    (λ (first : p ≤ from). let same : p ≡ from = omega arith in inl (ap (λ k. k ∷ []) same))
    (cases_lt from p)

pair_from : (from count : ℕ) (tuple : List ℕ) → In tuple (sets_of 2 (range_with_len from count)) → IsPair from count tuple
pair_from from zero tuple h = absurd h
pair_from from (suc count) tuple h = ⊎_elim
    (λ (first : In tuple (map (λ (set : List ℕ). from ∷ set) (sets_of 1 (range_with_len (from + 1) count)))).
    let rest : (set : List ℕ) × In set (sets_of 1 (range_with_len (from + 1) count)) × (tuple ≡ from ∷ set) =
    In-map_cases (λ (set : List ℕ). from ∷ set) (sets_of 1 (range_with_len (from + 1) count)) tuple first in
    let other : IsSingle (from + 1) count rest.0 = single_from (from + 1) count rest.0 rest.1 in
    let found : IsPair from (suc count) tuple =
    (from, other.0, omega arith, omega (arith, other.1), omega (arith, other.2), rest.2 ∙ ap (λ set. from ∷ set) other.3) in found)
    (λ (later : In tuple (sets_of 2 (range_with_len (from + 1) count))).
    let rest : IsPair (from + 1) count tuple = pair_from (from + 1) count tuple later in
    let found : IsPair from (suc count) tuple = (rest.0, rest.1, omega (arith, rest.2), rest.3, omega (arith, rest.4), rest.5) in found)
    (In-append_cases (map (λ (set : List ℕ). from ∷ set) (sets_of 1 (range_with_len (from + 1) count))) (sets_of 2 (range_with_len (from + 1) count)) tuple h)

pair_in : (from count p q : ℕ) → from ≤ p → p < q → q < from + count → In (p ∷ q ∷ []) (sets_of 2 (range_with_len from count))
pair_in from zero p q low order high = absurd (omega arith)
pair_in from (suc count) p q low order high =
    let firsts = map (λ (set : List ℕ). from ∷ set) (sets_of 1 (range_with_len (from + 1) count)) in
    let later = sets_of 2 (range_with_len (from + 1) count) in
    ⊎_elim
    (λ (past : from < p). In-append_right firsts later (p ∷ q ∷ []) (pair_in (from + 1) count p q (omega arith) order (omega arith)))
    (λ (first : p ≤ from). let same : from ≡ p = omega arith in
    subst (λ k. In (k ∷ q ∷ []) (firsts ++ later)) same
    (In-append_left firsts later (from ∷ q ∷ [])
    (In-map (λ (set : List ℕ). from ∷ set) (sets_of 1 (range_with_len (from + 1) count)) (q ∷ [])
    (single_in (from + 1) count q (omega arith) (omega arith)))))
    (cases_lt from p)

-- ---- the tuples of up to one and of up to two atoms
abbrev ones : ℕ → List (List ℕ)
ones n = sets_of 1 (range_with_len 0 n)

abbrev twos : ℕ → List (List ℕ)
twos n = sets_of 2 (range_with_len 0 n)

pub one_tuple : (n : ℕ) (tuple : List ℕ) → Contains (tuples_in 1 n) tuple → IsSingle 0 n tuple
one_tuple n tuple h = ⊎_elim
    (λ (there : In tuple (ones n)). single_from 0 n tuple there)
    (λ (none : ⊥). absurd none)
    (In-append_cases (ones n) [] tuple (In-from_Contains tuple (tuples_in 1 n) h))

pub two_tuple : (n : ℕ) (tuple : List ℕ) → Contains (tuples_in 2 n) tuple → IsSingle 0 n tuple ⊎ IsPair 0 n tuple
two_tuple n tuple h = ⊎_elim
    (λ (single : In tuple (ones n)). inl (single_from 0 n tuple single))
    (λ (later : In tuple (twos n ++ [])). ⊎_elim
    (λ (pair : In tuple (twos n)). inr (pair_from 0 n tuple pair))
    (λ (none : ⊥). absurd none)
    (In-append_cases (twos n) [] tuple later))
    (In-append_cases (ones n) (twos n ++ []) tuple (In-from_Contains tuple (tuples_in 2 n) h))

pub single_contained : (n p : ℕ) → p < n → Contains (tuples_in 1 n) (p ∷ [])
single_contained n p h =
    Contains-from_In (p ∷ []) (tuples_in 1 n) (In-append_left (ones n) [] (p ∷ []) (single_in 0 n p (omega arith) (omega arith)))

pub single_contained_two : (n p : ℕ) → p < n → Contains (tuples_in 2 n) (p ∷ [])
single_contained_two n p h =
    Contains-from_In (p ∷ []) (tuples_in 2 n) (In-append_left (ones n) (twos n ++ []) (p ∷ []) (single_in 0 n p (omega arith) (omega arith)))

pub pair_contained : (n p q : ℕ) → p < q → q < n → Contains (tuples_in 2 n) (p ∷ q ∷ [])
pair_contained n p q order high =
    Contains-from_In (p ∷ q ∷ []) (tuples_in 2 n)
    (In-append_right (ones n) (twos n ++ []) (p ∷ q ∷ [])
    (In-append_left (twos n) [] (p ∷ q ∷ []) (pair_in 0 n p q (omega arith) order (omega arith))))

-- ---- places
same_single : (p r : ℕ) (one other : List ℕ) → one ≡ p ∷ [] → other ≡ r ∷ [] → p ≡ r → one ≡ other
same_single p r one other first second same = first ∙ ap (λ k. k ∷ []) same ∙ sym second

numbered_one : (n : ℕ) → AreNumbered n 1
numbered_one n =
    let count : length (tuples_in 1 n) ≡ n = length-tuples_one n in
    record {
      below = λ tuple h. let s = one_tuple n tuple h in
          let place : place_of n tuple ≡ s.0 = ap (place_of n) s.3 in omega (arith, s.2);
      apart = λ one other h k same.
          let s = one_tuple n one h in let t = one_tuple n other k in
          same_single s.0 t.0 one other s.3 t.3 (sym (ap (place_of n) s.3) ∙ same ∙ ap (place_of n) t.3);
      all = λ place h.
          let below : place < n = omega arith in
          let found : (tuple : List ℕ) × Contains (tuples_in 1 n) tuple × (place_of n tuple ≡ place) =
          (place ∷ [], single_contained n place below, refl) in found;
    }

below_two : (n : ℕ) (tuple : List ℕ) → IsSingle 0 n tuple ⊎ IsPair 0 n tuple → place_of n tuple < n + triangle n
below_two n tuple h = ⊎_elim
    (λ (s : IsSingle 0 n tuple). let place : place_of n tuple ≡ s.0 = ap (place_of n) s.3 in omega (arith, s.2))
    (λ (s : IsPair 0 n tuple). let place : place_of n tuple ≡ n + triangle s.1 + s.0 = ap (place_of n) s.5 in
    let row : triangle s.1 + s.0 < triangle n = within_row s.0 s.1 n s.3 (omega (arith, s.4)) in omega arith)
    h

-- a single atom's place is below all places of pairs
single_is_no_pair : (n : ℕ) (one other : List ℕ) → IsSingle 0 n one → IsPair 0 n other → place_of n one ≡ place_of n other → ⊥
single_is_no_pair n one other s t same =
    let first : place_of n one ≡ s.0 = ap (place_of n) s.3 in
    let second : place_of n other ≡ n + triangle t.1 + t.0 = ap (place_of n) t.5 in
    omega (arith, s.2)

same_pair : (n : ℕ) (one other : List ℕ) → IsPair 0 n one → IsPair 0 n other → place_of n one ≡ place_of n other → one ≡ other
same_pair n one other s t same =
    let first : place_of n one ≡ n + triangle s.1 + s.0 = ap (place_of n) s.5 in
    let second : place_of n other ≡ n + triangle t.1 + t.0 = ap (place_of n) t.5 in
    let rows = same_row s.0 s.1 t.0 t.1 s.3 t.3 (omega arith) in
    s.5 ∙ (λ j. rows.1 j ∷ rows.0 j ∷ []) ∙ sym t.5

apart_two : (n : ℕ) (one other : List ℕ) → IsSingle 0 n one ⊎ IsPair 0 n one → IsSingle 0 n other ⊎ IsPair 0 n other →
    place_of n one ≡ place_of n other → one ≡ other
apart_two n one other h k same = ⊎_elim
    (λ (s : IsSingle 0 n one). ⊎_elim
    (λ (t : IsSingle 0 n other). same_single s.0 t.0 one other s.3 t.3 (sym (ap (place_of n) s.3) ∙ same ∙ ap (place_of n) t.3))
    (λ (t : IsPair 0 n other). absurd (single_is_no_pair n one other s t same))
    k)
    (λ (s : IsPair 0 n one). ⊎_elim
    (λ (t : IsSingle 0 n other). absurd (single_is_no_pair n other one t s (sym same)))
    (λ (t : IsPair 0 n other). same_pair n one other s t same)
    k)
    h

all_two : (n place : ℕ) → place < n + triangle n → (tuple : List ℕ) × Contains (tuples_in 2 n) tuple × (place_of n tuple ≡ place)
all_two n place h =
    let Goal : Type 0 = (tuple : List ℕ) × Contains (tuples_in 2 n) tuple × (place_of n tuple ≡ place) in
    ⊎_elim
    (λ (single : place < n). let found : Goal = (place ∷ [], single_contained_two n place single, refl) in found)
    (λ (pair : n ≤ place).
    let row : (p q : ℕ) × (p < q) × (q < n) × (triangle q + p ≡ place - n) = row_of n (place - n) (omega arith) in
    let at : n + triangle row.1 + row.0 ≡ place = omega (arith, row.4) in
    let found : Goal = (row.0 ∷ row.1 ∷ [], pair_contained n row.0 row.1 row.2 row.3, at) in found)
    (cases_lt place n)

numbered_two : (n : ℕ) → AreNumbered n 2
numbered_two n =
    let count : length (tuples_in 2 n) ≡ n + triangle n = length-tuples_two n in
    record {
      below = λ tuple h. let place : place_of n tuple < n + triangle n = below_two n tuple (two_tuple n tuple h) in omega arith;
      apart = λ one other h k same. apart_two n one other (two_tuple n one h) (two_tuple n other k) same;
      all = λ place h. all_two n place (omega arith);
    }

-- ---- the law
pub one_or_two : (width : ℕ) → 1 ≤ width → width ≤ 2 → (width ≡ 1) ⊎ (width ≡ 2)
one_or_two width low high = ⊎_elim
    (λ (less : width < 2). let same : width ≡ 1 = omega arith in inl same)
    (λ (more : 2 ≤ width). let same : width ≡ 2 = omega arith in inr same)
    (cases_lt width 2)

pub are_numbered : (atoms width : ℕ) → 1 ≤ width → width ≤ 2 → AreNumbered atoms width
are_numbered atoms width low high = ⊎_elim
    (λ (one : width ≡ 1). subst (AreNumbered atoms) (sym one) (numbered_one atoms))
    (λ (two : width ≡ 2). subst (AreNumbered atoms) (sym two) (numbered_two atoms))
    (one_or_two width low high)

pub single_within : (atoms width p : ℕ) → 1 ≤ width → width ≤ 2 → p < atoms → p < length (tuples_in width atoms)
single_within atoms width p low high h = ⊎_elim
    (λ (one : width ≡ 1). let count : length (tuples_in 1 atoms) ≡ atoms = length-tuples_one atoms in
    subst (λ w. p < length (tuples_in w atoms)) (sym one) (let within : p < length (tuples_in 1 atoms) = omega arith in within))
    (λ (two : width ≡ 2). let count : length (tuples_in 2 atoms) ≡ atoms + triangle atoms = length-tuples_two atoms in
    subst (λ w. p < length (tuples_in w atoms)) (sym two) (let within : p < length (tuples_in 2 atoms) = omega arith in within))
    (one_or_two width low high)

pub pair_within : (atoms width p q : ℕ) → width ≡ 2 → p < q → q < atoms → atoms + triangle q + p < length (tuples_in width atoms)
pair_within atoms width p q two order high =
    let count : length (tuples_in 2 atoms) ≡ atoms + triangle atoms = length-tuples_two atoms in
    let row : triangle q + p < triangle atoms = within_row p q atoms order high in
    subst (λ w. atoms + triangle q + p < length (tuples_in w atoms)) (sym two)
    (let within : atoms + triangle q + p < length (tuples_in 2 atoms) = omega arith in within)
