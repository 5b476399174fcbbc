-- Pairs of counters, and the homes of those that are open.
use Rattle.std.proofs.Common.{◌≡◌, ◌⊎◌, ◌==◌, ◌&&◌, ◌||◌, ℕ, true, false, List, [], ◌∷◌, ◌++◌, map, Option, Some, None, is_some, refl, sym, ap, ◌∙◌, inl, inr, ⊎_elim}
use Rattle.std.specs.Prelude.{IsSome}
use Rattle.std.specs.List.{list_any}
use Rattle.std.specs.Map.{keys_of}
use Rattle.std.proofs.lemmas.Bool.{cases_Bool, cond-true, cond-false, eqb-true, eq-eqb, and_parts, and_from}
use Rattle.std.proofs.lemmas.Map.Made.{is_some-lookup}
use Rattle.std.specs.Cmp.{nat_eq_equiv}
use Rattle.wp_novel.specs.declared.birth.Pair.{Pair}
use Rattle.wp_novel.specs.NoveltyTables.{HomeView, counters_of, is_same, is_among, pairs_of, is_pair, home_of}

-- ---- pairs
pub same_counters : (one other : ℕ × ℕ) → is_same one other ≡ true → one ≡ other
same_counters one other h =
    let parts = and_parts (one.0 == other.0) (one.1 == other.1) h in
    let g : one.0 ≡ other.0 = eqb-true one.0 other.0 parts.0 in
    let r : one.1 ≡ other.1 = eqb-true one.1 other.1 parts.1 in
    (λ j. (g j, r j))

pub is_same_itself : (one : ℕ × ℕ) → is_same one one ≡ true
is_same_itself one = and_from (one.0 == one.0) (one.1 == one.1) (eq-eqb one.0 one.0 refl) (eq-eqb one.1 one.1 refl)

pub same_pair : (one other : Pair) → is_pair one other ≡ true → one ≡ other
same_pair one other h =
    let parts = and_parts (one.g == other.g) (one.r == other.r) h in
    let g : one.g ≡ other.g = eqb-true one.g other.g parts.0 in
    let r : one.r ≡ other.r = eqb-true one.r other.r parts.1 in
    (λ j. let p : Pair = record { g = g j; r = r j } in p)

pub is_pair_itself : (pair : Pair) → is_pair pair pair ≡ true
is_pair_itself pair = and_from (pair.g == pair.g) (pair.r == pair.r) (eq-eqb pair.g pair.g refl) (eq-eqb pair.r pair.r refl)

pub pair_of_counters : (one other : Pair) → counters_of one ≡ counters_of other → one ≡ other
pair_of_counters one other same =
    let g : one.g ≡ other.g = ap (λ (c : ℕ × ℕ). c.0) same in
    let r : one.r ≡ other.r = ap (λ (c : ℕ × ℕ). c.1) same in
    (λ j. let p : Pair = record { g = g j; r = r j } in p)

-- the test of counters is that of pairs, either way round
pub is_pair-swapped : (one other : Pair) → is_pair one other ≡ is_pair other one
is_pair-swapped one other = λ j. nat_eq_equiv.symm one.g other.g j && nat_eq_equiv.symm one.r other.r j

-- ---- open pairs
abbrev pub Homes : Type 0
Homes = List (Pair × HomeView)

among : (pairs : List Pair) (p : Pair) → is_among (map counters_of pairs) (counters_of p) ≡ list_any (is_pair p) pairs
among [] p = refl
among (k ∷ pairs) p = λ j. is_pair-swapped k p j || among pairs p j

pub open_is : (homes : Homes) (p : Pair) → is_among (pairs_of homes) (counters_of p) ≡ is_some (home_of homes p)
open_is homes p = among (keys_of homes) p ∙ sym (is_some-lookup (is_pair p) homes)

pub open_home : (homes : Homes) (p : Pair) → is_among (pairs_of homes) (counters_of p) ≡ true → IsSome (home_of homes p)
open_home homes p h = sym (open_is homes p) ∙ h

none_from : {X : Type 0} (o : Option X) → is_some o ≡ false → o ≡ None
none_from None is = refl
none_from (Some x) is = absurd (cc)

pub closed_home : (homes : Homes) (p : Pair) → is_among (pairs_of homes) (counters_of p) ≡ false → home_of homes p ≡ None
closed_home homes p h = none_from (home_of homes p) (sym (open_is homes p) ∙ h)

pub some_of : {X : Type 0} (o : Option X) → is_some o ≡ true → (x : X) × (o ≡ Some x)
some_of None is = absurd (cc)
some_of (Some x) is = (x, refl)

pub some_same : (one other : HomeView) → Some one ≡ Some other → one ≡ other
some_same one other e = cc

-- ---- a pair more
pub opened_cases : (homes : Homes) (pair : Pair) (home : HomeView) (q : Pair) (found : HomeView) → home_of (homes ++ (pair, home) ∷ []) q ≡ Some found →
    (home_of homes q ≡ Some found) ⊎ ((is_pair q pair ≡ true) × (home ≡ found))
opened_cases [] pair home q found e = ⊎_elim
    (λ (here : is_pair q pair ≡ true). inr (here, some_same home found (sym (cond-true (is_pair q pair) (Some home) None here) ∙ e)))
    (λ (other : is_pair q pair ≡ false).
    let none : None ≡ Some found = sym (cond-false (is_pair q pair) (Some home) None other) ∙ e in absurd (cc))
    (cases_Bool (is_pair q pair))
opened_cases (x ∷ homes) pair home q found e = ⊎_elim
    (λ (here : is_pair q x.0 ≡ true).
    inl (cond-true (is_pair q x.0) (Some x.1) (home_of homes q) here
    ∙ (sym (cond-true (is_pair q x.0) (Some x.1) (home_of (homes ++ (pair, home) ∷ []) q) here) ∙ e)))
    (λ (other : is_pair q x.0 ≡ false). ⊎_elim
    (λ (was : home_of homes q ≡ Some found). inl (cond-false (is_pair q x.0) (Some x.1) (home_of homes q) other ∙ was))
    (λ (new : (is_pair q pair ≡ true) × (home ≡ found)). inr new)
    (opened_cases homes pair home q found (sym (cond-false (is_pair q x.0) (Some x.1) (home_of (homes ++ (pair, home) ∷ []) q) other) ∙ e)))
    (cases_Bool (is_pair q x.0))
