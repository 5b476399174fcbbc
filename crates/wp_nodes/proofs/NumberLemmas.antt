-- Kept nodes by number: what a search among rising numbers finds.
use Rattle.std.proofs.Common.{◌≡◌, ◌≢◌, ◌==◌, ℕ, zero, suc, ◌+◌, ◌<◌, ◌≤◌, Bool, true, false, List, [], ◌∷◌, ◌++◌, length, get_or, Result, Ok, Err, Option, Some, None, IsSome, IfSome, IfNone, refl, sym, ap, ◌∙◌, subst, ⊎_elim, arith}
use Rattle.std.specs.Cmp.{nat_cmp_is}
use Rattle.std.specs.List.{All, AllPairs, Contains, find, slice_get}
use Rattle.std.specs.List.Sorted.{IsBinarySearchResult, IsSearchInRange, IsNonDecreasingBy}
use Rattle.std.specs.Ordering.{MatchOrdering, nat_cmp, ordering_index, is_lt}
use Rattle.std.specs.declared.cmp.Ordering.{Ordering}
use Rattle.std.specs.declared.cmp.Ordering.TheVariants.{Less, Equal, Greater}
use Rattle.std.specs.Result.{result_ok}
use Rattle.std.proofs.lemmas.Bool.{cases_Bool, cases_lt, cond-true, cond-false, eqb-true, eq-eqb, ne_eqb}
use Rattle.std.proofs.lemmas.Cmp.{ranked, nat_cmp_total}
use Rattle.std.proofs.lemmas.List.Elements.{Contains-append_right}
use Rattle.std.proofs.lemmas.List.Folds.{find_at}
use Rattle.std.proofs.lemmas.List.Sorted.{searchable_from_sorted}
use Rattle.std.proofs.lemmas.List.Sums.{position_or_len_is}
use Rattle.std.proofs.lemmas.Option.{slice_get-get_or, slice_get_past}
use Rattle.wp_nodes.specs.declared.kept.Kept.{Kept}
use Rattle.wp_nodes.specs.KeptNodes.{node_of, IsKept}

abbrev pub Rising : List Kept → Type 0
Rising kept = AllPairs (λ x y. x.number < y.number) kept

nobody : Kept
nobody = record { number = 0; w = 0; back = None; state = []; mark = record { g = 0; r = 0; track = 0; got = [] } }

-- ---- the node at a place
pub node-at : (kept : List Kept) (number i : ℕ) (d : Kept) → Rising kept → i < length kept → (get_or kept i d).number ≡ number →
    node_of kept number ≡ slice_get kept i
node-at kept number i d rising within is =
    find_at (λ (k : Kept). k.number == number) kept
    ∙ ap (slice_get kept) (position_or_len_is (λ (k : Kept). k.number == number) kept i d (omega arith)
    (λ k before. ne_eqb (get_or kept k d).number number
    (λ (same : (get_or kept k d).number ≡ number). let less : (get_or kept k d).number < (get_or kept i d).number = rising k i d before within in omega arith))
    (λ _. eq-eqb (get_or kept i d).number number is))

pub node-none : (kept : List Kept) (number : ℕ) (d : Kept) → ((k : ℕ) → k < length kept → (get_or kept k d).number ≢ number) → node_of kept number ≡ None
node-none kept number d others =
    find_at (λ (k : Kept). k.number == number) kept
    ∙ ap (slice_get kept) (position_or_len_is (λ (k : Kept). k.number == number) kept (length kept) d (omega arith)
    (λ k within. ne_eqb (get_or kept k d).number number (others k within))
    (λ (less : length kept < length kept). absurd (omega arith)))
    ∙ slice_get_past kept (length kept) (omega arith)

pub node-contained : (kept : List Kept) (k : Kept) → Rising kept → Contains kept k → node_of kept k.number ≡ Some k
node-contained kept k rising (i, within, is) =
    node-at kept k.number i k rising within (ap (λ (x : Kept). x.number) is)
    ∙ slice_get-get_or kept i k within ∙ ap Some is

-- ---- what a look-up tells
pub find-gives : (test : Kept → Bool) (kept : List Kept) (k : Kept) → find test kept ≡ Some k → Contains kept k × (test k ≡ true)
find-gives test [] k e = absurd (cc)
find-gives test (x ∷ kept) k e = ⊎_elim
    (λ (here : test x ≡ true).
    let found : Some x ≡ Some k = sym (cond-true (test x) (Some x) (find test kept) here) ∙ e in
    let same : x ≡ k = cc in
    let there : Contains (x ∷ kept) k = (0, omega arith, same) in
    (there, subst (λ (y : Kept). test y ≡ true) same here))
    (λ (later : test x ≡ false).
    let rest = find-gives test kept k (sym (cond-false (test x) (Some x) (find test kept) later) ∙ e) in
    (Contains-append_right (x ∷ []) kept k rest.0, rest.1))
    (cases_Bool (test x))

pub find-none : (test : Kept → Bool) (kept : List Kept) → find test kept ≡ None → All (λ k. test k ≡ false) kept
find-none test [] e = λ i d within. absurd (omega arith)
find-none test (x ∷ kept) e = ⊎_elim
    (λ (here : test x ≡ true).
    let found : Some x ≡ None = sym (cond-true (test x) (Some x) (find test kept) here) ∙ e in absurd (cc))
    (λ (later : test x ≡ false).
    let rest : All (λ k. test k ≡ false) kept = find-none test kept (sym (cond-false (test x) (Some x) (find test kept) later) ∙ e) in
    λ i d within. at x kept later rest i d within)
    (cases_Bool (test x))
  where
    at : (y : Kept) (ys : List Kept) → test y ≡ false → All (λ k. test k ≡ false) ys → All (λ k. test k ≡ false) (y ∷ ys)
    at y ys first rest zero d within = first
    at y ys first rest (suc i) d within = rest i d (omega arith)

-- the kept node of a number, where there is one
pub kept_node : (kept : List Kept) (number : ℕ) → IsKept kept number → (k : Kept) × Contains kept k × (k.number ≡ number)
kept_node kept number there = by (node_of kept number) refl there
  where
    by : (found : Option Kept) → node_of kept number ≡ found → IsSome found → (k : Kept) × Contains kept k × (k.number ≡ number)
    by None e some = absurd (cc)
    by (Some k) e some =
        let parts = find-gives (λ (x : Kept). x.number == number) kept k e in
        let found : (k : Kept) × Contains kept k × (k.number ≡ number) = (k, parts.0, eqb-true k.number number parts.1) in found

pub kept_more : (kept more : List Kept) (number : ℕ) → IsKept kept number → IsKept (kept ++ more) number
kept_more [] more number there = absurd (cc)
kept_more (x ∷ kept) more number there = ⊎_elim
    (λ (here : (x.number == number) ≡ true). subst IsSome (sym (cond-true (x.number == number) (Some x) (node_of (kept ++ more) number) here)) refl)
    (λ (later : (x.number == number) ≡ false).
    subst IsSome (sym (cond-false (x.number == number) (Some x) (node_of (kept ++ more) number) later))
    (kept_more kept more number (subst IsSome (cond-false (x.number == number) (Some x) (node_of kept number) later) there)))
    (cases_Bool (x.number == number))

-- ---- a search by halving
equal : (x y : ℕ) → nat_cmp x y ≡ Equal → x ≡ y
equal x y e = subst (λ (o : Ordering). MatchOrdering o (x < y) (x ≡ y) (y < x)) e (ranked x y (nat_cmp x y) refl)

differs_less : (x y : ℕ) → nat_cmp x y ≡ Less → x ≢ y
differs_less x y e same = let less : x < y = subst (λ (o : Ordering). MatchOrdering o (x < y) (x ≡ y) (y < x)) e (ranked x y (nat_cmp x y) refl) in omega arith

differs_greater : (x y : ℕ) → nat_cmp x y ≡ Greater → x ≢ y
differs_greater x y e same = let more : y < x = subst (λ (o : Ordering). MatchOrdering o (x < y) (x ≡ y) (y < x)) e (ranked x y (nat_cmp x y) refl) in omega arith

searchable : (kept : List Kept) (number : ℕ) → Rising kept → IsNonDecreasingBy (λ (k : Kept). ordering_index (nat_cmp k.number number)) kept
searchable kept number rising = searchable_from_sorted nat_cmp_total (λ (k : Kept). k.number) kept number
    (λ k d low high. ap is_lt (sym (nat_cmp_is (get_or kept (k + 1) d).number (get_or kept k d).number Greater (rising k (k + 1) d (omega arith) high))))

pub searched : (kept : List Kept) (number : ℕ) (r : Result ℕ ℕ) → Rising kept → IsSearchInRange r (length kept) →
    IsBinarySearchResult (λ (k : Kept). nat_cmp k.number number) kept r →
    IfSome (result_ok r) (λ i. node_of kept number ≡ slice_get kept i) × IfNone (result_ok r) (node_of kept number ≡ None)
searched kept number (Ok i) rising within found =
    (node-at kept number i nobody rising within (equal (get_or kept i nobody).number number (found nobody)), tt)
searched kept number (Err i) rising within split =
    let parts = split (searchable kept number rising) in (
      tt,
      node-none kept number nobody (λ k inside. ⊎_elim
          (λ (before : k < i). differs_less (get_or kept k nobody).number number (parts.0 k nobody (omega arith) before))
          (λ (from : i ≤ k). differs_greater (get_or kept k nobody).number number (parts.1 k nobody from inside))
          (cases_lt k i)),
    )
