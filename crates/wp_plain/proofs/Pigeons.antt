-- The pigeonhole principle, for items that have codes.
use Rattle.std.proofs.Common.{◌≡◌, ◌≢◌, ◌⊎◌, ◌∙◌, arith, ℕ, suc, ◌<◌, ◌≤◌, Bool, true, false, cond, List, [], ◌∷◌, ◌++◌, length, eqb, refl, sym, ap, subst, inl, inr, filter}
use Rattle.std.specs.List.{AllByRecursion, AllPairs, IsDistinct}
use Rattle.std.proofs.lemmas.List.{get_or_default}
use Rattle.std.proofs.lemmas.List.Kept.{AllPairs-cons}
use Rattle.std.proofs.lemmas.Bool.{eqb-true, ne_eqb}
use Rattle.std.proofs.lemmas.Map.Steps.{length-le_from_distinct_below}
use Rattle.wp_task.proofs.Members.{In, In-at, Contains-from_In, In-append_cases, In-filter_cases, list_any-at}

-- no item is there twice
abbrev pub AreApart : {X : Type 0} → List X → Type 0
AreApart [] = Unit {0}
AreApart (x ∷ xs) = (In x xs → ⊥) × AreApart xs

pub AreApart-append : {X : Type 0} (xs ys : List X) → AreApart xs → AreApart ys → ((x : X) → In x xs → In x ys → ⊥) → AreApart (xs ++ ys)
AreApart-append [] ys first second none = second
AreApart-append (x ∷ xs) ys first second none =
    (λ there. by (In-append_cases xs ys x there), AreApart-append xs ys first.1 second (λ y before after. none y (inr before) after)) where
      by : In x xs ⊎ In x ys → ⊥
      by (inl before) = first.0 before
      by (inr after) = none x (inl refl) after

pub AreApart-filter : {X : Type 0} (t : X → Bool) (xs : List X) → AreApart xs → AreApart (filter t xs)
AreApart-filter t [] apart = tt
AreApart-filter {X = X} t (x ∷ xs) apart = by (t x) (AreApart-filter t xs apart.1) where
  by : (b : Bool) → AreApart (filter t xs) → AreApart (cond b (x ∷ filter t xs) (filter t xs))
  by true rest = (λ there. apart.0 (In-filter_cases t xs x there).0, rest)
  by false rest = rest

pub apart_pairs : {X : Type 0} (xs : List X) → AreApart xs → AllPairs (λ x y. x ≢ y) xs
apart_pairs [] apart = λ i j d before within. absurd (omega arith)
apart_pairs {X = X} (x ∷ xs) apart =
    AllPairs-cons (λ (y z : X). y ≢ z) x xs
    (λ k d within same. apart.0 (In-at x xs k within (get_or_default xs k x d within ∙ sym same)))
    (apart_pairs xs apart.1)

pub pairs_apart : {X : Type 0} (xs : List X) → AllPairs (λ x y. x ≢ y) xs → AreApart xs
pairs_apart [] pairs = tt
pairs_apart (x ∷ xs) pairs = (
  (λ there.
      let at = Contains-from_In x xs there in
      pairs 0 (suc at.0) x (omega arith) (omega (arith, at.1)) (sym (get_or_default xs at.0 x x at.1 ∙ at.2))),
  pairs_apart xs (λ i j d before within. pairs (suc i) (suc j) d (omega (arith, before)) (omega (arith, within))),
)

-- each item has a code below n, and two items with one code are one
module _ {X : Type 0} (R : X → ℕ → Type 0) (n : ℕ) where
  abbrev pub HasCode : X → Type 0
  HasCode x = (c : ℕ) × (c < n) × R x c

  codes : (xs : List X) → ((x : X) → In x xs → HasCode x) → List ℕ
  codes [] each = []
  codes (x ∷ xs) each = (each x (inl refl)).0 ∷ codes xs (λ y later. each y (inr later))

  length-codes : (xs : List X) (each : (x : X) → In x xs → HasCode x) → length (codes xs each) ≡ length xs
  unfolding codes
  length-codes [] each = refl
  length-codes (x ∷ xs) each = ap suc (length-codes xs (λ y later. each y (inr later)))

  codes-below : (xs : List X) (each : (x : X) → In x xs → HasCode x) (c : ℕ) → In c (codes xs each) → c < n
  unfolding codes
  codes-below [] each c there = absurd there
  codes-below (x ∷ xs) each c (inl same) = subst (λ k. k < n) (sym same) (each x (inl refl)).1
  codes-below (x ∷ xs) each c (inr later) = codes-below xs (λ y then. each y (inr then)) c later

  codes-differ : (xs : List X) (each : (x : X) → In x xs → HasCode x) (c : ℕ) → ((x : X) → In x xs → R x c → ⊥) →
      AllByRecursion (λ d. eqb c d ≡ false) (codes xs each)
  unfolding codes
  codes-differ [] each c other = tt
  codes-differ (x ∷ xs) each c other =
      let code = each x (inl refl) in (
        ne_eqb c code.0 (λ (same : c ≡ code.0). other x (inl refl) (subst (R x) (sym same) code.2)),
        codes-differ xs (λ y later. each y (inr later)) c (λ y later. other y (inr later)),
      )

  codes-distinct : (xs : List X) (each : (x : X) → In x xs → HasCode x) →
      ((x y : X) (c : ℕ) → In x xs → In y xs → R x c → R y c → x ≡ y) → AreApart xs → IsDistinct eqb (codes xs each)
  unfolding codes IsDistinct
  codes-distinct [] each one apart = tt
  codes-distinct (x ∷ xs) each one apart =
      let code = each x (inl refl) in (
        codes-differ xs (λ y later. each y (inr later)) code.0
            (λ y later same. apart.0 (subst (λ z. In z xs) (one y x code.0 (inr later) (inl refl) same code.2) later)),
        codes-distinct xs (λ y later. each y (inr later)) (λ y z c first second. one y z c (inr first) (inr second)) apart.1,
      )

  pub pigeons : (xs : List X) → ((x : X) → In x xs → HasCode x) →
      ((x y : X) (c : ℕ) → In x xs → In y xs → R x c → R y c → x ≡ y) → AreApart xs → length xs ≤ n
  pigeons xs each one apart =
      subst (λ k. k ≤ n) (length-codes xs each)
      (length-le_from_distinct_below (codes xs each) n (codes-distinct xs each one apart)
      (λ q there.
      let found : (c : ℕ) × In c (codes xs each) × (eqb q c ≡ true) = list_any-at (eqb q) (codes xs each) there in
      subst (λ k. k < n) (sym (eqb-true q found.0 found.2)) (codes-below xs each found.0 found.1)))
