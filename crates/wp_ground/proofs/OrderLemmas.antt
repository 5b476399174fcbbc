-- Lists in which each item comes before all that follow it: two of them with the same members are one.
use Rattle.std.proofs.Common.{◌≡◌, ℕ, zero, suc, ◌+◌, ◌<◌, Bool, true, false, List, [], ◌∷◌, ◌++◌, map, filter, refl, sym, ◌∙◌, subst, inl, inr, ⊎_elim, arith}
use Rattle.std.specs.List.{AllByRecursion, flat_map, range_with_len}
use Rattle.std.proofs.lemmas.Bool.{cases_Bool, cond-true, cond-false}
use Rattle.wp_task.proofs.Members.{In, In-filter_cases, In-map_cases, In-append_cases}
use Rattle.wp_ground.proofs.SetLemmas.{In-flat_map_cases}
use Rattle.wp_ground.proofs.EnumerationLemmas.{In-range_cases}

abbrev pub Rises : {X : Type 0} → (X → X → Type 0) → List X → Type 0
Rises R [] = Unit {0}
Rises {X = X} R (x ∷ xs) = ((y : X) → In y xs → R x y) × Rises R xs

pub rises-filter : {X : Type 0} (R : X → X → Type 0) (t : X → Bool) (xs : List X) → Rises R xs → Rises R (filter t xs)
rises-filter R t [] h = tt
rises-filter {X = X} R t (x ∷ xs) h = ⊎_elim
    (λ (keeps : t x ≡ true). subst (Rises R) (sym (cond-true (t x) (x ∷ filter t xs) (filter t xs) keeps))
    (let kept : Rises R (x ∷ filter t xs) = (λ y there. h.0 y (In-filter_cases t xs y there).0, rises-filter R t xs h.1) in kept))
    (λ (drops : t x ≡ false). subst (Rises R) (sym (cond-false (t x) (x ∷ filter t xs) (filter t xs) drops)) (rises-filter R t xs h.1))
    (cases_Bool (t x))

pub rises-append : {X : Type 0} (R : X → X → Type 0) (xs ys : List X) → Rises R xs → Rises R ys → ((x y : X) → In x xs → In y ys → R x y) → Rises R (xs ++ ys)
rises-append R [] ys h k between = k
rises-append R (x ∷ xs) ys h k between = (
  λ y there. ⊎_elim (λ (left : In y xs). h.0 y left) (λ (right : In y ys). between x y (inl refl) right) (In-append_cases xs ys y there),
  rises-append R xs ys h.1 k (λ a b left right. between a b (inr left) right),
)

pub rises-map : {X Y : Type 0} (R : X → X → Type 0) (S : Y → Y → Type 0) (f : X → Y) → ((a b : X) → R a b → S (f a) (f b)) → (xs : List X) → Rises R xs → Rises S (map f xs)
rises-map R S f keeps [] h = tt
rises-map R S f keeps (x ∷ xs) h = (
  λ y there. let from = In-map_cases f xs y there in subst (S (f x)) (sym from.2) (keeps x from.0 (h.0 from.0 from.1)),
  rises-map R S f keeps xs h.1,
)

pub rises-flat_map : {X Y : Type 0} (R : X → X → Type 0) (S : Y → Y → Type 0) (f : X → List Y) → ((x : X) → Rises S (f x))
    → ((a b : X) (y z : Y) → R a b → In y (f a) → In z (f b) → S y z) → (xs : List X) → Rises R xs → Rises S (flat_map f xs)
rises-flat_map R S f each between [] h = tt
rises-flat_map R S f each between (x ∷ xs) h =
    rises-append S (f x) (flat_map f xs) (each x) (rises-flat_map R S f each between xs h.1)
    (λ y z left right. let from = In-flat_map_cases f xs z right in between x from.0 y z (h.0 from.0 from.1) left from.2)

pub rises-range : (a n : ℕ) → Rises (λ (x y : ℕ). x < y) (range_with_len a n)
rises-range a zero = tt
rises-range a (suc n) = (λ y there. let range = In-range_cases y (a + 1) n there in omega (arith, range.0), rises-range (a + 1) n)

module _ {X : Type 0} (R : X → X → Type 0) (apart : (x y : X) → R x y → R y x → ⊥) where
  same_head : (x y : X) (xs ys : List X) → Rises R (x ∷ xs) → Rises R (y ∷ ys) → In x (y ∷ ys) → In y (x ∷ xs) → x ≡ y
  same_head x y xs ys h k there back = ⊎_elim
      (λ (same : x ≡ y). same)
      (λ (later : In x ys). ⊎_elim
      (λ (same : y ≡ x). sym same)
      (λ (after : In y xs). absurd (apart x y (h.0 y after) (k.0 x later)))
      back)
      there

  not_later : (x : X) (xs : List X) → Rises R (x ∷ xs) → In x xs → ⊥
  not_later x xs h there = apart x x (h.0 x there) (h.0 x there)

  pub rises-same : (xs ys : List X) → Rises R xs → Rises R ys → ((x : X) → In x xs → In x ys) → ((x : X) → In x ys → In x xs) → xs ≡ ys
  rises-same [] [] h k f g = refl
  rises-same [] (y ∷ ys) h k f g = absurd (g y (inl refl))
  rises-same (x ∷ xs) [] h k f g = absurd (f x (inl refl))
  rises-same (x ∷ xs) (y ∷ ys) h k f g =
      let same = same_head x y xs ys h k (f x (inl refl)) (g y (inl refl)) in
      let rest = rises-same xs ys h.1 k.1
      (λ a there. ⊎_elim (λ (here : a ≡ y). absurd (not_later x xs h (subst (λ b. In b xs) (here ∙ sym same) there))) (λ (later : In a ys). later) (f a (inr there)))
      (λ a there. ⊎_elim (λ (here : a ≡ x). absurd (not_later y ys k (subst (λ b. In b ys) (here ∙ same) there))) (λ (later : In a xs). later) (g a (inr there))) in
      λ i. same i ∷ rest i

pub all-in : {X : Type 0} (P : X → Type 0) (xs : List X) → AllByRecursion P xs → (x : X) → In x xs → P x
all-in P [] h x there = absurd there
all-in P (y ∷ ys) h x there = ⊎_elim
    (λ (same : x ≡ y). subst P (sym same) h.0)
    (λ (later : In x ys). all-in P ys h.1 x later)
    there

pub in-all : {X : Type 0} (P : X → Type 0) (xs : List X) → ((x : X) → In x xs → P x) → AllByRecursion P xs
in-all P [] h = tt
in-all P (y ∷ ys) h = (h y (inl refl), in-all P ys (λ x there. h x (inr there)))
