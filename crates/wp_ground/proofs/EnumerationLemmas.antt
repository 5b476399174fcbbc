-- Members of what is enumerated: of ranges and of tuples.
use Rattle.std.proofs.Common.{◌≡◌, ℕ, zero, suc, ◌+◌, ◌<◌, ◌≤◌, List, [], ◌∷◌, length, map, get_or, refl, sym, subst, inl, inr, ⊎_elim, arith}
use Rattle.std.specs.List.{All, AllZip, range_with_len}
use Rattle.std.proofs.lemmas.Bool.{cases_eq}
use Rattle.wp_lift.specs.Problem.{tuples_of}
use Rattle.wp_task.proofs.Members.{In, In-map, In-map_cases}
use Rattle.wp_ground.proofs.SetLemmas.{In-flat_map, In-flat_map_cases}

-- a member stands somewhere
pub place_of : {X : Type 0} (d : X) (xs : List X) (x : X) → In x xs → (k : ℕ) × (k < length xs) × (get_or xs k d ≡ x)
place_of d [] x h = absurd h
place_of {X = X} d (y ∷ ys) x h = ⊎_elim
    (λ (same : x ≡ y). let found : (k : ℕ) × (k < length (y ∷ ys)) × (get_or (y ∷ ys) k d ≡ x) = (0, omega arith, sym same) in found)
    (λ (later : In x ys). let rest : (k : ℕ) × (k < length ys) × (get_or ys k d ≡ x) = place_of d ys x later in
    let found : (k : ℕ) × (k < length (y ∷ ys)) × (get_or (y ∷ ys) k d ≡ x) = (suc rest.0, omega (arith, rest.1), rest.2) in found)
    h

pub In-get : {X : Type 0} (d : X) (xs : List X) (k : ℕ) → k < length xs → In (get_or xs k d) xs
In-get d [] k h = absurd (omega arith)
In-get d (x ∷ xs) zero h = inl refl
In-get d (x ∷ xs) (suc k) h = inr (In-get d xs k (omega arith))

pub All-member : {X : Type 0} (P : X → Type 0) (xs : List X) → All P xs → (x : X) → In x xs → P x
All-member P xs all x h = let found = place_of x xs x h in subst P found.2 (all found.0 x found.1)

pub All-from_members : {X : Type 0} (P : X → Type 0) (xs : List X) → ((x : X) → In x xs → P x) → All P xs
All-from_members P xs each k d h = each (get_or xs k d) (In-get d xs k h)

pub In-range : (k a n : ℕ) → a ≤ k → k < a + n → In k (range_with_len a n)
In-range k a zero low high = absurd (omega arith)
In-range k a (suc n) low high = ⊎_elim
    (λ (same : k ≡ a). let found : In k (range_with_len a (suc n)) = inl same in found)
    (λ (other : k ≡ a → ⊥). let found : In k (range_with_len a (suc n)) = inr (In-range k (a + 1) n (let above : a < k = omega (arith, other) in omega arith) (omega arith)) in found)
    (cases_eq k a)

pub In-range_cases : (k a n : ℕ) → In k (range_with_len a n) → (a ≤ k) × (k < a + n)
In-range_cases k a zero h = absurd h
In-range_cases k a (suc n) h = ⊎_elim
    (λ (same : k ≡ a). let found : (a ≤ k) × (k < a + suc n) = (omega (arith, same), omega (arith, same)) in found)
    (λ (later : In k (range_with_len (a + 1) n)). let rest = In-range_cases k (a + 1) n later in
    let found : (a ≤ k) × (k < a + suc n) = (omega (arith, rest.0), omega (arith, rest.1)) in found)
    h

-- a tuple is enumerated where each item stands in the list at its place
pub In-tuples : (choices : List (List ℕ)) (args : List ℕ) → AllZip In args choices → In args (tuples_of choices)
In-tuples [] [] h = inl refl
In-tuples [] (x ∷ args) h = absurd h
In-tuples (choice ∷ choices) [] h = absurd h
In-tuples (choice ∷ choices) (x ∷ args) h =
    let tails = tuples_of choices in
    In-flat_map (λ (x : ℕ). map (λ (tail : List ℕ). x ∷ tail) tails) choice x (x ∷ args) h.0
    (In-map (λ (tail : List ℕ). x ∷ tail) tails args (In-tuples choices args h.1))

pub In-tuples_cases : (choices : List (List ℕ)) (args : List ℕ) → In args (tuples_of choices) → AllZip In args choices
In-tuples_cases [] args h = ⊎_elim
    (λ (same : args ≡ []). subst (λ (args : List ℕ). AllZip In args []) (sym same) tt)
    (λ (none : ⊥). absurd none)
    h
In-tuples_cases (choice ∷ choices) args h =
    let tails = tuples_of choices in
    let first = In-flat_map_cases (λ (x : ℕ). map (λ (tail : List ℕ). x ∷ tail) tails) choice args h in
    let rest = In-map_cases (λ (tail : List ℕ). first.0 ∷ tail) tails args first.2 in
    subst (λ (args : List ℕ). AllZip In args (choice ∷ choices)) (sym rest.2) (first.1, In-tuples_cases choices rest.0 rest.1)
