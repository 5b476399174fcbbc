-- The least number of a birth that has a tuple.
use Rattle.std.proofs.Common.{◌≡◌, ◌⊎◌, ℕ, ◌-◌, ◌^◌, ◌<◌, ◌≤◌, min, cond, Bool, true, false, List, [], ◌∷◌, ◌++◌, refl, sym, ap, ◌∙◌, subst, inl, inr, ⊎_elim, arith}
use Rattle.std.specs.List.{Contains}
use Rattle.std.proofs.lemmas.Bool.{cases_Bool, cases_lt, cond-true, cond-false}
use Rattle.wp_task.proofs.Members.{In, In-from_Contains, Contains-from_In}
use Rattle.wp_task.specs.Novelty.{Generated}
use Rattle.wp_novel.specs.StandsFor.{has_tuple, first_number, IsFirstNumber}

pub greatest : (births : List Generated) (counters : ℕ × ℕ) (tuple : List ℕ) → first_number births counters tuple ≤ 2 ^ 64 - 1
greatest [] counters tuple = omega arith
greatest (b ∷ births) counters tuple = ⊎_elim
    (λ (here : has_tuple counters tuple b ≡ true).
    let e : first_number (b ∷ births) counters tuple ≡ min b.number (first_number births counters tuple) =
    cond-true (has_tuple counters tuple b) (min b.number (first_number births counters tuple)) (first_number births counters tuple) here in
    let rest = greatest births counters tuple in omega arith)
    (λ (other : has_tuple counters tuple b ≡ false).
    let e : first_number (b ∷ births) counters tuple ≡ first_number births counters tuple =
    cond-false (has_tuple counters tuple b) (min b.number (first_number births counters tuple)) (first_number births counters tuple) other in
    let rest = greatest births counters tuple in omega arith)
    (cases_Bool (has_tuple counters tuple b))

pub first_number-append : (births more : List Generated) (counters : ℕ × ℕ) (tuple : List ℕ) →
    first_number (births ++ more) counters tuple ≡ min (first_number births counters tuple) (first_number more counters tuple)
first_number-append [] more counters tuple = let low : first_number more counters tuple ≤ 2 ^ 64 - 1 = greatest more counters tuple in omega arith
first_number-append (b ∷ births) more counters tuple =
    let rest : first_number (births ++ more) counters tuple ≡ min (first_number births counters tuple) (first_number more counters tuple) =
    first_number-append births more counters tuple in
    ap (λ n. cond (has_tuple counters tuple b) (min b.number n) n) rest
    ∙ out (has_tuple counters tuple b) b.number (first_number births counters tuple) (first_number more counters tuple)
  where
    out : (t : Bool) (n x y : ℕ) → cond t (min n (min x y)) (min x y) ≡ min (cond t (min n x) x) y
    out true n x y = omega arith
    out false n x y = refl

least : (births : List Generated) (counters : ℕ × ℕ) (tuple : List ℕ) (b : Generated) → In b births → has_tuple counters tuple b ≡ true →
    first_number births counters tuple ≤ b.number
least [] counters tuple b h there = absurd h
least (x ∷ births) counters tuple b h there = ⊎_elim
    (λ (same : b ≡ x).
    let here : has_tuple counters tuple x ≡ true = ap (has_tuple counters tuple) (sym same) ∙ there in
    let number : b.number ≡ x.number = ap (λ (y : Generated). y.number) same in
    let e : first_number (x ∷ births) counters tuple ≡ min x.number (first_number births counters tuple) =
    cond-true (has_tuple counters tuple x) (min x.number (first_number births counters tuple)) (first_number births counters tuple) here in
    omega arith)
    (λ (later : In b births).
    let rest : first_number births counters tuple ≤ b.number = least births counters tuple b later there in
    below (has_tuple counters tuple x) x.number (first_number births counters tuple) b.number rest)
    h
  where
    below : (t : Bool) (n x bound : ℕ) → x ≤ bound → cond t (min n x) x ≤ bound
    below true n x bound h = omega arith
    below false n x bound h = h

abbrev Attained : List Generated → ℕ × ℕ → List ℕ → ℕ → Type 0
Attained births counters tuple number = (number ≡ 2 ^ 64 - 1) ⊎ ((b : Generated) × Contains births b × (has_tuple counters tuple b ≡ true) × (b.number ≡ number))

attained_later : (x : Generated) (births : List Generated) (counters : ℕ × ℕ) (tuple : List ℕ) (number : ℕ) → Attained births counters tuple number → Attained (x ∷ births) counters tuple number
attained_later x births counters tuple number h = ⊎_elim
    (λ (none : number ≡ 2 ^ 64 - 1). inl none)
    (λ (some : (b : Generated) × Contains births b × (has_tuple counters tuple b ≡ true) × (b.number ≡ number)).
    let found : (b : Generated) × Contains (x ∷ births) b × (has_tuple counters tuple b ≡ true) × (b.number ≡ number) =
    (some.0, Contains-from_In some.0 (x ∷ births) (inr (In-from_Contains some.0 births some.1)), some.2, some.3) in inr found)
    h

attained : (births : List Generated) (counters : ℕ × ℕ) (tuple : List ℕ) → Attained births counters tuple (first_number births counters tuple)
attained [] counters tuple = inl refl
attained (x ∷ births) counters tuple =
    let rest : Attained births counters tuple (first_number births counters tuple) = attained births counters tuple in
    let later = attained_later x births counters tuple (first_number births counters tuple) rest in
    ⊎_elim
    (λ (here : has_tuple counters tuple x ≡ true).
    let e : first_number (x ∷ births) counters tuple ≡ min x.number (first_number births counters tuple) =
    cond-true (has_tuple counters tuple x) (min x.number (first_number births counters tuple)) (first_number births counters tuple) here in
    ⊎_elim
    (λ (less : x.number ≤ first_number births counters tuple).
    let found : (b : Generated) × Contains (x ∷ births) b × (has_tuple counters tuple b ≡ true) × (b.number ≡ first_number (x ∷ births) counters tuple) =
    (x, Contains-from_In x (x ∷ births) (inl refl), here, omega arith) in inr found)
    (λ (more : first_number births counters tuple ≤ x.number).
    let same : first_number births counters tuple ≡ first_number (x ∷ births) counters tuple = omega arith in
    subst (Attained (x ∷ births) counters tuple) same later)
    (cases_le x.number (first_number births counters tuple)))
    (λ (other : has_tuple counters tuple x ≡ false).
    let e : first_number (x ∷ births) counters tuple ≡ first_number births counters tuple =
    cond-false (has_tuple counters tuple x) (min x.number (first_number births counters tuple)) (first_number births counters tuple) other in
    subst (Attained (x ∷ births) counters tuple) (sym e) later)
    (cases_Bool (has_tuple counters tuple x))
  where
    cases_le : (m n : ℕ) → (m ≤ n) ⊎ (n ≤ m)
    cases_le m n = ⊎_elim (λ (l : m < n). let h : m ≤ n = omega arith in inl h) (λ (g : n ≤ m). inr g) (cases_lt m n)

pub first_number_is_first : (births : List Generated) (counters : ℕ × ℕ) (tuple : List ℕ) → IsFirstNumber births counters tuple (first_number births counters tuple)
first_number_is_first births counters tuple = record {
  least = λ b among there. least births counters tuple b (In-from_Contains b births among) there;
  attained = attained births counters tuple;
}
