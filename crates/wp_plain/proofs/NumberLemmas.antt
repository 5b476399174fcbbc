-- Nodes by their numbers: a number names one node, and is its place.
use Rattle.std.proofs.Common.{◌≡◌, ◌⊎◌, ℕ, zero, suc, ◌+◌, ◌<◌, ◌≤◌, Bool, true, false, cond, List, [], ◌∷◌, ◌++◌, length, map, get_or, set, filter, refl, sym, ap, ◌∙◌, subst, inl, inr, arith}
use Rattle.std.proofs.lemmas.Bool.{cond-true, cond-false}
use Rattle.wp_task.proofs.Members.{In}
use Rattle.wp_plain.specs.Nodes.{Node}
use Rattle.wp_plain.specs.Numbers.{CountUp}

pub number_from : (n : ℕ) (xs : List Node) → CountUp n xs → (x : Node) → In x xs → n ≤ x.generated.number
number_from n [] counts x there = absurd there
number_from n (y ∷ ys) counts x (inl same) =
    let number : x.generated.number ≡ n = ap (λ z. z.generated.number) same ∙ counts.0 in omega arith
number_from n (y ∷ ys) counts x (inr later) =
    let rest : n + 1 ≤ x.generated.number = number_from (n + 1) ys counts.1 x later in omega arith

pub number_below : (n : ℕ) (xs : List Node) → CountUp n xs → (x : Node) → In x xs → x.generated.number < n + length xs
number_below n [] counts x there = absurd there
number_below n (y ∷ ys) counts x (inl same) =
    let number : x.generated.number ≡ n = ap (λ z. z.generated.number) same ∙ counts.0 in omega arith
number_below n (y ∷ ys) counts x (inr later) =
    let rest : x.generated.number < n + 1 + length ys = number_below (n + 1) ys counts.1 x later in omega arith

pub one_node : (n : ℕ) (xs : List Node) → CountUp n xs → (x y : Node) → In x xs → In y xs →
    x.generated.number ≡ y.generated.number → x ≡ y
one_node n [] counts x y there other same = absurd there
one_node n (z ∷ zs) counts x y (inl here) (inl also) same = here ∙ sym also
one_node n (z ∷ zs) counts x y (inl here) (inr later) same =
    let first : x.generated.number ≡ n = ap (λ z. z.generated.number) here ∙ counts.0 in
    let rest : n + 1 ≤ y.generated.number = number_from (n + 1) zs counts.1 y later in
    absurd (omega arith)
one_node n (z ∷ zs) counts x y (inr later) (inl here) same =
    let first : y.generated.number ≡ n = ap (λ z. z.generated.number) here ∙ counts.0 in
    let rest : n + 1 ≤ x.generated.number = number_from (n + 1) zs counts.1 x later in
    absurd (omega arith)
one_node n (z ∷ zs) counts x y (inr later) (inr also) same = one_node (n + 1) zs counts.1 x y later also same

pub node_there : (n : ℕ) (xs : List Node) → CountUp n xs → (x d : Node) (k : ℕ) → In x xs → x.generated.number ≡ n + k →
    get_or xs k d ≡ x
node_there n [] counts x d k there is = absurd there
node_there n (y ∷ ys) counts x d zero (inl same) is = sym same
node_there n (y ∷ ys) counts x d (suc k) (inl same) is =
    let number : x.generated.number ≡ n = ap (λ z. z.generated.number) same ∙ counts.0 in absurd (omega arith)
node_there n (y ∷ ys) counts x d zero (inr later) is =
    let rest : n + 1 ≤ x.generated.number = number_from (n + 1) ys counts.1 x later in absurd (omega arith)
node_there n (y ∷ ys) counts x d (suc k) (inr later) is = node_there (n + 1) ys counts.1 x d k later (omega arith)

-- ---- lists that grow and change
pub CountUp-append : (n : ℕ) (xs ys : List Node) → CountUp n xs → CountUp (n + length xs) ys → CountUp n (xs ++ ys)
CountUp-append n [] ys counts more = let none : n + 0 ≡ n = omega arith in subst (λ k. CountUp k ys) none more
CountUp-append n (x ∷ xs) ys counts more =
    let later : n + suc (length xs) ≡ n + 1 + length xs = omega arith in
    (counts.0, CountUp-append (n + 1) xs ys counts.1 (subst (λ k. CountUp k ys) later more))

pub CountUp-set : (n : ℕ) (xs : List Node) (k : ℕ) (v : Node) → CountUp n xs → v.generated.number ≡ n + k → CountUp n (set xs k v)
CountUp-set n [] k v counts is = tt
CountUp-set n (x ∷ xs) zero v counts is = (omega arith, counts.1)
CountUp-set n (x ∷ xs) (suc k) v counts is = (counts.0, CountUp-set (n + 1) xs k v counts.1 (omega arith))

pub In-set_cases : {X : Type 0} (xs : List X) (k : ℕ) (v x : X) → In x (set xs k v) → (x ≡ v) ⊎ In x xs
In-set_cases [] k v x there = absurd there
In-set_cases (y ∷ ys) zero v x (inl same) = inl same
In-set_cases (y ∷ ys) zero v x (inr later) = inr (inr later)
In-set_cases (y ∷ ys) (suc k) v x (inl same) = inr (inl same)
In-set_cases {X = X} (y ∷ ys) (suc k) v x (inr later) = by (In-set_cases ys k v x later) where
  by : (x ≡ v) ⊎ In x ys → (x ≡ v) ⊎ In x (y ∷ ys)
  by (inl same) = inl same
  by (inr there) = inr (inr there)

-- an item that is replaced by one that is kept as it was, and has the same value
pub kept-set : {X Y : Type 0} (f : X → Y) (t : X → Bool) (xs : List X) (k : ℕ) (v x : X) →
    get_or xs k x ≡ x → t v ≡ t x → f v ≡ f x → map f (filter t (set xs k v)) ≡ map f (filter t xs)
kept-set f t [] k v x is same alike = refl
kept-set {X = X} {Y = Y} f t (y ∷ ys) zero v x is same alike =
    ap (λ b. map f (cond b (v ∷ filter t ys) (filter t ys))) (same ∙ ap t (sym is)) ∙ by (t y) where
      by : (b : Bool) → map f (cond b (v ∷ filter t ys) (filter t ys)) ≡ map f (cond b (y ∷ filter t ys) (filter t ys))
      by true = ap (λ z. z ∷ map f (filter t ys)) (alike ∙ ap f (sym is))
      by false = refl
kept-set {X = X} {Y = Y} f t (y ∷ ys) (suc k) v x is same alike = by (t y) (kept-set f t ys k v x is same alike) where
  by : (b : Bool) → map f (filter t (set ys k v)) ≡ map f (filter t ys) →
      map f (cond b (y ∷ filter t (set ys k v)) (filter t (set ys k v))) ≡ map f (cond b (y ∷ filter t ys) (filter t ys))
  by true rest = ap (λ l. f y ∷ l) rest
  by false rest = rest

-- an item that passes, replaced by one that does not
pub fewer-set : {X : Type 0} (t : X → Bool) (xs : List X) (k : ℕ) (v x : X) → k < length xs →
    get_or xs k x ≡ x → t v ≡ false → t x ≡ true → length (filter t (set xs k v)) + 1 ≡ length (filter t xs)
fewer-set t [] k v x within is drops keeps = absurd (omega arith)
fewer-set t (y ∷ ys) zero v x within is drops keeps =
    let now : length (filter t (v ∷ ys)) ≡ length (filter t ys) = ap length (cond-false (t v) (v ∷ filter t ys) (filter t ys) drops) in
    let before : length (filter t (y ∷ ys)) ≡ suc (length (filter t ys)) =
    ap length (cond-true (t y) (y ∷ filter t ys) (filter t ys) (ap t is ∙ keeps)) in
    omega arith
fewer-set {X = X} t (y ∷ ys) (suc k) v x within is drops keeps =
    by (t y) (fewer-set t ys k v x (omega arith) is drops keeps) where
      by : (b : Bool) → length (filter t (set ys k v)) + 1 ≡ length (filter t ys) →
          length (cond b (y ∷ filter t (set ys k v)) (filter t (set ys k v))) + 1 ≡ length (cond b (y ∷ filter t ys) (filter t ys))
      by true rest = omega arith
      by false rest = rest
