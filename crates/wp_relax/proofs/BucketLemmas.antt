-- What waits in buckets, as atoms are put into one of them and taken out.
use Rattle.std.proofs.Common.{◌≡◌, ◌<◌, ◌≤◌, ◌+◌, ◌++◌, ℕ, zero, suc, true, false, cond, eqb, List, [], ◌∷◌, length, map, get_or, set, IsPermutation, Ordering, Less, Equal, Greater, refl, sym, ap, ◌∙◌, subst, ⊎_elim, arith, length-set}
use Rattle.std.specs.List.{All}
use Rattle.std.specs.Ordering.{nat_cmp, ordering_then, is_lt}
use Rattle.std.specs.BinaryHeap.{PopsGreatest}
use Rattle.std.proofs.lemmas.Bool.{cases_lt, lt-ltb}
use Rattle.std.proofs.lemmas.List.{append_assoc, map-append, set-set, set-get_or, get_or-set_same, get_or_read}
use Rattle.std.proofs.lemmas.List.Elements.{All-nil, All-append, All-map, All-weaker, All-from_recursion}
use Rattle.std.proofs.lemmas.List.Sorted.{IsPermutation-sym, IsPermutation-trans, IsPermutation-middle, IsPermutation-append_left, IsPermutation-append_right}
use Rattle.wp_relax.specs.Buckets.{Waiting, waiting_at, bucket_count, in_buckets, AreBuckets}

-- what is put before a list may be put after its first part
to_middle : (xs ys : List Waiting) (w : Waiting) → IsPermutation (w ∷ (xs ++ ys)) (xs ++ w ∷ ys)
to_middle xs ys w = IsPermutation-sym (xs ++ w ∷ ys) (w ∷ (xs ++ ys)) (IsPermutation-middle xs w ys)

-- an atom more waits
pub put_into : (cost i p : ℕ) (buckets : List (List ℕ)) → i < length buckets →
    IsPermutation (waiting_at (cost + i) p ∷ in_buckets cost buckets)
    (in_buckets cost (set buckets i (get_or buckets i [] ++ p ∷ [])))
put_into cost i p [] within = absurd (omega arith)
put_into cost zero p (atoms ∷ buckets) within =
    let rest = in_buckets (suc cost) buckets in
    let here = map (waiting_at cost) atoms in
    let one : Waiting = waiting_at cost p in
    let is : here ++ one ∷ rest ≡ map (waiting_at cost) (atoms ++ p ∷ []) ++ rest =
    sym (append_assoc here (one ∷ []) rest) ∙ ap (λ l. l ++ rest) (sym (map-append (waiting_at cost) atoms (p ∷ []))) in
    subst (λ (c : ℕ). IsPermutation (waiting_at c p ∷ (here ++ rest)) (map (waiting_at cost) (atoms ++ p ∷ []) ++ rest))
    (let e : cost ≡ cost + 0 = omega arith in e)
    (subst (λ (l : List Waiting). IsPermutation (one ∷ (here ++ rest)) l) is (to_middle here rest one))
put_into cost (suc i) p (atoms ∷ buckets) within =
    let rest = in_buckets (suc cost) buckets in
    let more = in_buckets (suc cost) (set buckets i (get_or buckets i [] ++ p ∷ [])) in
    let here = map (waiting_at cost) atoms in
    let one : Waiting = waiting_at (cost + suc i) p in
    let later : IsPermutation (one ∷ rest) more =
    subst (λ (c : ℕ). IsPermutation (waiting_at c p ∷ rest) more) (let e : suc cost + i ≡ cost + suc i = omega arith in e)
    (put_into (suc cost) i p buckets (omega arith)) in
    IsPermutation-trans (one ∷ (here ++ rest)) (here ++ one ∷ rest) (here ++ more)
    (to_middle here rest one) (IsPermutation-append_right here (one ∷ rest) more later)

-- the last atom of a bucket is taken out
pub taken_from : (cost i p : ℕ) (buckets : List (List ℕ)) (left : List ℕ) → i < length buckets → get_or buckets i [] ≡ left ++ p ∷ [] →
    IsPermutation (in_buckets cost buckets) (waiting_at (cost + i) p ∷ in_buckets cost (set buckets i left))
taken_from cost i p buckets left within is =
    let now = set buckets i left in
    let again : set now i (get_or now i [] ++ p ∷ []) ≡ buckets =
    set-set buckets i left (get_or now i [] ++ p ∷ [])
    ∙ (ap (λ l. set buckets i (l ++ p ∷ [])) (get_or-set_same buckets i left [] within)
    ∙ (ap (set buckets i) (sym is) ∙ set-get_or buckets i [])) in
    IsPermutation-sym (waiting_at (cost + i) p ∷ in_buckets cost now) (in_buckets cost buckets)
    (subst (λ (l : List (List ℕ)). IsPermutation (waiting_at (cost + i) p ∷ in_buckets cost now) (in_buckets cost l)) again
    (put_into cost i p now (omega (arith, length-set {A = List ℕ}))))

-- where the first buckets are empty, what waits has a greater cost
pub costs_at_least : (cost k : ℕ) (buckets : List (List ℕ)) → ((i : ℕ) → i < k → get_or buckets i [] ≡ []) →
    All (λ w. cost + k ≤ w.0.0) (in_buckets cost buckets)
costs_at_least cost k [] empty = All-nil (λ w. cost + k ≤ w.0.0)
costs_at_least cost zero (atoms ∷ buckets) empty =
    All-append (λ w. cost + 0 ≤ w.0.0) (map (waiting_at cost) atoms) (in_buckets (suc cost) buckets)
    (All-map (λ (w : Waiting). cost + 0 ≤ w.0.0) (waiting_at cost) atoms (λ i d within. omega arith))
    (All-weaker (λ w. suc cost + 0 ≤ w.0.0) (λ w. cost + 0 ≤ w.0.0) (λ w above. omega arith)
    (in_buckets (suc cost) buckets) (costs_at_least (suc cost) 0 buckets (λ i none. absurd (omega arith))))
costs_at_least cost (suc k) (atoms ∷ buckets) empty =
    let none : atoms ≡ [] = empty 0 (omega arith) in
    subst (λ (l : List ℕ). All (λ w. cost + suc k ≤ w.0.0) (map (waiting_at cost) l ++ in_buckets (suc cost) buckets)) (sym none)
    (All-weaker (λ w. suc cost + k ≤ w.0.0) (λ w. cost + suc k ≤ w.0.0) (λ w above. omega arith)
    (in_buckets (suc cost) buckets) (costs_at_least (suc cost) k buckets (λ i within. empty (suc i) (omega arith))))

-- nothing waits in empty buckets
pub none_in : (cost : ℕ) (buckets : List (List ℕ)) → ((i : ℕ) → i < length buckets → get_or buckets i [] ≡ []) → in_buckets cost buckets ≡ []
none_in cost [] empty = refl
none_in cost (atoms ∷ buckets) empty =
    ap (λ l. map (waiting_at cost) l ++ in_buckets (suc cost) buckets) (empty 0 (omega arith))
    ∙ none_in (suc cost) buckets (λ i within. empty (suc i) (omega arith))

-- an atom more waits in a bucket, or above all buckets
pub pushed : (buckets : List (List ℕ)) (far : List Waiting) (i p : ℕ) (row now : List ℕ) → i < length buckets →
    row ≡ get_or buckets i row → now ≡ row ++ p ∷ [] →
    IsPermutation (waiting_at i p ∷ (in_buckets 0 buckets ++ far)) (in_buckets 0 (set buckets i now) ++ far)
pushed buckets far i p row now within read is =
    let all : now ≡ get_or buckets i [] ++ p ∷ [] = is ∙ ap (λ l. l ++ p ∷ []) (get_or_read buckets i row within read []) in
    subst (λ (l : List ℕ). IsPermutation (waiting_at i p ∷ (in_buckets 0 buckets ++ far)) (in_buckets 0 (set buckets i l) ++ far)) (sym all)
    (IsPermutation-append_left far (waiting_at i p ∷ in_buckets 0 buckets) (in_buckets 0 (set buckets i (get_or buckets i [] ++ p ∷ [])))
    (subst (λ (n : ℕ). IsPermutation (waiting_at n p ∷ in_buckets 0 buckets) (in_buckets 0 (set buckets i (get_or buckets i [] ++ p ∷ []))))
    (let e : 0 + i ≡ i = omega arith in e) (put_into 0 i p buckets within)))

pub pushed_far : (near old new : List Waiting) (w : Waiting) → IsPermutation (w ∷ old) new →
    IsPermutation (w ∷ (near ++ old)) (near ++ new)
pushed_far near old new w moved =
    IsPermutation-trans (w ∷ (near ++ old)) (near ++ w ∷ old) (near ++ new)
    (to_middle near old w) (IsPermutation-append_right near (w ∷ old) new moved)

-- an atom is taken out of a bucket
pub popped : (buckets : List (List ℕ)) (far : List Waiting) (i p : ℕ) (row now : List ℕ) → i < length buckets →
    row ≡ get_or buckets i row → row ≡ now ++ p ∷ [] →
    IsPermutation (in_buckets 0 buckets ++ far) (waiting_at i p ∷ (in_buckets 0 (set buckets i now) ++ far))
popped buckets far i p row now within read is =
    IsPermutation-append_left far (in_buckets 0 buckets) (waiting_at i p ∷ in_buckets 0 (set buckets i now))
    (subst (λ (n : ℕ). IsPermutation (in_buckets 0 buckets) (waiting_at n p ∷ in_buckets 0 (set buckets i now)))
    (let e : 0 + i ≡ i = omega arith in e) (taken_from 0 i p buckets now within (sym (get_or_read buckets i row within read []) ∙ is)))

-- a bucket was found to be empty
pub passed : (buckets : List (List ℕ)) (i : ℕ) (row now : List ℕ) → i < length buckets → row ≡ get_or buckets i row → row ≡ [] → now ≡ [] →
    set buckets i now ≡ buckets
passed buckets i row now within read none left =
    ap (set buckets i) (left ∙ (sym none ∙ read)) ∙ set-get_or buckets i row

-- ---- what comes out first
-- the heap's order, the greatest first: less cost is more
abbrev pub farther : Waiting → Waiting → Ordering
farther v w = ordering_then (nat_cmp w.0.0 v.0.0) (nat_cmp w.0.1 v.0.1)

-- what comes out of the heap first costs no more than what is left
not_farther-le : (v w : Waiting) → is_lt (farther v w) ≡ false → v.0.0 ≤ w.0.0
not_farther-le v w not_less = ⊎_elim
    (λ (less : w.0.0 < v.0.0).
    let is : nat_cmp w.0.0 v.0.0 ≡ Less = ap (λ b. cond b Less (cond (eqb w.0.0 v.0.0) Equal Greater)) (lt-ltb w.0.0 v.0.0 less) in
    let clash : true ≡ false = ap (λ o. is_lt (ordering_then o (nat_cmp w.0.1 v.0.1))) (sym is) ∙ not_less in absurd (cc))
    (λ (more : v.0.0 ≤ w.0.0). more)
    (cases_lt w.0.0 v.0.0)

module _ (buckets : List (List ℕ)) (least : ℕ) (far all : List Waiting) (at : AreBuckets buckets least far)
    (same : in_buckets 0 buckets ++ far ≡ all) where
  -- from a bucket, where those before it are empty
  pub near_first : least < bucket_count → All (λ w. least ≤ w.0.0) all
  near_first within = subst (All (λ (w : Waiting). least ≤ w.0.0)) same
      (All-append (λ (w : Waiting). least ≤ w.0.0) (in_buckets 0 buckets) far
      (All-weaker (λ (w : Waiting). 0 + least ≤ w.0.0) (λ w. least ≤ w.0.0) (λ w above. omega arith) (in_buckets 0 buckets)
      (costs_at_least 0 least buckets at.empty))
      (All-weaker (λ (w : Waiting). bucket_count ≤ w.0.0) (λ w. least ≤ w.0.0) (λ w above. omega arith) far at.above))

  -- where all buckets are empty, the heap has all that waits
  pub all_far : bucket_count ≤ least → far ≡ all
  all_far past = ap (λ l. l ++ far) (sym (none_in 0 buckets (λ i within. at.empty i (omega (arith, at.count))))) ∙ same

  pub far_first : bucket_count ≤ least → (w : Waiting) (left : List Waiting) → PopsGreatest farther far w left →
      All (λ v. w.0.0 ≤ v.0.0) all
  far_first past w left pops = subst (All (λ (v : Waiting). w.0.0 ≤ v.0.0)) (all_far past)
      (All-weaker (λ v. is_lt (farther w v) ≡ false) (λ v. w.0.0 ≤ v.0.0) (not_farther-le w) far
      (All-from_recursion (λ v. is_lt (farther w v) ≡ false) far (pops at.ordered).1))

  pub far_taken : bucket_count ≤ least → (w : Waiting) (left : List Waiting) → IsPermutation far (w ∷ left) →
      IsPermutation all (w ∷ (in_buckets 0 buckets ++ left))
  far_taken past w left moved =
      let none : in_buckets 0 buckets ≡ [] = none_in 0 buckets (λ i within. at.empty i (omega (arith, at.count))) in
      subst (λ (l : List Waiting). IsPermutation all (w ∷ (l ++ left))) (sym none)
      (subst (λ (l : List Waiting). IsPermutation l (w ∷ left)) (all_far past) moved)
