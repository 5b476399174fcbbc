-- The order of what waits, as the comparison of the tree set and as the relation of the definitions.
use Rattle.std.proofs.Common.{◌≡◌, ◌⊎◌, ℕ, ◌+◌, ◌<◌, List, get_or, refl, sym, ap, ◌∙◌, subst, inl, inr, ⊎_elim, arith}
use Rattle.std.specs.Cmp.{IsTotalOrder, nat_cmp_is}
use Rattle.std.specs.List.Sorted.{IsStrictlySortedBy}
use Rattle.std.specs.declared.cmp.Ordering.{Ordering}
use Rattle.std.specs.declared.cmp.Ordering.TheVariants.{Less, Equal, Greater}
use Rattle.std.specs.Ordering.{MatchOrdering, nat_cmp, ordering_then, ordering_reverse}
use Rattle.std.proofs.lemmas.Cmp.{ranked, nat_cmp_total, on_total, then_total}
use Rattle.std.proofs.lemmas.Map.Keys.{Less-from_sorted, sorted_from_all_adjacent}
use Rattle.std.proofs.lemmas.Map.Lookups.{CmpEqualImpliesEq}
use Rattle.wp_queue.specs.declared.queue.Waiting.{Waiting}
use Rattle.wp_queue.specs.OpenList.{waiting, IsBefore, InOrder}

abbrev pub order : Waiting → Waiting → Ordering
order a b = ordering_then (nat_cmp a.w b.w) (ordering_then (nat_cmp a.g b.g) (nat_cmp a.number b.number))

pub order_total : IsTotalOrder order
order_total = then_total (on_total (λ x. x.w) nat_cmp_total) (then_total (on_total (λ x. x.g) nat_cmp_total) (on_total (λ x. x.number) nat_cmp_total))

-- ---- what a comparison says, and back
less : (x y : ℕ) → nat_cmp x y ≡ Less → x < y
less x y e = subst (λ (o : Ordering). MatchOrdering o (x < y) (x ≡ y) (y < x)) e (ranked x y (nat_cmp x y) refl)

equal : (x y : ℕ) → nat_cmp x y ≡ Equal → x ≡ y
equal x y e = subst (λ (o : Ordering). MatchOrdering o (x < y) (x ≡ y) (y < x)) e (ranked x y (nat_cmp x y) refl)

is_less : (x y : ℕ) → x < y → nat_cmp x y ≡ Less
is_less x y h = sym (nat_cmp_is x y Less h)

is_equal : (x y : ℕ) → x ≡ y → nat_cmp x y ≡ Equal
is_equal x y h = sym (nat_cmp_is x y Equal h)

then_less : (o p : Ordering) → ordering_then o p ≡ Less → (o ≡ Less) ⊎ ((o ≡ Equal) × (p ≡ Less))
then_less Less p e = inl refl
then_less Equal p e = inr (refl, e)
then_less Greater p e = absurd (cc)

then_equal : (o p : Ordering) → ordering_then o p ≡ Equal → (o ≡ Equal) × (p ≡ Equal)
then_equal Less p e = absurd (cc)
then_equal Equal p e = (refl, e)
then_equal Greater p e = absurd (cc)

pub exact : CmpEqualImpliesEq order
exact a b e =
    let outer = then_equal (nat_cmp a.w b.w) (ordering_then (nat_cmp a.g b.g) (nat_cmp a.number b.number)) e in
    let inner = then_equal (nat_cmp a.g b.g) (nat_cmp a.number b.number) outer.1 in
    let w : a.w ≡ b.w = equal a.w b.w outer.0 in
    let g : a.g ≡ b.g = equal a.g b.g inner.0 in
    let number : a.number ≡ b.number = equal a.number b.number inner.1 in
    (λ j. waiting (w j) (g j) (number j))

pub before_from_less : (a b : Waiting) → order a b ≡ Less → IsBefore a b
before_from_less a b e = ⊎_elim
    (λ (w : nat_cmp a.w b.w ≡ Less). inl (less a.w b.w w))
    (λ (tie : (nat_cmp a.w b.w ≡ Equal) × (ordering_then (nat_cmp a.g b.g) (nat_cmp a.number b.number) ≡ Less)).
    let later : (a.g < b.g) ⊎ ((a.g ≡ b.g) × (a.number < b.number)) = ⊎_elim
    (λ (g : nat_cmp a.g b.g ≡ Less). inl (less a.g b.g g))
    (λ (both : (nat_cmp a.g b.g ≡ Equal) × (nat_cmp a.number b.number ≡ Less)).
    inr (equal a.g b.g both.0, less a.number b.number both.1))
    (then_less (nat_cmp a.g b.g) (nat_cmp a.number b.number) tie.1) in
    inr (equal a.w b.w tie.0, later))
    (then_less (nat_cmp a.w b.w) (ordering_then (nat_cmp a.g b.g) (nat_cmp a.number b.number)) e)

pub less_from_before : (a b : Waiting) → IsBefore a b → order a b ≡ Less
less_from_before a b h = ⊎_elim
    (λ (w : a.w < b.w). ap (λ (o : Ordering). ordering_then o (ordering_then (nat_cmp a.g b.g) (nat_cmp a.number b.number))) (is_less a.w b.w w))
    (λ (tie : (a.w ≡ b.w) × ((a.g < b.g) ⊎ ((a.g ≡ b.g) × (a.number < b.number)))).
    ap (λ (o : Ordering). ordering_then o (ordering_then (nat_cmp a.g b.g) (nat_cmp a.number b.number))) (is_equal a.w b.w tie.0) ∙ ⊎_elim
    (λ (g : a.g < b.g). ap (λ (o : Ordering). ordering_then o (nat_cmp a.number b.number)) (is_less a.g b.g g))
    (λ (both : (a.g ≡ b.g) × (a.number < b.number)).
    ap (λ (o : Ordering). ordering_then o (nat_cmp a.number b.number)) (is_equal a.g b.g both.0) ∙ is_less a.number b.number both.1)
    tie.1)
    h

-- no two come before each other, and none before itself
pub one_way : (a b : Waiting) → IsBefore a b → IsBefore b a → ⊥
one_way a b h k =
    let there : order a b ≡ Less = less_from_before a b h in
    let back : order a b ≡ Greater = order_total.antisymm a b ∙ ap ordering_reverse (less_from_before b a k) in
    let clash : Less ≡ Greater = sym there ∙ back in
    absurd (cc)

-- ---- lists in order
pub in_order : (queue : List Waiting) → IsStrictlySortedBy order queue → InOrder queue
in_order queue sorted = λ i j d before within.
    before_from_less (get_or queue i d) (get_or queue j d) (Less-from_sorted order queue i j d sorted before within)

pub sorted_from : (queue : List Waiting) → InOrder queue → IsStrictlySortedBy order queue
sorted_from queue ordered =
    let none = waiting 0 0 0 in
    sorted_from_all_adjacent order_total queue none (λ k within.
    less_from_before (get_or queue k none) (get_or queue (k + 1) none) (ordered k (k + 1) none (omega arith) within))
