-- Actions put into their place, and the numbers of a set in order.
use Rattle.std.proofs.Common.{◌≡◌, ◌<◌, ◌+◌, ◌++◌, ◌∷◌, [], not, ℕ, suc, Bool, true, false, cond, List, length, map, get_or, refl, sym, ap, ◌∙◌, ⊎_elim, arith}
use Rattle.std.specs.List.{All, filter, insert, position_or_len, prefix_len, range_with_len}
use Rattle.std.specs.List.Sorted.{IsStrictlyIncreasing}
use Rattle.std.proofs.lemmas.Bool.{cases_Bool}
use Rattle.std.proofs.lemmas.List.{map-append}
use Rattle.std.proofs.lemmas.List.Elements.{All-filter}
use Rattle.std.proofs.lemmas.List.FromFn.{get_or-range_with_len, length-range_with_len}
use Rattle.std.proofs.lemmas.List.Kept.{IsStrictlyIncreasing-filter}
use Rattle.wp_task.specs.Set.{has, atoms_in}
use Rattle.wp_task.proofs.AddersLemmas.{filter-range_more}
use Rattle.wp_task.proofs.TaskLemmas.{range_below}
use Rattle.wp_relax.specs.RelaxedPlan.{is_sooner, put_in}

pub put_in-insert : (price : ℕ → ℕ) (xs : List ℕ) (a : ℕ) →
    insert xs (position_or_len (is_sooner price a) xs) a ≡ put_in price xs a
put_in-insert price [] a = refl
put_in-insert price (b ∷ xs) a =
    let t = is_sooner price a in
    let rest = prefix_len (λ x. not (t x)) xs in
    let one_more : 1 + rest ≡ suc rest = omega arith in
    ⊎_elim
    (λ (sooner : t b ≡ true).
    ap (λ (v : Bool). insert (b ∷ xs) (cond (not v) (1 + rest) 0) a) sooner
    ∙ sym (ap (λ (v : Bool). cond v (a ∷ b ∷ xs) (b ∷ put_in price xs a)) sooner))
    (λ (later : t b ≡ false).
    ap (λ (v : Bool). insert (b ∷ xs) (cond (not v) (1 + rest) 0) a) later
    ∙ (ap (λ (i : ℕ). insert (b ∷ xs) i a) one_more
    ∙ (ap (λ (l : List ℕ). b ∷ l) (put_in-insert price xs a)
    ∙ sym (ap (λ (v : Bool). cond v (a ∷ b ∷ xs) (b ∷ put_in price xs a)) later))))
    (cases_Bool (t b))

map_if : {Y : Type 0} (key : ℕ → Y) (n : ℕ) (b : Bool) → map key (cond b (n ∷ []) []) ≡ cond b (key n ∷ []) []
map_if key n true = refl
map_if key n false = refl

pub map-filter_more : {Y : Type 0} (key : ℕ → Y) (t : ℕ → Bool) (n : ℕ) →
    map key (filter t (range_with_len 0 (n + 1))) ≡ map key (filter t (range_with_len 0 n)) ++ cond (t n) (key n ∷ []) []
map-filter_more key t n =
    let before = filter t (range_with_len 0 n) in
    ap (map key) (filter-range_more t n)
    ∙ (map-append key before (cond (t n) (n ∷ []) []) ∙ ap (λ l. map key before ++ l) (map_if key n (t n)))

pub range_rises : (n : ℕ) → IsStrictlyIncreasing (range_with_len 0 n)
range_rises n = λ k within.
    let short : k + 1 < n = omega (arith, length-range_with_len 0 n) in
    let here : get_or (range_with_len 0 n) k 0 ≡ 0 + k = get_or-range_with_len 0 n k 0 (omega arith) in
    let next : get_or (range_with_len 0 n) (k + 1) 0 ≡ 0 + (k + 1) = get_or-range_with_len 0 n (k + 1) 0 short in
    omega arith

pub atoms_in-rises : (set : List Bool) → IsStrictlyIncreasing (atoms_in set)
atoms_in-rises set = IsStrictlyIncreasing-filter (has set) (range_with_len 0 (length set)) (range_rises (length set))

pub atoms_in-below : (set : List Bool) → All (λ p. p < length set) (atoms_in set)
atoms_in-below set = All-filter (has set) (λ p. p < length set) (range_with_len 0 (length set)) (range_below (length set))
