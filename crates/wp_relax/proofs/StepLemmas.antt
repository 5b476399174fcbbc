-- Numbers that are changed at listed places, one place after another.
use Rattle.std.proofs.Common.{◌≡◌, ◌<◌, ◌+◌, ◌||◌, ℕ, Bool, true, cond, List, length, take, get_or, set, eqb, sym, ap, ◌∙◌, ⊎_elim}
use Rattle.std.specs.List.Sorted.{IsStrictlyIncreasing}
use Rattle.std.proofs.lemmas.Bool.{cases_eq, eq-eqb, ne_eqb, or_right}
use Rattle.std.proofs.lemmas.List.{get_or-set_same, get_or-set_other}
use Rattle.std.proofs.lemmas.List.Folds.{list_any_more}
use Rattle.std.proofs.Math.Bool.{or-false}
use Rattle.wp_task.specs.Set.{lists}
use Rattle.wp_task.proofs.AddersLemmas.{not_listed_before}

-- one place more is listed
pub listed-here : (places : List ℕ) (i : ℕ) → i < length places → lists (take (i + 1) places) (get_or places i 0) ≡ true
listed-here places i within =
    let x = get_or places i 0 in
    list_any_more (λ q. eqb q x) places i 0 within ∙ or_right (lists (take i places) x) (eqb x x) (eq-eqb x x (λ j. x))

pub listed-other : (places : List ℕ) (i a : ℕ) → i < length places → (a ≡ get_or places i 0 → ⊥) →
    lists (take (i + 1) places) a ≡ lists (take i places) a
listed-other places i a within other =
    let x = get_or places i 0 in
    list_any_more (λ q. eqb q a) places i 0 within
    ∙ (ap (λ b. lists (take i places) a || b) (ne_eqb x a (λ same. other (sym same))) ∙ or-false (lists (take i places) a))

-- a place that is not changed yet
pub unchanged_yet : (f : ℕ → ℕ) (before now places : List ℕ) (i : ℕ) → IsStrictlyIncreasing places → i < length places →
    ((a : ℕ) → get_or now a 0 ≡ cond (lists (take i places) a) (f (get_or before a 0)) (get_or before a 0)) →
    get_or now (get_or places i 0) 0 ≡ get_or before (get_or places i 0) 0
unchanged_yet f before now places i rising within so_far =
    let x = get_or places i 0 in
    so_far x ∙ ap (λ b. cond b (f (get_or before x 0)) (get_or before x 0)) (not_listed_before places i rising within)

pub changed_next : (f : ℕ → ℕ) (before now places : List ℕ) (i : ℕ) → IsStrictlyIncreasing places → i < length places →
    get_or places i 0 < length now →
    ((a : ℕ) → get_or now a 0 ≡ cond (lists (take i places) a) (f (get_or before a 0)) (get_or before a 0)) →
    (a : ℕ) → get_or (set now (get_or places i 0) (f (get_or now (get_or places i 0) 0))) a 0
    ≡ cond (lists (take (i + 1) places) a) (f (get_or before a 0)) (get_or before a 0)
changed_next f before now places i rising within there so_far a =
    let x = get_or places i 0 in
    let value : Bool → ℕ = λ b. cond b (f (get_or before a 0)) (get_or before a 0) in
    ⊎_elim
    (λ (same : a ≡ x).
    ap (λ k. get_or (set now x (f (get_or now x 0))) k 0) same
    ∙ (get_or-set_same now x (f (get_or now x 0)) 0 there
    ∙ (ap f (unchanged_yet f before now places i rising within so_far)
    ∙ (ap (λ k. f (get_or before k 0)) (sym same)
    ∙ sym (ap value (ap (lists (take (i + 1) places)) same ∙ listed-here places i within))))))
    (λ (other : a ≡ x → ⊥).
    get_or-set_other now x a (f (get_or now x 0)) 0 other ∙ (so_far a ∙ sym (ap value (listed-other places i a within other))))
    (cases_eq a x)
