-- The steps that make the lists of adders.
use Rattle.std.proofs.Common.{◌≡◌, ◌||◌, ◌++◌, ◌∷◌, [], ℕ, ◌+◌, ◌<◌, Bool, true, false, cond, List, length, take, get_or, set, sym, ap, ◌∙◌, ⊎_elim, eqb, arith}
use Rattle.std.specs.List.{filter, range_with_len}
use Rattle.std.specs.List.Sorted.{IsStrictlyIncreasing}
use Rattle.std.proofs.lemmas.Bool.{cases_eq, eq-eqb, ne_eqb}
use Rattle.std.proofs.lemmas.List.{map-id, append-nil, get_or-set_same, get_or-set_other, get_or-take, length-take}
use Rattle.std.proofs.lemmas.List.Folds.{list_any_more, list_any_none}
use Rattle.std.proofs.lemmas.List.FromFn.{filter_of_map_range_with_len_more}
use Rattle.std.proofs.lemmas.List.Kept.{AllPairs-from_increasing}
use Rattle.std.proofs.lemmas.List.Elements.{All-from_get_or}
use Rattle.std.proofs.Math.Bool.{or-false, or-true}
use Rattle.wp_task.specs.declared.acts.Act.{Act}
use Rattle.wp_task.specs.Set.{lists}
use Rattle.wp_task.specs.Task.{act_at}

-- one number more in a filter of a range
pub filter-range_more : (t : ℕ → Bool) (n : ℕ) →
    filter t (range_with_len 0 (n + 1)) ≡ filter t (range_with_len 0 n) ++ cond (t n) (n ∷ []) []
filter-range_more t n = simp map-id at (filter_of_map_range_with_len_more t (λ (k : ℕ). k) 0 n n (omega arith))

-- of a rising list no element stands before its place
pub not_listed_before : (xs : List ℕ) (i : ℕ) → IsStrictlyIncreasing xs → i < length xs → lists (take i xs) (get_or xs i 0) ≡ false
not_listed_before xs i rising within =
    list_any_none (λ q. eqb q (get_or xs i 0)) (take i xs)
    (All-from_get_or (λ q. eqb q (get_or xs i 0) ≡ false) (take i xs) 0
    (λ k short. let before : k < i = omega (arith, length-take i xs) in
    ne_eqb (get_or (take i xs) k 0) (get_or xs i 0)
    (λ (same : get_or (take i xs) k 0 ≡ get_or xs i 0).
    let order = AllPairs-from_increasing xs rising k i 0 before within in
    omega (arith, get_or-take i xs k 0 before))))

-- a number is put at the end of one list
pub push_at : (before now : List (List ℕ)) (places : List ℕ) (i number : ℕ) →
    IsStrictlyIncreasing places → i < length places → get_or places i 0 < length now →
    ((p : ℕ) → get_or now p [] ≡ get_or before p [] ++ cond (lists (take i places) p) (number ∷ []) []) →
    (p : ℕ) → get_or (set now (get_or places i 0) (get_or now (get_or places i 0) [] ++ number ∷ [])) p []
    ≡ get_or before p [] ++ cond (lists (take (i + 1) places) p) (number ∷ []) []
push_at before now places i number rising within there so_far p =
    let x = get_or places i 0 in
    let tail : Bool → List ℕ = λ b. get_or before p [] ++ cond b (number ∷ []) [] in
    let more : lists (take (i + 1) places) p ≡ (lists (take i places) p || eqb x p) = list_any_more (λ q. eqb q p) places i 0 within in
    ⊎_elim
    (λ (same : p ≡ x).
    let none : lists (take i places) p ≡ false = ap (lists (take i places)) same ∙ not_listed_before places i rising within in
    let old : get_or now p [] ≡ get_or before p [] = so_far p ∙ (ap tail none ∙ append-nil (get_or before p [])) in
    let yes : lists (take (i + 1) places) p ≡ true =
    more ∙ (ap (λ b. lists (take i places) p || b) (eq-eqb x p (sym same)) ∙ or-true (lists (take i places) p)) in
    (ap (λ k. get_or (set now x (get_or now x [] ++ number ∷ [])) k []) same
    ∙ get_or-set_same now x (get_or now x [] ++ number ∷ []) [] there)
    ∙ ((ap (λ k. get_or now k [] ++ number ∷ []) (sym same) ∙ ap (λ l. l ++ number ∷ []) old)
    ∙ sym (ap tail yes)))
    (λ (other : p ≡ x → ⊥).
    let same_test : lists (take (i + 1) places) p ≡ lists (take i places) p =
    more ∙ (ap (λ b. lists (take i places) p || b) (ne_eqb x p (λ same. other (sym same))) ∙ or-false (lists (take i places) p)) in
    get_or-set_other now x p (get_or now x [] ++ number ∷ []) [] other ∙ (so_far p ∙ sym (ap tail same_test)))
    (cases_eq p x)

-- the adders among the first actions, with one action more
pub adders_more : (acts : List Act) (a p : ℕ) (act : Act) (before now : List ℕ) → act ≡ act_at acts a →
    before ≡ filter (λ b. lists (act_at acts b).add p) (range_with_len 0 a) →
    now ≡ before ++ cond (lists act.add p) (a ∷ []) [] →
    now ≡ filter (λ b. lists (act_at acts b).add p) (range_with_len 0 (a + 1))
adders_more acts a p act before now is_act so_far pushed =
    pushed ∙ ((λ j. so_far j ++ cond (lists (is_act j).add p) (a ∷ []) [])
    ∙ sym (filter-range_more (λ b. lists (act_at acts b).add p) a))
