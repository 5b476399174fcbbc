-- Rows with a mark for each declared pair lead exactly to the types above: what is closed from them is the computed subtypes.
use Rattle.std.proofs.Common.{◌≡◌, ◌≢◌, ℕ, zero, suc, ◌<◌, ◌≤◌, ◌==◌, ◌&&◌, ◌||◌, ◌⊎◌, inl, inr, ⊎_elim, Bool, true, false, cond, List, [], ◌∷◌, length, map, fold, get_or, slice_set, refl, sym, ◌∙◌, ap, subst, arith, get_or-set_same, get_or-set_other}
use Rattle.std.specs.List.{range_with_len, Contains}
use Rattle.std.specs.Cmp.{both_ways}
use Rattle.std.proofs.lemmas.Bool.{cases_eq, cases_lt}
use Rattle.std.proofs.lemmas.Bool.Decides.{Decides-eqb}
use Rattle.std.proofs.lemmas.List.{ext_get_or, get_or_past}
use Rattle.std.proofs.lemmas.List.FromFn.{get_or-map-range_with_len, length-map-range_with_len}
use Rattle.std.proofs.Math.ListN.{length-set}
use Rattle.wp_syntax.specs.declared.records.Typed.{Typed}
use Rattle.wp_lift.specs.Typing.{IsSubtype, itself, top, step, is_flagged, flags_of, grown_by, pairs_of, subtypes_of}
use Rattle.wp_lift.specs.Rows.{IsClosure, IsSquare, Leads, once, by_way, is_marked, marked}
use Rattle.wp_lift.proofs.SubtypeLemmas.{Bounded, flags_at, flags_length, first_above, in_range, pairs_bounded, rounds_length, rows-subtypes, or_true, Above}

flag : List (List Bool) → ℕ → ℕ → Bool
flag rows a b = get_or (get_or rows a []) b false

-- what is flagged is above
Sound : List (ℕ × ℕ) → ℕ → List (List Bool) → Type 0
Sound pairs n rows = (a b : ℕ) → a < n → b < n → flag rows a b ≡ true → IsSubtype pairs a b

above_all : {pairs : List (ℕ × ℕ)} {a b c : ℕ} → IsSubtype pairs a b → IsSubtype pairs b c → IsSubtype pairs a c
above_all (itself a) next = next
above_all (top a b first) next = top a _ (above_all first next)
above_all (step a m b pair first) next = step a m _ pair (above_all first next)

-- the marks of the declared pairs
mark_row : (rows : List (List Bool)) (pair : ℕ × ℕ) → pair.0 < length rows
    → get_or (marked rows pair) pair.0 [] ≡ slice_set (get_or rows pair.0 []) pair.1 true
mark_row rows pair h = get_or-set_same rows pair.0 (slice_set (get_or rows pair.0 []) pair.1 true) [] h

mark_other : (rows : List (List Bool)) (pair : ℕ × ℕ) (a : ℕ) → a ≢ pair.0 → get_or (marked rows pair) a [] ≡ get_or rows a []
mark_other rows pair a other = get_or-set_other rows pair.0 a (slice_set (get_or rows pair.0 []) pair.1 true) [] other

mark_square : (n : ℕ) (rows : List (List Bool)) (pair : ℕ × ℕ) → IsSquare n rows → IsSquare n (marked rows pair)
mark_square n rows pair square = record {
  count = length-set rows pair.0 (slice_set (get_or rows pair.0 []) pair.1 true) ∙ square.count;
  width = λ a h. ⊎_elim
      (λ (same : a ≡ pair.0).
      subst (λ (k : ℕ). length (get_or (marked rows pair) k []) ≡ n) (sym same)
      (ap length (mark_row rows pair (omega (arith, square.count))) ∙ length-set (get_or rows pair.0 []) pair.1 true
      ∙ square.width pair.0 (omega arith)))
      (λ (other : a ≢ pair.0). ap length (mark_other rows pair a other) ∙ square.width a h)
      (cases_eq a pair.0);
}

mark_split : (n : ℕ) (rows : List (List Bool)) (pair : ℕ × ℕ) (a b : ℕ) → IsSquare n rows → a < n → b < n
    → flag (marked rows pair) a b ≡ true → (flag rows a b ≡ true) ⊎ ((a ≡ pair.0) × (b ≡ pair.1))
unfolding flag
mark_split n rows pair a b square ha hb h = ⊎_elim
    (λ (same : a ≡ pair.0).
    ⊎_elim
    (λ (same_b : b ≡ pair.1). inr (same, same_b))
    (λ (other : b ≢ pair.1).
    let here : get_or (slice_set (get_or rows pair.0 []) pair.1 true) b false ≡ true =
    sym (ap (λ (row : List Bool). get_or row b false) (mark_row rows pair (omega (arith, square.count))))
    ∙ subst (λ (k : ℕ). get_or (get_or (marked rows pair) k []) b false ≡ true) same h in
    inl (subst (λ (k : ℕ). get_or (get_or rows k []) b false ≡ true) (sym same)
    (sym (get_or-set_other (get_or rows pair.0 []) pair.1 b true false other) ∙ here)))
    (cases_eq b pair.1))
    (λ (other : a ≢ pair.0). inl (sym (ap (λ (row : List Bool). get_or row b false) (mark_other rows pair a other)) ∙ h))
    (cases_eq a pair.0)

mark_own : (n : ℕ) (rows : List (List Bool)) (pair : ℕ × ℕ) → IsSquare n rows → pair.0 < n → pair.1 < n
    → flag (marked rows pair) pair.0 pair.1 ≡ true
unfolding flag
mark_own n rows pair square ha hb =
    ap (λ (row : List Bool). get_or row pair.1 false) (mark_row rows pair (omega (arith, square.count)))
    ∙ get_or-set_same (get_or rows pair.0 []) pair.1 true false (omega (arith, square.width pair.0 ha))

mark_keeps : (n : ℕ) (rows : List (List Bool)) (pair : ℕ × ℕ) (a b : ℕ) → IsSquare n rows → a < n → b < n
    → flag rows a b ≡ true → flag (marked rows pair) a b ≡ true
unfolding flag
mark_keeps n rows pair a b square ha hb h = ⊎_elim
    (λ (same : a ≡ pair.0).
    subst (λ (k : ℕ). get_or (get_or (marked rows pair) k []) b false ≡ true) (sym same)
    (ap (λ (row : List Bool). get_or row b false) (mark_row rows pair (omega (arith, square.count)))
    ∙ ⊎_elim
    (λ (same_b : b ≡ pair.1).
    subst (λ (k : ℕ). get_or (slice_set (get_or rows pair.0 []) pair.1 true) k false ≡ true) (sym same_b)
    (get_or-set_same (get_or rows pair.0 []) pair.1 true false (omega (arith, square.width pair.0 (omega arith)))))
    (λ (other : b ≢ pair.1).
    get_or-set_other (get_or rows pair.0 []) pair.1 b true false other
    ∙ subst (λ (k : ℕ). get_or (get_or rows k []) b false ≡ true) same h)
    (cases_eq b pair.1)))
    (λ (other : a ≢ pair.0). ap (λ (row : List Bool). get_or row b false) (mark_other rows pair a other) ∙ h)
    (cases_eq a pair.0)

marks_square : (n : ℕ) (rows : List (List Bool)) (pairs : List (ℕ × ℕ)) → IsSquare n rows → IsSquare n (fold marked rows pairs)
marks_square n rows [] square = square
marks_square n rows (pair ∷ pairs) square = marks_square n (marked rows pair) pairs (mark_square n rows pair square)

marks_keep : (n : ℕ) (rows : List (List Bool)) (pairs : List (ℕ × ℕ)) (a b : ℕ) → IsSquare n rows → a < n → b < n
    → flag rows a b ≡ true → flag (fold marked rows pairs) a b ≡ true
marks_keep n rows [] a b square ha hb h = h
marks_keep n rows (pair ∷ pairs) a b square ha hb h =
    marks_keep n (marked rows pair) pairs a b (mark_square n rows pair square) ha hb (mark_keeps n rows pair a b square ha hb h)

marks_there : (n : ℕ) (rows : List (List Bool)) (pairs : List (ℕ × ℕ)) (k : ℕ) (pair : ℕ × ℕ) → IsSquare n rows → pair.0 < n → pair.1 < n
    → k < length pairs → get_or pairs k pair ≡ pair → flag (fold marked rows pairs) pair.0 pair.1 ≡ true
marks_there n rows [] k pair square ha hb h e = absurd (omega arith)
marks_there n rows (first ∷ pairs) zero pair square ha hb h e =
    marks_keep n (marked rows first) pairs pair.0 pair.1 (mark_square n rows first square) ha hb
    (subst (λ (q : ℕ × ℕ). flag (marked rows q) pair.0 pair.1 ≡ true) (sym e) (mark_own n rows pair square ha hb))
marks_there n rows (first ∷ pairs) (suc k) pair square ha hb h e =
    marks_there n (marked rows first) pairs k pair (mark_square n rows first square) ha hb (omega arith) e

Within : List (ℕ × ℕ) → List (ℕ × ℕ) → Type 0
Within pairs [] = Unit {0}
Within pairs (one ∷ some) = Contains pairs one × Within pairs some

within_more : (one : ℕ × ℕ) (pairs some : List (ℕ × ℕ)) → Within pairs some → Within (one ∷ pairs) some
unfolding Within
within_more one pairs [] h = tt
within_more one pairs (first ∷ some) h =
    ((suc h.0.0, (let lt = h.0.1 in omega arith), h.0.2), within_more one pairs some h.1)

within_all : (pairs : List (ℕ × ℕ)) → Within pairs pairs
unfolding Within
within_all [] = tt
within_all (one ∷ pairs) = ((0, omega arith, refl), within_more one pairs pairs (within_all pairs))

marks_sound : (pairs : List (ℕ × ℕ)) (n : ℕ) (rows : List (List Bool)) (some : List (ℕ × ℕ)) → Within pairs some → IsSquare n rows
    → Sound pairs n rows → Sound pairs n (fold marked rows some)
unfolding Within Sound
marks_sound pairs n rows [] within square sound = sound
marks_sound pairs n rows (one ∷ some) within square sound =
    marks_sound pairs n (marked rows one) some within.1 (mark_square n rows one square)
    (λ a b ha hb h. elim (mark_split n rows one a b square ha hb h) [
      | inl here ↦ sound a b ha hb here
      | inr same ↦ step a b b (subst (λ (q : ℕ × ℕ). Contains pairs q) (λ i. (sym same.0 i, sym same.1 i)) within.0) (itself b)
    ])

-- the rows at the start: each type has itself and `object`
rows_of : ℕ → List (List Bool)
rows_of n = map (flags_of n) (range_with_len 0 n)

row_of : (n a : ℕ) → a < n → get_or (rows_of n) a [] ≡ flags_of n a
unfolding rows_of
row_of n a h = get_or-map-range_with_len (flags_of n) 0 n a a [] h (omega arith)

rows_square : (n : ℕ) → IsSquare n (rows_of n)
unfolding rows_of
rows_square n = record {
  count = length-map-range_with_len (flags_of n) 0 n;
  width = λ a h. ap length (row_of n a h) ∙ flags_length n a;
}

rows_sound : (pairs : List (ℕ × ℕ)) (n : ℕ) → Sound pairs n (rows_of n)
unfolding Sound flag Above
rows_sound pairs n a b ha hb h =
    first_above pairs n a b (sym (ap (λ (row : List Bool). get_or row b false) (row_of n a ha)) ∙ h)

rows_own : (n a : ℕ) → a < n → flag (rows_of n) a a ≡ true
unfolding flag
rows_own n a h =
    ap (λ (row : List Bool). get_or row a false) (row_of n a h) ∙ flags_at n a a h ∙ ap (λ (t : Bool). t || (a == 0)) ((Decides-eqb a a).1 refl)

rows_object : (n a : ℕ) → a < n → flag (rows_of n) a 0 ≡ true
unfolding flag
rows_object n a h =
    ap (λ (row : List Bool). get_or row 0 false) (row_of n a h) ∙ flags_at n a 0 (omega arith)
    ∙ ap (λ (t : Bool). (0 == a) || t) ((Decides-eqb 0 0).1 refl) ∙ or_true (0 == a)

-- flags have their place in a square
marked_in : (n : ℕ) (rows : List (List Bool)) (a b : ℕ) → IsSquare n rows → is_marked rows a b ≡ true → (a < n) × (b < n)
marked_in n rows a b square h =
    let below : a < n = ⊎_elim
    (λ (lt : a < n). lt)
    (λ (past : n ≤ a).
    let none : get_or rows a [] ≡ [] = get_or_past rows a [] (omega (arith, square.count)) in
    let no : false ≡ true = ap (λ (row : List Bool). get_or row b false) (sym none) ∙ h in cc)
    (cases_lt a n) in
    (below, (let lt = in_range (get_or rows a []) b h in omega (arith, square.width a below)))

-- the marked rows lead to what is above, and to nothing else
leads_above : {pairs : List (ℕ × ℕ)} {n : ℕ} {rows : List (List Bool)} {a c : ℕ} → IsSquare n rows → Sound pairs n rows → Leads rows a c
    → IsSubtype pairs a c
unfolding Sound flag
leads_above {n = n} {rows = rows} square sound (once a c h) = let at = marked_in n rows a c square h in sound a c at.0 at.1 h
leads_above {n = n} {rows = rows} square sound (by_way a m c h more) =
    let at = marked_in n rows a m square h in
    above_all (sound a m at.0 at.1 h) (leads_above square sound more)

above_leads : (pairs : List (ℕ × ℕ)) (n : ℕ) → Bounded n pairs → {a b : ℕ} → IsSubtype pairs a b → a < n
    → Leads (fold marked (rows_of n) pairs) a b
unfolding Bounded flag
above_leads pairs n bounded (itself a) ha = once a a (marks_keep n (rows_of n) pairs a a (rows_square n) ha ha (rows_own n a ha))
above_leads pairs n bounded (top a c above) ha =
    let object : 0 < n = omega arith in
    by_way a 0 c (marks_keep n (rows_of n) pairs a 0 (rows_square n) ha object (rows_object n a ha)) (above_leads pairs n bounded above object)
above_leads pairs n bounded (step a m c first above) ha =
    let hm : m < n = bounded a m first in
    by_way a m c (marks_there n (rows_of n) pairs first.0 (a, m) (rows_square n) ha hm first.1 first.2) (above_leads pairs n bounded above hm)

pub start-square : (n : ℕ) (pairs : List (ℕ × ℕ)) → IsSquare n (fold marked (map (flags_of n) (range_with_len 0 n)) pairs)
unfolding rows_of
start-square n pairs = marks_square n (rows_of n) pairs (rows_square n)

pub closed-subtypes : (types : List (List ℕ)) (declared : List Typed) (rows : List (List Bool))
    → IsClosure (length types) (fold marked (map (flags_of (length types)) (range_with_len 0 (length types))) (pairs_of types declared)) rows
    → rows ≡ subtypes_of types declared
unfolding rows_of subtypes_of
closed-subtypes types declared rows closure =
    let n = length types in
    let pairs = pairs_of types declared in
    let square = marks_square n (rows_of n) pairs (rows_square n) in
    let sound = marks_sound pairs n (rows_of n) pairs (within_all pairs) (rows_square n) (rows_sound pairs n) in
    let wanted : ℕ → List Bool = λ a. grown_by n pairs (flags_of n a) in
    let wanted_row : (a : ℕ) → a < n → get_or (subtypes_of types declared) a [] ≡ wanted a =
    λ a h. get_or-map-range_with_len wanted 0 n a a [] h (omega arith) in
    ext_get_or [] rows (subtypes_of types declared) (closure.square.count ∙ sym (length-map-range_with_len wanted 0 n)) (λ a h.
    let ha : a < n = omega (arith, closure.square.count) in
    let width : length (get_or rows a []) ≡ n = closure.square.width a ha in
    ext_get_or false (get_or rows a []) (get_or (subtypes_of types declared) a [])
    (width ∙ sym (ap length (wanted_row a ha) ∙ rounds_length n pairs (flags_of n a) ∙ flags_length n a)) (λ b k.
    let hb : b < n = omega arith in
    let same = rows-subtypes types declared a b ha hb in
    let reached = closure.reached a ha b in
    both_ways (get_or (get_or rows a []) b false) (get_or (get_or (subtypes_of types declared) a []) b false)
    (λ yes. same.1 (leads_above square sound (reached.0 yes)))
    (λ yes. reached.1 (above_leads pairs n (pairs_bounded types declared (omega arith)) (same.0 yes) ha))))
