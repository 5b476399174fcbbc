-- Lists that lie one after another in one.
use Rattle.std.proofs.Common.{◌≡◌, ◌++◌, ◌∷◌, [], ℕ, ◌+◌, ◌-◌, ◌<◌, ◌≤◌, List, length, map, take, drop, get_or, ap, ◌∙◌, ⊎_elim, arith}
use Rattle.std.specs.List.{range_with_len, slice_range}
use Rattle.std.proofs.Math.Seq.{take-length, drop-append_seam, get_or-append_seam}
use Rattle.std.proofs.lemmas.Bool.{cases_lt, cases_eq}
use Rattle.std.proofs.lemmas.List.{length-append, take-append-le, drop-append-le, length-drop, get_or_append_left, get_or_past}
use Rattle.std.proofs.lemmas.List.FromFn.{fill_by_all, map-range_with_len_more, length-map-range_with_len, get_or-map-range_with_len}
use Rattle.wp_task.specs.Flat.{lists_in, AreOffsets}

-- a list that lies before what is appended
slice_before : (items more : List ℕ) (from to : ℕ) → from ≤ to → to ≤ length items → slice_range (items ++ more) from to ≡ slice_range items from to
slice_before items more from to rises within =
    ap (take (to - from)) (drop-append-le from items more (omega arith))
    ∙ take-append-le (to - from) (drop from items) more (omega (arith, length-drop from items))

slice_last : (items more : List ℕ) → slice_range (items ++ more) (length items) (length (items ++ more)) ≡ more
slice_last items more =
    let long : length (items ++ more) - length items ≡ length more = omega (arith, length-append items more) in
    (λ j. take (long j) (drop-append_seam items more j)) ∙ take-length more

module _ (offsets items list : List ℕ) (are : AreOffsets offsets items) where
  abbrev pub longer : List ℕ
  longer = offsets ++ length (items ++ list) ∷ []

  length-longer : length longer ≡ length offsets + 1
  length-longer = length-append offsets (length (items ++ list) ∷ [])

  before : (i : ℕ) → i < length offsets → get_or longer i 0 ≡ get_or offsets i 0
  before i within = get_or_append_left offsets (length (items ++ list) ∷ []) 0 i within

  at_end : get_or longer (length offsets) 0 ≡ length (items ++ list)
  at_end = get_or-append_seam offsets (length (items ++ list)) [] 0

  pub still_offsets : AreOffsets longer (items ++ list)
  still_offsets = record {
    some = omega (arith, length-longer);
    rising = λ i within. ⊎_elim
        (λ (early : i + 1 < length offsets).
        omega (arith, before i (omega arith), before (i + 1) early, are.rising i early))
        (λ (late : length offsets ≤ i + 1).
        let place : i + 1 ≡ length offsets = omega (arith, length-longer) in
        let next : get_or longer (i + 1) 0 ≡ length (items ++ list) = ap (λ k. get_or longer k 0) place ∙ at_end in
        omega (arith, next, before i (omega arith), are.within i, length-append items list))
        (cases_lt (i + 1) (length offsets));
    within = λ i. ⊎_elim
        (λ (early : i < length offsets). omega (arith, before i early, are.within i, length-append items list))
        (λ (late : length offsets ≤ i). ⊎_elim
        (λ (same : i ≡ length offsets). omega (arith, ap (λ k. get_or longer k 0) same ∙ at_end))
        (λ (other : i ≡ length offsets → ⊥).
        let past : length longer ≤ i = ⊎_elim
        (λ (less : i < length longer). absurd (other (omega (arith, length-longer))))
        (λ (more : length longer ≤ i). more)
        (cases_lt i (length longer)) in
        omega (arith, get_or_past longer i 0 past))
        (cases_eq i (length offsets)))
        (cases_lt i (length offsets));
    last = ap (λ k. get_or longer k 0) (let e : length longer - 1 ≡ length offsets = omega (arith, length-longer) in e) ∙ at_end;
  }

  abbrev piece : List ℕ → List ℕ → ℕ → List ℕ
  piece ofs all i = slice_range all (get_or ofs i 0) (get_or ofs (i + 1) 0)

  piece_before : (i : ℕ) → i < length offsets - 1 → piece longer (items ++ list) i ≡ piece offsets items i
  piece_before i within =
      (λ j. slice_range (items ++ list) (before i (omega arith) j) (before (i + 1) (omega arith) j))
      ∙ slice_before items list (get_or offsets i 0) (get_or offsets (i + 1) 0) (are.rising i (omega arith)) (are.within (i + 1))

  piece_last : piece longer (items ++ list) (length offsets - 1) ≡ list
  piece_last =
      let at : length offsets - 1 + 1 ≡ length offsets = omega (arith, are.some) in
      (λ j. slice_range (items ++ list) ((before (length offsets - 1) (omega (arith, are.some)) ∙ are.last) j) ((ap (λ k. get_or longer k 0) at ∙ at_end) j))
      ∙ slice_last items list

  pub pushed : lists_in longer (items ++ list) ≡ lists_in offsets items ++ list ∷ []
  pushed =
      let n = length offsets - 1 in
      let count : length longer - 1 ≡ n + 1 = omega (arith, length-longer, are.some) in
      ap (λ k. map (piece longer (items ++ list)) (range_with_len 0 k)) count
      ∙ (map-range_with_len_more (piece longer (items ++ list)) 0 n n (omega arith)
      ∙ (λ j. fill_by_all (piece offsets items) (map (piece longer (items ++ list)) (range_with_len 0 n)) n []
      (length-map-range_with_len (piece longer (items ++ list)) 0 n)
      (λ k within. get_or-map-range_with_len (piece longer (items ++ list)) 0 n k k [] within (omega arith) ∙ piece_before k within) j
      ++ piece_last j ∷ []))

pub length-lists_in : (offsets items : List ℕ) → length (lists_in offsets items) ≡ length offsets - 1
length-lists_in offsets items =
    length-map-range_with_len (λ i. slice_range items (get_or offsets i 0) (get_or offsets (i + 1) 0)) 0 (length offsets - 1)

pub list_at : (offsets items : List ℕ) (i : ℕ) → i < length (lists_in offsets items) →
    get_or (lists_in offsets items) i [] ≡ slice_range items (get_or offsets i 0) (get_or offsets (i + 1) 0)
list_at offsets items i within =
    get_or-map-range_with_len (λ k. slice_range items (get_or offsets k 0) (get_or offsets (k + 1) 0)) 0 (length offsets - 1) i i []
    (omega (arith, length-lists_in offsets items)) (omega arith)

pub within_offsets : (offsets items : List ℕ) (i : ℕ) → i < length (lists_in offsets items) → i + 1 < length offsets
within_offsets offsets items i within = omega (arith, length-lists_in offsets items)
