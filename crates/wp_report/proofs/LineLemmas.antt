-- Lines that are written one after another.
use Rattle.std.proofs.Common.{◌≡◌, ℕ, ◌+◌, List, [], ◌∷◌, ◌++◌, cond, sym, ap, ◌∙◌, arith}
use Rattle.std.specs.Prelude.{Bool, decimal}
use Rattle.std.specs.List.{flat_map, filter, range_with_len}
use Rattle.std.proofs.lemmas.Grind.{flat_map-append}
use Rattle.std.proofs.lemmas.List.{append_assoc, append-nil, map-id}
use Rattle.std.proofs.lemmas.List.FromFn.{map-range_with_len_more}
use Rattle.wp_task.specs.Set.{has}
use Rattle.wp_task.proofs.AddersLemmas.{filter-range_more}
use Rattle.wp_report.specs.Tasks.{numbers_text}

range-more : (n : ℕ) → range_with_len 0 (n + 1) ≡ range_with_len 0 n ++ n ∷ []
range-more n = simp map-id at (map-range_with_len_more (λ (k : ℕ). k) 0 n n (omega arith))

-- the lines of the numbers so far, with that of the next number
pub lines_more : (line : ℕ → List ℕ) (old : List ℕ) (n : ℕ)
    → (old ++ flat_map line (range_with_len 0 n)) ++ line n ≡ old ++ flat_map line (range_with_len 0 (n + 1))
lines_more line old n =
    append_assoc old (flat_map line (range_with_len 0 n)) (line n)
    ∙ ap (λ l. old ++ l)
    (ap (λ l. flat_map line (range_with_len 0 n) ++ l) (sym (append-nil (line n)))
    ∙ sym (flat_map-append line (range_with_len 0 n) (n ∷ []))
    ∙ ap (flat_map line) (sym (range-more n)))

-- the members of a set so far, with the next number where it is one
pub members_more : (old : List ℕ) (set : List Bool) (n : ℕ)
    → (old ++ numbers_text (filter (has set) (range_with_len 0 n))) ++ numbers_text (cond (has set n) (n ∷ []) [])
    ≡ old ++ numbers_text (filter (has set) (range_with_len 0 (n + 1)))
members_more old set n =
    append_assoc old (numbers_text (filter (has set) (range_with_len 0 n))) (numbers_text (cond (has set n) (n ∷ []) []))
    ∙ ap (λ l. old ++ l)
    (sym (flat_map-append (λ (p : ℕ). 32 ∷ decimal p) (filter (has set) (range_with_len 0 n)) (cond (has set n) (n ∷ []) []))
    ∙ ap numbers_text (sym (filter-range_more (has set) n)))
