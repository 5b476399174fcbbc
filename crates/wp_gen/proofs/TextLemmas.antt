-- Texts that are written one behind another, and the draws of one parcel after those of the parcels before.
use Rattle.std.proofs.Common.{◌≡◌, ℕ, ◌+◌, ◌*◌, List, [], ◌∷◌, ◌++◌, sym, ap, ◌∙◌, arith, add-one}
use Rattle.std.specs.List.{flat_map, range_with_len}
use Rattle.std.proofs.lemmas.Grind.{flat_map-append}
use Rattle.std.proofs.lemmas.List.{append_assoc, append-nil, map-id}
use Rattle.std.proofs.lemmas.List.FromFn.{map-range_with_len_more}
use Rattle.wp_gen.specs.Depot.{at_text, each_below}
use Rattle.wp_gen.specs.Numbers.{drawn_below, next_of, term_of}

range-more : (n : ℕ) → range_with_len 0 (n + 1) ≡ range_with_len 0 n ++ n ∷ []
range-more n = simp map-id at (map-range_with_len_more (λ (k : ℕ). k) 0 n n (omega arith))

-- the texts so far, with that of the next number
pub each_below-more : (text : ℕ → List ℕ) (old : List ℕ) (n : ℕ)
    → (old ++ each_below text n) ++ text n ≡ old ++ each_below text (n + 1)
each_below-more text old n =
    append_assoc old (each_below text n) (text n)
    ∙ ap (λ (l : List ℕ). old ++ l)
    (ap (λ (l : List ℕ). each_below text n ++ l) (sym (append-nil (text n)))
    ∙ sym (flat_map-append text (range_with_len 0 n) (n ∷ []))
    ∙ ap (flat_map text) (sym (range-more n)))

-- the text of a number behind those of the numbers before
pub put_more : (text : ℕ → List ℕ) (old before after : List ℕ) (n : ℕ) → before ≡ old ++ each_below text n → after ≡ before ++ text n
    → after ≡ old ++ each_below text (n + 1)
put_more text old before after n so_far more =
    more ∙ ap (λ (l : List ℕ). l ++ text n) so_far ∙ each_below-more text old n

-- the numbers of the sequence, two for each parcel
term_of-more : (number n : ℕ) → term_of number (n + 1) ≡ next_of (term_of number n)
term_of-more number n = ap (term_of number) (add-one n)

pub first_term : (number term next n : ℕ) → term ≡ term_of number (n * 2) → next ≡ next_of term → next ≡ term_of number (n * 2 + 1)
first_term number term next n at more = more ∙ ap next_of at ∙ sym (term_of-more number (n * 2))

pub second_term : (number term next n : ℕ) → term ≡ term_of number (n * 2 + 1) → next ≡ next_of term → next ≡ term_of number (n * 2 + 2)
second_term number term next n at more =
    more ∙ ap next_of at ∙ sym (term_of-more number (n * 2 + 1))
    ∙ ap (term_of number) (let e : n * 2 + 1 + 1 ≡ n * 2 + 2 = omega arith in e)

pub next_terms : (number term n : ℕ) → term ≡ term_of number (n * 2 + 2) → term ≡ term_of number ((n + 1) * 2)
next_terms number term n at = at ∙ ap (term_of number) (let e : n * 2 + 2 ≡ (n + 1) * 2 = omega arith in e)

-- a parcel at the place that a number of the sequence draws, behind those before
pub drawn_more : (size n term : ℕ) (place : ℕ → ℕ) (old before after : List ℕ)
    → before ≡ old ++ each_below (λ (parcel : ℕ). at_text parcel (place parcel)) n
    → drawn_below size (next_of term) ≡ place n
    → after ≡ before ++ at_text n (drawn_below size (next_of term))
    → after ≡ old ++ each_below (λ (parcel : ℕ). at_text parcel (place parcel)) (n + 1)
drawn_more size n term place old before after so_far drawn more =
    put_more (λ (parcel : ℕ). at_text parcel (place parcel)) old before after n so_far
    (more ∙ ap (λ (p : ℕ). before ++ at_text n p) drawn)
