-- Lists of words, four at a time.
use Rattle.std.proofs.Common.{◌≡◌, ◌==◌, ◌&&◌, ◌++◌, not, ℕ, zero, suc, ◌+◌, ◌*◌, ◌<◌, Bool, true, false, cond, List, [], ◌∷◌, length, take, drop, get_or, nat_eq, refl, sym, ap, ◌∙◌, ⊎_elim, arith}
use Rattle.std.specs.Simd.{first_chunks}
use Rattle.std.specs.Simd.Lanes.{zip2, mask_l}
use Rattle.std.specs.Cmp.Lexicographic.{pointwise}
use Rattle.std.proofs.Math.Seq.{take-add}
use Rattle.std.proofs.lemmas.Bool.{cases_eq, eq-eqb, ne_eqb, false_from_ne_true, both_ways}
use Rattle.std.proofs.lemmas.Bool.Decides.{Decides-eqb}
use Rattle.std.proofs.lemmas.List.{drop-drop, take-append-drop}
use Rattle.std.proofs.lemmas.Slice.Eq.{slice_eq-Decides}
use Rattle.wp_task.proofs.WordLemmas.{same_test}

-- the four words at a place
pub four_at : (k i : ℕ) (xs : List ℕ) (d : List ℕ) → i < k → get_or (first_chunks 4 k xs) i d ≡ take 4 (drop (4 * i) xs)
four_at zero i xs d within = absurd (omega arith)
four_at (suc k) zero xs d within = let none : 0 ≡ 4 * 0 = omega arith in ap (λ n. take 4 (drop n xs)) none
four_at (suc k) (suc i) xs d within =
    let place : 4 + 4 * i ≡ 4 * suc i = omega arith in
    four_at k i (drop 4 xs) d (omega arith)
    ∙ (ap (take 4) (drop-drop (4 * i) 4 xs) ∙ ap (λ n. take 4 (drop n xs)) place)

-- ---- equality
same_words_by : (words others : List ℕ) → pointwise nat_eq words others ≡ true → words ≡ others
same_words_by words others equal = (slice_eq-Decides Decides-eqb words others (pointwise nat_eq words others) refl).0 equal

are_same_words : (words others : List ℕ) → words ≡ others → pointwise nat_eq words others ≡ true
are_same_words words others same = (slice_eq-Decides Decides-eqb words others (pointwise nat_eq words others) refl).1 same

-- four words more are equal
pub more_equal : (words others : List ℕ) (i : ℕ) → take (4 * i) words ≡ take (4 * i) others →
    pointwise nat_eq (take 4 (drop (4 * i) words)) (take 4 (drop (4 * i) others)) ≡ true →
    take (4 * (i + 1)) words ≡ take (4 * (i + 1)) others
more_equal words others i before same =
    let more : 4 * (i + 1) ≡ 4 * i + 4 = omega arith in
    let here = same_words_by (take 4 (drop (4 * i) words)) (take 4 (drop (4 * i) others)) same in
    ap (λ n. take n words) more
    ∙ (take-add (4 * i) 4 words ∙ ((λ j. before j ++ here j) ∙ (sym (take-add (4 * i) 4 others) ∙ ap (λ n. take n others) (sym more))))

-- four words differ
pub four_differ : (words others : List ℕ) (i : ℕ) →
    pointwise nat_eq (take 4 (drop (4 * i) words)) (take 4 (drop (4 * i) others)) ≡ false → pointwise nat_eq words others ≡ false
four_differ words others i differ = false_from_ne_true (pointwise nat_eq words others)
    (λ same. both_ways (pointwise nat_eq (take 4 (drop (4 * i) words)) (take 4 (drop (4 * i) others))) differ
    (are_same_words (take 4 (drop (4 * i) words)) (take 4 (drop (4 * i) others))
    (ap (λ l. take 4 (drop (4 * i) l)) (same_words_by words others same))))

-- where the words in front are equal, those behind decide
pub rest_decides : (words others : List ℕ) (n m : ℕ) → n ≡ m → take n words ≡ take n others →
    pointwise nat_eq (drop n words) (drop m others) ≡ pointwise nat_eq words others
rest_decides words others n m same front =
    let there : drop m others ≡ drop n others = ap (λ k. drop k others) (sym same) in
    same_test (pointwise nat_eq (drop n words) (drop m others)) (pointwise nat_eq words others)
    (λ equal. let behind : drop n words ≡ drop n others = same_words_by (drop n words) (drop m others) equal ∙ there in
    are_same_words words others
    (sym (take-append-drop n words) ∙ ((λ j. front j ++ behind j) ∙ take-append-drop n others)))
    (λ equal. are_same_words (drop n words) (drop m others) (ap (drop n) (same_words_by words others equal) ∙ sym there))

-- a vector of four
no_more : (b : Bool) (n : ℕ) (rest : Bool) → (n == 0) ≡ rest → ((cond (not b) 1 0 + 2 * n) == 0) ≡ (b && rest)
no_more false n rest is = ne_eqb (1 + 2 * n) 0 (λ same. omega arith)
no_more true n rest is = ⊎_elim
    (λ (none : n ≡ 0). eq-eqb (0 + 2 * n) 0 (omega arith) ∙ (sym (eq-eqb n 0 none) ∙ is))
    (λ (some : n ≡ 0 → ⊥). ne_eqb (0 + 2 * n) 0 (λ same. some (omega arith)) ∙ (sym (ne_eqb n 0 some) ∙ is))
    (cases_eq n 0)

pub no_lane_differs : (xs ys : List ℕ) → length xs ≡ length ys →
    (mask_l (zip2 (λ a b. not (nat_eq a b)) xs ys) == 0) ≡ pointwise nat_eq xs ys
no_lane_differs [] [] same = refl
no_lane_differs [] (y ∷ ys) same = absurd (omega arith)
no_lane_differs (x ∷ xs) [] same = absurd (omega arith)
no_lane_differs (x ∷ xs) (y ∷ ys) same =
    no_more (nat_eq x y) (mask_l (zip2 (λ a b. not (nat_eq a b)) xs ys)) (pointwise nat_eq xs ys) (no_lane_differs xs ys (omega arith))

-- a vector has four lanes
pub lanes_are : (xs : List ℕ) → length xs ≡ 4 → xs ≡ get_or xs 0 0 ∷ get_or xs 1 0 ∷ get_or xs 2 0 ∷ get_or xs 3 0 ∷ []
lanes_are [] four = absurd (omega arith)
lanes_are (a ∷ []) four = absurd (omega arith)
lanes_are (a ∷ b ∷ []) four = absurd (omega arith)
lanes_are (a ∷ b ∷ c ∷ []) four = absurd (omega arith)
lanes_are (a ∷ b ∷ c ∷ d ∷ []) four = refl
lanes_are (a ∷ b ∷ c ∷ d ∷ e ∷ xs) four = absurd (omega arith)
