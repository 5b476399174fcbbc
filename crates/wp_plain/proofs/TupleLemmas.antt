-- Tests of the sets of one and of two atoms, and how many there are.
use Rattle.std.proofs.Common.{◌≡◌, ◌||◌, ◌+◌, ◌*◌, ◌/◌, not, cond, ℕ, suc, Bool, true, false, List, [], ◌∷◌, ◌++◌, length, map, refl, ap, ◌∙◌, arith, length-append}
use Rattle.std.proofs.Math.Nat.{mul-suc, suc-mul}
use Rattle.std.proofs.lemmas.List.{length-map}
use Rattle.std.specs.List.{list_any, position_or_len, range_with_len}
use Rattle.std.proofs.lemmas.List.Folds.{list_any-append}
use Rattle.std.proofs.lemmas.List.FromFn.{length-range_with_len}
use Rattle.wp_task.specs.Novelty.{sets_of}
use Rattle.wp_plain.specs.Pairs.{tuple_count}
use Rattle.wp_plain.proofs.ListLemmas.{list_any-map}

pub list_any-ones : (t : List ℕ → Bool) (xs : List ℕ) → list_any t (sets_of 1 xs) ≡ list_any (λ p. t (p ∷ [])) xs
list_any-ones t [] = refl
list_any-ones t (p ∷ xs) = ap (λ b. t (p ∷ []) || b) (list_any-ones t xs)

-- the sets of two atoms of which the first is the first of all, and the others
pub list_any-twos : (t : List ℕ → Bool) (p : ℕ) (xs : List ℕ) →
    list_any t (sets_of 2 (p ∷ xs)) ≡ (list_any (λ q. t (p ∷ q ∷ [])) xs || list_any t (sets_of 2 xs))
list_any-twos t p xs =
    list_any-append t (map (λ set. p ∷ set) (sets_of 1 xs)) (sets_of 2 xs)
    ∙ ap (λ b. b || list_any t (sets_of 2 xs))
    (list_any-map t (λ set. p ∷ set) (sets_of 1 xs) ∙ list_any-ones (λ set. t (p ∷ set)) xs)

-- ---- the first size that passes a test
pub found_here : (t : ℕ → Bool) (s n : ℕ) → t s ≡ true → position_or_len t (range_with_len s (suc n)) ≡ 0
found_here t s n passes = ap (λ b. cond (not b) (1 + position_or_len t (range_with_len (s + 1) n)) 0) passes

pub found_later : (t : ℕ → Bool) (s n : ℕ) → t s ≡ false →
    position_or_len t (range_with_len s (suc n)) ≡ 1 + position_or_len t (range_with_len (s + 1) n)
found_later t s n fails = ap (λ b. cond (not b) (1 + position_or_len t (range_with_len (s + 1) n)) 0) fails

-- ---- how many sets there are
square : (m n k : ℕ) → m ≡ k + n → 2 * n + k ≡ k * k → 2 * m + suc k ≡ suc k * suc k
square m n k more rest =
    let e : suc k * suc k ≡ (k * k + k) + suc k = suc-mul k (suc k) ∙ ap (λ x. x + suc k) (mul-suc k k) in
    omega arith

length-ones : (xs : List ℕ) → length (sets_of 1 xs) ≡ length xs
length-ones [] = refl
length-ones (p ∷ xs) = ap suc (length-ones xs)

length-twos : (xs : List ℕ) → 2 * length (sets_of 2 xs) + length xs ≡ length xs * length xs
length-twos [] = refl
length-twos (p ∷ xs) =
    let first : List (List ℕ) = map (λ set. p ∷ set) (sets_of 1 xs) in
    let more : length (sets_of 2 (p ∷ xs)) ≡ length xs + length (sets_of 2 xs) =
    length-append first (sets_of 2 xs)
    ∙ ap (λ n. n + length (sets_of 2 xs)) (length-map (sets_of 1 xs) (λ set. p ∷ set) ∙ length-ones xs) in
    square (length (sets_of 2 (p ∷ xs))) (length (sets_of 2 xs)) (length xs) more (length-twos xs)

pub ones : (atoms : ℕ) → tuple_count 1 atoms ≡ atoms
ones atoms =
    length-append (sets_of 1 (range_with_len 0 atoms)) []
    ∙ (let e : length (sets_of 1 (range_with_len 0 atoms)) + 0 ≡ atoms =
    omega (arith, length-ones (range_with_len 0 atoms), length-range_with_len 0 atoms) in e)

pub twos : (atoms : ℕ) → 2 * tuple_count 2 atoms ≡ atoms * atoms + atoms
twos atoms =
    let xs = range_with_len 0 atoms in
    let len : length xs ≡ atoms = length-range_with_len 0 atoms in
    let squared : length xs * length xs ≡ atoms * atoms = ap (λ n. n * n) len in
    let all : tuple_count 2 atoms ≡ length (sets_of 1 xs) + (length (sets_of 2 xs) + 0) =
    length-append (sets_of 1 xs) (sets_of 2 xs ++ []) ∙ ap (λ n. length (sets_of 1 xs) + n) (length-append (sets_of 2 xs) []) in
    omega (arith, length-ones xs, length-twos xs)

-- the half of an even number
pub half : (m n : ℕ) → 2 * m ≡ n → n / 2 ≡ m
half m n twice = omega arith
