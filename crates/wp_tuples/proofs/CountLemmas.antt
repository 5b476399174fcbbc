-- How many tuples there are.
use Rattle.std.proofs.Common.{◌≡◌, ℕ, zero, suc, ◌+◌, ◌-◌, ◌*◌, List, [], ◌∷◌, ◌++◌, length, map, refl, sym, ap, ◌∙◌, arith, length-append}
use Rattle.std.specs.List.{range_with_len}
use Rattle.std.proofs.Math.Nat.{suc-mul, mul-suc}
use Rattle.std.proofs.lemmas.List.{length-map}
use Rattle.std.proofs.lemmas.List.FromFn.{length-range_with_len}
use Rattle.wp_task.specs.Novelty.{sets_of, tuples_in}
use Rattle.wp_tuples.proofs.Triangles.{triangle}

length-singles : (atoms : List ℕ) → length (sets_of 1 atoms) ≡ length atoms
length-singles [] = refl
length-singles (p ∷ atoms) = ap suc (length-singles atoms)

square_more : (n : ℕ) → suc n * suc n ≡ n * n + 2 * n + 1
square_more n = suc-mul n (suc n) ∙ (let e : n * suc n ≡ n * n + n = mul-suc n n in omega arith)

length-pairs : (atoms : List ℕ) → 2 * length (sets_of 2 atoms) + length atoms ≡ length atoms * length atoms
length-pairs [] = refl
length-pairs (p ∷ atoms) =
    let firsts = map (λ (set : List ℕ). p ∷ set) (sets_of 1 atoms) in
    let both : length (firsts ++ sets_of 2 atoms) ≡ length firsts + length (sets_of 2 atoms) = length-append firsts (sets_of 2 atoms) in
    let first : length firsts ≡ length atoms = length-map (sets_of 1 atoms) (λ (set : List ℕ). p ∷ set) ∙ length-singles atoms in
    let rest : 2 * length (sets_of 2 atoms) + length atoms ≡ length atoms * length atoms = length-pairs atoms in
    let square : suc (length atoms) * suc (length atoms) ≡ length atoms * length atoms + 2 * length atoms + 1 = square_more (length atoms) in
    omega arith

from_square : (n pairs : ℕ) → 2 * pairs + n ≡ n * n → pairs ≡ triangle n
from_square zero pairs e = omega arith
from_square (suc m) pairs e =
    let low : suc m - 1 ≡ m = omega arith in
    let right : suc m * (suc m - 1) ≡ suc m * m = ap (λ k. suc m * k) low in
    let square : suc m * suc m ≡ suc m * m + suc m = mul-suc (suc m) m in
    omega arith

pub length-tuples_one : (n : ℕ) → length (tuples_in 1 n) ≡ n
length-tuples_one n =
    let all : length (sets_of 1 (range_with_len 0 n) ++ []) ≡ length (sets_of 1 (range_with_len 0 n)) + 0 = length-append (sets_of 1 (range_with_len 0 n)) [] in
    let singles : length (sets_of 1 (range_with_len 0 n)) ≡ length (range_with_len 0 n) = length-singles (range_with_len 0 n) in
    omega (arith, length-range_with_len 0 n)

pub length-tuples_two : (n : ℕ) → length (tuples_in 2 n) ≡ n + triangle n
length-tuples_two n =
    let ones = sets_of 1 (range_with_len 0 n) in
    let twos = sets_of 2 (range_with_len 0 n) in
    let size : length (range_with_len 0 n) ≡ n = length-range_with_len 0 n in
    let all : length (ones ++ (twos ++ [])) ≡ length ones + length (twos ++ []) = length-append ones (twos ++ []) in
    let later : length (twos ++ []) ≡ length twos + 0 = length-append twos [] in
    let singles : length ones ≡ length (range_with_len 0 n) = length-singles (range_with_len 0 n) in
    let square : 2 * length twos + n ≡ n * n = ap (λ k. 2 * length twos + k) (sym size) ∙ length-pairs (range_with_len 0 n) ∙ (λ j. size j * size j) in
    let pairs : length twos ≡ triangle n = from_square n (length twos) square in
    omega arith
