-- Triangular numbers: how many pairs there are of the numbers below q.
use Rattle.std.proofs.Common.{◌≡◌, ◌⊎◌, ℕ, zero, suc, ◌+◌, ◌-◌, ◌*◌, ◌/◌, ◌<◌, ◌≤◌, refl, ap, ⊎_elim, arith}
use Rattle.std.proofs.Math.Nat.{suc-mul, mul-suc}
use Rattle.std.proofs.lemmas.Bool.{cases_lt, cases_order}
use Rattle.std.proofs.lemmas.Nat.{mul-le}

abbrev pub triangle : ℕ → ℕ
triangle q = q * (q - 1) / 2

half_more : (a b q : ℕ) → a ≡ b + 2 * q → a / 2 ≡ b / 2 + q
half_more a b q e = omega arith

twice : (m : ℕ) → suc (suc m) * (suc (suc m) - 1) ≡ suc m * (suc m - 1) + 2 * suc m
twice m =
    let top : suc (suc m) - 1 ≡ suc m = omega arith in
    let low : suc m - 1 ≡ m = omega arith in
    let out : suc (suc m) * suc m ≡ suc m * suc m + suc m = suc-mul (suc m) (suc m) in
    let inner : suc m * suc m ≡ suc m * m + suc m = mul-suc (suc m) m in
    let left : suc (suc m) * (suc (suc m) - 1) ≡ suc (suc m) * suc m = ap (λ k. suc (suc m) * k) top in
    let right : suc m * (suc m - 1) ≡ suc m * m = ap (λ k. suc m * k) low in
    grind (arith, top, low, out, inner, left, right)

pub triangle_more : (q : ℕ) → triangle (suc q) ≡ triangle q + q
triangle_more zero = refl
triangle_more (suc m) = half_more (suc (suc m) * (suc (suc m) - 1)) (suc m * (suc m - 1)) (suc m) (twice m)

pub triangle_le : (a b : ℕ) → a ≤ b → triangle a ≤ triangle b
triangle_le a b h =
    let product : a * (a - 1) ≤ b * (b - 1) = mul-le a (a - 1) b (b - 1) h (omega arith) in
    omega arith

-- the pairs of q come after those of the numbers below it, and before those of the numbers above
pub within_row : (p q n : ℕ) → p < q → q < n → triangle q + p < triangle n
within_row p q n low high =
    let more : triangle (suc q) ≡ triangle q + q = triangle_more q in
    let next : triangle (suc q) ≤ triangle n = triangle_le (suc q) n (omega arith) in
    omega arith

pub same_row : (p q r s : ℕ) → p < q → r < s → triangle q + p ≡ triangle s + r → (q ≡ s) × (p ≡ r)
same_row p q r s low other same = ⊎_elim
    (λ (even : q ≡ s). let rows : triangle q ≡ triangle s = ap triangle even in (even, omega arith))
    (λ (differ : (q < s) ⊎ (s < q)). ⊎_elim
    (λ (less : q < s). let before : triangle q + p < triangle s = within_row p q s low less in absurd (omega arith))
    (λ (more : s < q). let before : triangle s + r < triangle q = within_row r s q other more in absurd (omega arith))
    differ)
    (cases_order q s)

-- each number below the count is the place of a pair
pub row_of : (n place : ℕ) → place < triangle n → (p q : ℕ) × (p < q) × (q < n) × (triangle q + p ≡ place)
row_of zero place h = absurd (omega arith)
row_of (suc n) place h =
    let more : triangle (suc n) ≡ triangle n + n = triangle_more n in
    let Goal : Type 0 = (p q : ℕ) × (p < q) × (q < suc n) × (triangle q + p ≡ place) in
    ⊎_elim
    (λ (before : place < triangle n).
    let found : (p q : ℕ) × (p < q) × (q < n) × (triangle q + p ≡ place) = row_of n place before in
    let wider : found.1 < suc n = omega (arith, found.3) in
    let there : Goal = (found.0, found.1, found.2, wider, found.4) in there)
    (λ (last : triangle n ≤ place).
    let below : place - triangle n < n = omega arith in
    let at : triangle n + (place - triangle n) ≡ place = omega arith in
    let there : Goal = (place - triangle n, n, below, omega arith, at) in there)
    (cases_lt place (triangle n))
