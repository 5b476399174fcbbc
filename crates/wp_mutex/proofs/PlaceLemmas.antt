-- Places of the possible pairs: each tuple has one of its own, below the count of all.
use Rattle.std.proofs.Common.{◌≡◌, ◌⊎◌, ℕ, zero, suc, ◌+◌, ◌*◌, ◌-◌, ◌/◌, ◌%◌, ◌<◌, ◌≤◌, Bool, true, false, cond, List, [], ◌∷◌, ◌++◌, length, map, get_or, refl, sym, ap, ◌∙◌, subst, ⊎_elim, arith}
use Rattle.std.specs.Int.{from_bool}
use Rattle.std.specs.List.{All, count_by, sum_by, range_with_len}
use Rattle.std.proofs.lemmas.Bool.{cases_lt, cases_order}
use Rattle.std.proofs.lemmas.List.{get_or_past, get_or_append_left, get_or-append-add, length-append, map-id}
use Rattle.std.proofs.lemmas.List.Elements.{All-from_get_or}
use Rattle.std.proofs.lemmas.List.FromFn.{length-range_with_len, length-map-range_with_len, get_or-range_with_len, get_or-map-range_with_len, sum_by-map-range_with_len_more}
use Rattle.std.proofs.lemmas.List.Sums.{count_by-le-length, sum_by-le}
use Rattle.std.proofs.lemmas.Nat.{mul-le}
use Rattle.wp_task.specs.Set.{has}
use Rattle.wp_tuples.specs.Placing.{HasPlace, place_in, AreApart}
use Rattle.wp_mutex.specs.PossiblePairs.{joins}
use Rattle.wp_mutex.specs.PairPlaces.{count_below, pairs_before, place_of_pair, possible_placed, AreStarts}
use Rattle.wp_mutex.proofs.PairLemmas.{joins-le}

-- 1 where the test holds
abbrev flag : Bool → ℕ
flag b = cond b 1 0

from_bool-flag : (b : Bool) → from_bool b ≡ flag b
from_bool-flag true = refl
from_bool-flag false = refl

-- ---- sums over a range
sum_more : (f : ℕ → ℕ) (n : ℕ) → sum_by f (range_with_len 0 (n + 1)) ≡ sum_by f (range_with_len 0 n) + f n
sum_more f n =
    sym (ap (sum_by f) (map-id (range_with_len 0 (n + 1))))
    ∙ (sum_by-map-range_with_len_more f (λ i. i) 0 n n (omega arith) ∙ ap (λ xs. sum_by f xs + f n) (map-id (range_with_len 0 n)))

pub count_below_more : (set : List Bool) (p : ℕ) → count_below set (p + 1) ≡ count_below set p + flag (has set p)
count_below_more set p = sum_more (λ i. flag (has set i)) p

pub count_below_add : (set : List Bool) (a n : ℕ) →
    count_below set (a + n) ≡ count_below set a + count_by (λ i. has set (a + i)) (range_with_len 0 n)
count_below_add set a zero =
    let same : a + 0 ≡ a = omega arith in
    let none : count_below set a ≡ count_below set a + 0 = omega arith in
    ap (count_below set) same ∙ none
count_below_add set a (suc n) =
    let longer : a + suc n ≡ (a + n) + 1 = omega arith in
    let one : n + 1 ≡ suc n = omega arith in
    let left : count_below set ((a + n) + 1) ≡ count_below set (a + n) + flag (has set (a + n)) = count_below_more set (a + n) in
    let right : count_by (λ i. has set (a + i)) (range_with_len 0 (n + 1))
    ≡ count_by (λ i. has set (a + i)) (range_with_len 0 n) + flag (has set (a + n)) = sum_more (λ i. flag (has set (a + i))) n in
    let before = count_below_add set a n in
    let all : count_below set ((a + n) + 1) ≡ count_below set a + count_by (λ i. has set (a + i)) (range_with_len 0 (n + 1)) =
    omega (arith, left, right, before) in
    ap (count_below set) longer ∙ (all ∙ ap (λ k. count_below set a + count_by (λ i. has set (a + i)) (range_with_len 0 k)) one)

pub count_below_few : (set : List Bool) (p : ℕ) → count_below set p ≤ p
count_below_few set p = omega (arith, count_by-le-length (has set) (range_with_len 0 p), length-range_with_len 0 p)

pub count_below_le : (set : List Bool) (p q : ℕ) → p ≤ q → count_below set p ≤ count_below set q
count_below_le set p q le =
    let parts : p + (q - p) ≡ q = omega arith in
    let split = count_below_add set p (q - p) in
    let same : count_below set (p + (q - p)) ≡ count_below set q = ap (count_below set) parts in
    omega (arith, split, same)

-- past the end of a set there is none
none_past : (set : List Bool) (p n : ℕ) → length set ≤ p → count_below set (p + n) ≡ count_below set p
none_past set p zero past = ap (count_below set) (let e : p + 0 ≡ p = omega arith in e)
none_past set p (suc n) past =
    let longer : p + suc n ≡ (p + n) + 1 = omega arith in
    let lacks : flag (has set (p + n)) ≡ 0 = ap flag (get_or_past set (p + n) false (omega arith)) in
    ap (count_below set) longer ∙ omega (arith, count_below_more set (p + n), lacks, none_past set p n past)

pub count_below_past : (set : List Bool) (p q : ℕ) → length set ≤ p → p ≤ q → count_below set q ≡ count_below set p
count_below_past set p q past le =
    ap (count_below set) (let e : q ≡ p + (q - p) = omega arith in e) ∙ none_past set p (q - p) past

-- an atom of the set comes before the later ones
pub counted_before : (set : List Bool) (p q : ℕ) → has set p ≡ true → p < q → count_below set p < count_below set q
counted_before set p q there less =
    let more : count_below set (p + 1) ≡ count_below set p + flag (has set p) = count_below_more set p in
    let one : flag (has set p) ≡ 1 = ap flag there in
    let rest : count_below set (p + 1) ≤ count_below set q = count_below_le set (p + 1) q (omega arith) in
    omega (arith, more, one, rest)

-- the atoms of one word more
pub word_counted : (set : List Bool) (k bits last : ℕ) →
    bits ≡ count_by (λ i. has set (64 * ((64 * k + 63) / 64) + i)) (range_with_len 0 ((64 * k + 63) % 64)) →
    last ≡ from_bool (has set (64 * k + 63)) → count_below set (64 * k) + (bits + last) ≡ count_below set (64 * (k + 1))
word_counted set k bits last counted is =
    let place : (64 * k + 63) / 64 ≡ k = omega arith in
    let rest : (64 * k + 63) % 64 ≡ 63 = omega arith in
    let here : bits ≡ count_by (λ i. has set (64 * k + i)) (range_with_len 0 63) =
    counted ∙ (λ j. count_by (λ i. has set (64 * place j + i)) (range_with_len 0 (rest j))) in
    let one : last ≡ flag (has set (64 * k + 63)) = is ∙ from_bool-flag (has set (64 * k + 63)) in
    let split : count_below set (64 * k + 63) ≡ count_below set (64 * k) + count_by (λ i. has set (64 * k + i)) (range_with_len 0 63) =
    count_below_add set (64 * k) 63 in
    let more : count_below set ((64 * k + 63) + 1) ≡ count_below set (64 * k + 63) + flag (has set (64 * k + 63)) = count_below_more set (64 * k + 63) in
    let next : count_below set ((64 * k + 63) + 1) ≡ count_below set (64 * (k + 1)) =
    ap (count_below set) (let e : (64 * k + 63) + 1 ≡ 64 * (k + 1) = omega arith in e) in
    omega (arith, here, one, split, more, next)

-- the places of a row, less that of its own atom
pub row_counted : (row : List Bool) (q m next first last : ℕ) → length row ≡ q + 1 → q < m → next ≡ first + count_below row m →
    last ≡ from_bool (has row q) → (last ≤ next) × (next - last ≡ first + count_below row q)
row_counted row q m next first last size within is one =
    let flagged : last ≡ flag (has row q) = one ∙ from_bool-flag (has row q) in
    let past : count_below row m ≡ count_below row (q + 1) = count_below_past row (q + 1) m (omega (arith, size)) (omega arith) in
    let more : count_below row (q + 1) ≡ count_below row q + flag (has row q) = count_below_more row q in
    let fits : last ≤ next = omega (arith, flagged, past, more, is) in
    let rest : next - last ≡ first + count_below row q = omega (arith, flagged, past, more, is) in
    (fits, rest)

-- the count of a word's atoms below p, from the first of the word on
pub place_counted : (set : List Bool) (p start bits base : ℕ) → start ≡ base + count_below set (64 * (p / 64)) →
    bits ≡ count_by (λ i. has set (64 * (p / 64) + i)) (range_with_len 0 (p % 64)) → start + bits ≡ base + count_below set p
place_counted set p start bits base is counted =
    let parts : count_below set (64 * (p / 64) + p % 64) ≡ count_below set p = ap (count_below set) (let e : 64 * (p / 64) + p % 64 ≡ p = omega arith in e) in
    let split = count_below_add set (64 * (p / 64)) (p % 64) in
    omega (arith, is, counted, parts, split)

-- ---- rows one after another
pub pairs_before_more : (pairs : List (List Bool)) (q : ℕ) →
    pairs_before pairs (q + 1) ≡ pairs_before pairs q + count_below (get_or pairs q []) q
pairs_before_more pairs q = sum_more (λ s. count_below (get_or pairs s []) s) q

pairs_before_add : (pairs : List (List Bool)) (q n : ℕ) → pairs_before pairs q ≤ pairs_before pairs (q + n)
pairs_before_add pairs q zero =
    let same : pairs_before pairs (q + 0) ≡ pairs_before pairs q = ap (pairs_before pairs) (let e : q + 0 ≡ q = omega arith in e) in
    omega (arith, same)
pairs_before_add pairs q (suc n) =
    let same : pairs_before pairs (q + suc n) ≡ pairs_before pairs ((q + n) + 1) =
    ap (pairs_before pairs) (let e : q + suc n ≡ (q + n) + 1 = omega arith in e) in
    omega (arith, same, pairs_before_more pairs (q + n), pairs_before_add pairs q n)

pub pairs_before_le : (pairs : List (List Bool)) (q s : ℕ) → q ≤ s → pairs_before pairs q ≤ pairs_before pairs s
pairs_before_le pairs q s le =
    let same : pairs_before pairs (q + (s - q)) ≡ pairs_before pairs s = ap (pairs_before pairs) (let e : q + (s - q) ≡ s = omega arith in e) in
    omega (arith, same, pairs_before_add pairs q (s - q))

pub pairs_before_few : (pairs : List (List Bool)) (q : ℕ) → q ≤ 8192 → pairs_before pairs q ≤ 8192 * 8192
pairs_before_few pairs q few =
    let each : All (λ s. count_below (get_or pairs s []) s ≤ 8192) (range_with_len 0 q) =
    All-from_get_or (λ s. count_below (get_or pairs s []) s ≤ 8192) (range_with_len 0 q) 0 (λ i within.
    let inside : i < q = omega (arith, length-range_with_len 0 q) in
    let is : get_or (range_with_len 0 q) i 0 ≡ i = get_or-range_with_len 0 q i 0 inside ∙ (let e : 0 + i ≡ i = omega arith in e) in
    subst (λ (s : ℕ). count_below (get_or pairs s []) s ≤ 8192) (sym is) (omega (arith, count_below_few (get_or pairs i []) i))) in
    let sum : pairs_before pairs q ≤ length (range_with_len 0 q) * 8192 = sum_by-le (λ s. count_below (get_or pairs s []) s) 8192 (range_with_len 0 q) each in
    omega (arith, sum, length-range_with_len 0 q)

-- ---- the starts of words
pub starts_none : (pairs : List (List Bool)) (stride : ℕ) (starts : List ℕ) → length starts ≡ 0 → AreStarts pairs stride starts 0
starts_none pairs stride starts none = record {
  room = none ∙ (let e : 0 ≡ 0 * stride = omega arith in e);
  each = λ q k within. absurd (omega arith);
}

-- with those of one row more
pub starts_more : (pairs : List (List Bool)) (stride : ℕ) (old new : List ℕ) (q first : ℕ) (row : List Bool) → AreStarts pairs stride old q →
    row ≡ get_or pairs q [] → first ≡ length pairs + pairs_before pairs q →
    new ≡ old ++ map (λ k. first + count_below row (64 * k)) (range_with_len 0 stride) → AreStarts pairs stride new (q + 1)
starts_more pairs stride old new q first row starts is next_is made =
    let f : ℕ → ℕ = λ k. first + count_below row (64 * k) in
    let added : List ℕ = map f (range_with_len 0 stride) in
    let size : length added ≡ stride = length-map-range_with_len f 0 stride in
    let whole : length new ≡ length old + length added = ap length made ∙ length-append old added in
    record {
      room = omega (arith, whole, size, starts.room);
      each = λ s k within inside. ap (λ (l : List ℕ). get_or l (s * stride + k) 0) made ∙ ⊎_elim
          (λ (before : s < q).
          let most : (s + 1) * stride ≤ q * stride = mul-le (s + 1) stride q stride (omega arith) (omega arith) in
          get_or_append_left old added 0 (s * stride + k) (omega (arith, most, starts.room)) ∙ starts.each s k before inside)
          (λ (late : q ≤ s).
          let same : s ≡ q = omega arith in
          let at : s * stride + k ≡ length old + k = ap (λ i. i * stride + k) same ∙ omega (arith, starts.room) in
          ap (λ i. get_or (old ++ added) i 0) at
          ∙ (get_or-append-add old added k 0
          ∙ (get_or-map-range_with_len f 0 stride k k 0 inside (omega arith)
          ∙ ((λ j. next_is j + count_below (is j) (64 * k)) ∙ ap (place_of_pair pairs (64 * k)) (sym same)))))
          (cases_lt s q);
    }

-- ---- places of tuples
counted_flag : (pairs : List (List Bool)) (p q : ℕ) → p < q → joins pairs p q ≡ true → has (get_or pairs q []) p ≡ true
counted_flag pairs p q less there = sym (joins-le pairs p q (omega arith)) ∙ there

-- the pairs of an atom come before those of the greater ones
pub pair_within : (pairs : List (List Bool)) (p q s : ℕ) → p < q → joins pairs p q ≡ true → q < s →
    place_of_pair pairs p q < length pairs + pairs_before pairs s
pair_within pairs p q s less there later =
    let row = counted_before (get_or pairs q []) p q (counted_flag pairs p q less there) less in
    let more = pairs_before_more pairs q in
    let rest = pairs_before_le pairs (q + 1) s (omega arith) in
    omega (arith, row, more, rest)

same_pair : (pairs : List (List Bool)) (p q r s : ℕ) → p < q → r < s → joins pairs p q ≡ true → joins pairs r s ≡ true →
    place_of_pair pairs p q ≡ place_of_pair pairs r s → (p ≡ r) × (q ≡ s)
same_pair pairs p q r s low other one two same = ⊎_elim
    (λ (even : q ≡ s).
    let at : place_of_pair pairs r s ≡ place_of_pair pairs r q = ap (place_of_pair pairs r) (sym even) in
    let flag : has (get_or pairs q []) r ≡ true =
    subst (λ (k : ℕ). has (get_or pairs k []) r ≡ true) (sym even) (counted_flag pairs r s other two) in
    ⊎_elim
    (λ (is : p ≡ r). (is, even))
    (λ (differ : (p < r) ⊎ (r < p)). ⊎_elim
    (λ (less : p < r). absurd (let first = counted_before (get_or pairs q []) p r (counted_flag pairs p q low one) less in omega (arith, first, at, same)))
    (λ (more : r < p). absurd (let first = counted_before (get_or pairs q []) r p flag more in omega (arith, first, at, same)))
    differ)
    (cases_order p r))
    (λ (differ : (q < s) ⊎ (s < q)). ⊎_elim
    (λ (less : q < s). absurd (let before = pair_within pairs p q s low one less in omega (arith, before, same)))
    (λ (more : s < q). absurd (let before = pair_within pairs r s q other two more in omega (arith, before, same)))
    differ)
    (cases_order q s)

below : (pairs : List (List Bool)) (tuple : List ℕ) → HasPlace (possible_placed pairs) tuple →
    place_in (possible_placed pairs) tuple < length pairs + pairs_before pairs (length pairs)
below pairs [] h = absurd h
below pairs (p ∷ []) h = omega (arith, h)
below pairs (p ∷ q ∷ []) h = pair_within pairs p q (length pairs) h.1.0 h.1.2 h.1.1
below pairs (p ∷ q ∷ r ∷ rest) h = absurd h

apart : (pairs : List (List Bool)) (one other : List ℕ) → HasPlace (possible_placed pairs) one → HasPlace (possible_placed pairs) other →
    place_in (possible_placed pairs) one ≡ place_in (possible_placed pairs) other → one ≡ other
apart pairs [] other h k same = absurd h
apart pairs (p ∷ []) [] h k same = absurd k
apart pairs (p ∷ []) (r ∷ []) h k same = ap (λ i. i ∷ []) same
apart pairs (p ∷ []) (r ∷ s ∷ []) h k same = absurd (omega (arith, h, same))
apart pairs (p ∷ []) (r ∷ s ∷ t ∷ rest) h k same = absurd k
apart pairs (p ∷ q ∷ []) [] h k same = absurd k
apart pairs (p ∷ q ∷ []) (r ∷ []) h k same = absurd (omega (arith, k, same))
apart pairs (p ∷ q ∷ []) (r ∷ s ∷ []) h k same =
    let is = same_pair pairs p q r s h.1.0 k.1.0 h.1.2 k.1.2 same in (λ j. is.0 j ∷ is.1 j ∷ [])
apart pairs (p ∷ q ∷ []) (r ∷ s ∷ t ∷ rest) h k same = absurd k
apart pairs (p ∷ q ∷ t ∷ rest) other h k same = absurd h

pub possible_apart : (pairs : List (List Bool)) → length pairs ≤ 8192 → AreApart (possible_placed pairs)
possible_apart pairs few = record {
  width = (omega arith, omega arith);
  few = omega (arith, pairs_before_few pairs (length pairs) few);
  below = below pairs;
  apart = apart pairs;
}

-- the word of a pair is among those of its row
pub word_within : (n stride p q len : ℕ) → stride ≡ (n + 63) / 64 → len ≡ n * stride → p < q → q < n → q * stride + p / 64 < len
word_within n stride p q len words room low high =
    let most : (q + 1) * stride ≤ n * stride = mul-le (q + 1) stride n stride (omega arith) (omega arith) in
    let word : p / 64 < stride = omega arith in
    omega (arith, most, word, room)

-- and has few predecessors
pub words_few : (n stride q : ℕ) → stride ≡ (n + 63) / 64 → n ≤ 8192 → q ≤ n → q * stride ≤ 8192 * 128
words_few n stride q words few within = mul-le q stride 8192 128 (omega arith) (omega arith)
