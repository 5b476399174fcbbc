-- How many bits of one list of words are not in another.
use Rattle.std.proofs.Common.{◌≡◌, ◌==◌, ◌&&◌, not, ℕ, zero, suc, ◌+◌, ◌-◌, ◌*◌, ◌%◌, ◌/◌, ◌^◌, ◌<◌, ◌≤◌, Bool, true, cond, List, [], ◌∷◌, length, take, drop, map, get_or, nat_eq, min, refl, sym, ap, ◌∙◌, subst, ⊎_elim, w64, arith}
use Rattle.std.specs.Int.{bit_at, bit_not}
use Rattle.std.specs.Int.Bits.{bit_and}
use Rattle.std.specs.Int.RustNames.{count_ones}
use Rattle.std.specs.Simd.{first_chunks}
use Rattle.std.specs.Simd.Lanes.{zip2, sum_l}
use Rattle.std.specs.Cmp.Lexicographic.{pointwise}
use Rattle.std.specs.List.{count_by, filter, sum_by, range_with_len}
use Rattle.std.proofs.lemmas.Bool.{cases_eq, eq-eqb, ne_eqb}
use Rattle.std.proofs.lemmas.List.FromFn.{length-range_with_len}
use Rattle.std.proofs.lemmas.List.Sums.{count_by-le-length}
use Rattle.std.proofs.lemmas.Nat.{and_le_r, mod-pow-add, ones_cat, ones-le, pow_pos, zero_from_ones}
use Rattle.std.proofs.lemmas.Nat.Bits.{bit_at-lt, bit_at_and, bit_at_not}
use Rattle.std.proofs.lemmas.Simd.{get_or-chunk}
use Rattle.std.proofs.Math.Nat.{mod-eq_of_lt, mod-lt}
use Rattle.std.proofs.Math.Pow.{ones_sub-lt}
use Rattle.wp_task.specs.Set.{has, atoms_in}
use Rattle.wp_task.specs.Packing.{bit_in, flags_in, missing_in, IsPacked}
use Rattle.wp_task.proofs.LaneLemmas.{four_at, lanes_are}
use Rattle.wp_task.proofs.NextLemmas.{bit_in-at}
use Rattle.wp_task.proofs.PackingLemmas.{and-true, has-flags_in, length-flags_in}
use Rattle.wp_task.proofs.RangeLemmas.{count_by-filter}
use Rattle.wp_task.proofs.WordLemmas.{sum_by-range_more, sums_agree}

-- ---- sums over a range
pub sum_by-range_add : (f : ℕ → ℕ) (a n : ℕ) →
    sum_by f (range_with_len 0 (a + n)) ≡ sum_by f (range_with_len 0 a) + sum_by (λ i. f (a + i)) (range_with_len 0 n)
sum_by-range_add f a zero =
    let same : a + 0 ≡ a = omega arith in
    let none : sum_by f (range_with_len 0 a) ≡ sum_by f (range_with_len 0 a) + 0 = omega arith in
    ap (λ k. sum_by f (range_with_len 0 k)) same ∙ none
sum_by-range_add f a (suc n) =
    let longer : a + suc n ≡ (a + n) + 1 = omega arith in
    let one : n + 1 ≡ suc n = omega arith in
    let left : sum_by f (range_with_len 0 ((a + n) + 1)) ≡ sum_by f (range_with_len 0 (a + n)) + f (a + n) = sum_by-range_more f (a + n) in
    let right : sum_by (λ i. f (a + i)) (range_with_len 0 (n + 1)) ≡ sum_by (λ i. f (a + i)) (range_with_len 0 n) + f (a + n) =
    sum_by-range_more (λ i. f (a + i)) n in
    let before = sum_by-range_add f a n in
    let all : sum_by f (range_with_len 0 ((a + n) + 1)) ≡ sum_by f (range_with_len 0 a) + sum_by (λ i. f (a + i)) (range_with_len 0 (n + 1)) =
    omega (arith, left, right, before) in
    ap (λ k. sum_by f (range_with_len 0 k)) longer
    ∙ (all ∙ ap (λ k. sum_by f (range_with_len 0 a) + sum_by (λ i. f (a + i)) (range_with_len 0 k)) one)

pub sum_by-nothing : (f : ℕ → ℕ) (n : ℕ) → ((i : ℕ) → i < n → f i ≡ 0) → sum_by f (range_with_len 0 n) ≡ 0
sum_by-nothing f zero none = refl
sum_by-nothing f (suc n) none =
    let one : suc n ≡ n + 1 = omega arith in
    let more = sum_by-range_more f n in
    let before : sum_by f (range_with_len 0 n) ≡ 0 = sum_by-nothing f n (λ i below. none i (omega arith)) in
    let last : f n ≡ 0 = none n (omega arith) in
    ap (λ k. sum_by f (range_with_len 0 k)) one ∙ omega (arith, more, before, last)

-- ---- the bits of a word
ones_of_bit : (bit : ℕ) → bit < 2 → count_ones bit ≡ bit
unfolding count_ones
ones_of_bit bit small = ⊎_elim
    (λ (none : bit ≡ 0). ap count_ones none ∙ (let e : count_ones 0 ≡ 0 = refl in e ∙ sym none))
    (λ (some : bit ≡ 0 → ⊥). let one : bit ≡ 1 = omega arith in ap count_ones one ∙ (let e : count_ones 1 ≡ 1 = refl in e ∙ sym one))
    (cases_eq bit 0)

ones_are_bits : (n w : ℕ) → count_ones (n % 2 ^ w) ≡ sum_by (bit_at n) (range_with_len 0 w)
ones_are_bits n zero =
    let none : n % 2 ^ 0 ≡ 0 = omega arith in ap count_ones none ∙ ones_of_bit 0 (omega arith)
ones_are_bits n (suc w) =
    let bit = bit_at n w in
    let one_more : 1 + w ≡ suc w = omega arith in
    let one : w + 1 ≡ suc w = omega arith in
    let split : n % 2 ^ (1 + w) ≡ (n / 2 ^ w % 2 ^ 1) * 2 ^ w + n % 2 ^ w = mod-pow-add n 1 w in
    let parts : count_ones (bit * 2 ^ w + n % 2 ^ w) ≡ count_ones bit + count_ones (n % 2 ^ w) = ones_cat w bit (n % 2 ^ w) (mod-lt n (pow_pos w)) in
    let more : sum_by (bit_at n) (range_with_len 0 (w + 1)) ≡ sum_by (bit_at n) (range_with_len 0 w) + bit = sum_by-range_more (bit_at n) w in
    let here : count_ones bit ≡ bit = ones_of_bit bit (bit_at-lt n w) in
    let all : count_ones (bit * 2 ^ w + n % 2 ^ w) ≡ sum_by (bit_at n) (range_with_len 0 (w + 1)) =
    omega (arith, parts, more, here, ones_are_bits n w) in
    ap (λ k. count_ones (n % 2 ^ k)) (sym one_more) ∙ (ap count_ones split ∙ (all ∙ ap (λ k. sum_by (bit_at n) (range_with_len 0 k)) one))

bit_flag : (bit : ℕ) → bit < 2 → bit ≡ cond (bit == 1) 1 0
bit_flag bit small = ⊎_elim
    (λ (none : bit ≡ 0). none ∙ sym (ap (λ b. cond b 1 0) (ne_eqb bit 1 (λ same. omega arith))))
    (λ (some : bit ≡ 0 → ⊥). let one : bit ≡ 1 = omega arith in one ∙ sym (ap (λ b. cond b 1 0) (eq-eqb bit 1 one)))
    (cases_eq bit 0)

-- the lowest bits of a word of a list
pub ones_below : (words : List ℕ) (place w : ℕ) → w ≤ 64 →
    count_ones (get_or words place 0 % 2 ^ w) ≡ count_by (λ i. bit_in words (64 * place + i)) (range_with_len 0 w)
ones_below words place w few =
    ones_are_bits (get_or words place 0) w
    ∙ sums_agree (bit_at (get_or words place 0)) (λ i. cond (bit_in words (64 * place + i)) 1 0) w
    (λ i below. bit_flag (bit_at (get_or words place 0) i) (bit_at-lt (get_or words place 0) i)
    ∙ sym (ap (λ b. cond b 1 0) (bit_in-at words place i (omega arith))))

-- a bit that is wanted and missing
bit_missing : (want had : ℕ) → want < 2 → had < 2 → min want (1 - had) ≡ cond ((want == 1) && not (had == 1)) 1 0
bit_missing want had small less = ⊎_elim
    (λ (no : want ≡ 0). (let e : min want (1 - had) ≡ 0 = omega arith in e) ∙ sym (ap (λ b. cond (b && not (had == 1)) 1 0) (ne_eqb want 1 (λ same. omega arith))))
    (λ (some : want ≡ 0 → ⊥).
    let yes_want : (want == 1) ≡ true = eq-eqb want 1 (omega arith) in
    ⊎_elim
    (λ (lacks : had ≡ 0). (let e : min want (1 - had) ≡ 1 = omega arith in e)
    ∙ sym ((λ j. cond (yes_want j && not (ne_eqb had 1 (λ same. omega arith) j)) 1 0)))
    (λ (there : had ≡ 0 → ⊥). (let e : min want (1 - had) ≡ 0 = omega arith in e)
    ∙ sym ((λ j. cond (yes_want j && not (eq-eqb had 1 (omega arith) j)) 1 0)))
    (cases_eq had 0))
    (cases_eq want 0)

-- ---- in lists of words
module _ (words wanted : List ℕ) (fit : (i : ℕ) → get_or words i 0 < 2 ^ 64) where
  abbrev is_missing : ℕ → Bool
  is_missing p = bit_in wanted p && not (bit_in words p)

  abbrev lacking : ℕ → ℕ
  lacking k = missing_in (get_or words k 0) (get_or wanted k 0)

  abbrev up_to : ℕ → ℕ
  up_to n = count_by is_missing (range_with_len 0 n)

  missing_fits : (k : ℕ) → bit_and (get_or wanted k 0) (bit_not w64 (get_or words k 0)) < 2 ^ 64
  missing_fits k = omega (arith, and_le_r (get_or wanted k 0) (bit_not w64 (get_or words k 0)), ones_sub-lt 64 (get_or words k 0))

  in_word : (k : ℕ) → lacking k ≡ sum_by (λ i. cond (is_missing (64 * k + i)) 1 0) (range_with_len 0 64)
  in_word k =
      let word = bit_and (get_or wanted k 0) (bit_not w64 (get_or words k 0)) in
      let whole : word % 2 ^ 64 ≡ word = mod-eq_of_lt (missing_fits k) in
      ap count_ones (sym whole) ∙ (ones_are_bits word 64
      ∙ sums_agree (bit_at word) (λ i. cond (is_missing (64 * k + i)) 1 0) 64
      (λ i below. bit_at_and (get_or wanted k 0) (bit_not w64 (get_or words k 0)) i
      ∙ (ap (min (bit_at (get_or wanted k 0) i)) (bit_at_not w64 (get_or words k 0) i (fit k) below)
      ∙ (bit_missing (bit_at (get_or wanted k 0) i) (bit_at (get_or words k 0) i) (bit_at-lt (get_or wanted k 0) i) (bit_at-lt (get_or words k 0) i)
      ∙ sym (λ j. cond (bit_in-at wanted k i below j && not (bit_in-at words k i below j)) 1 0)))))

  -- one word more
  pub more_missing : (k : ℕ) → up_to (64 * (k + 1)) ≡ up_to (64 * k) + lacking k
  more_missing k =
      let next : 64 * (k + 1) ≡ 64 * k + 64 = omega arith in
      ap up_to next ∙ (sum_by-range_add (λ p. cond (is_missing p) 1 0) (64 * k) 64
      ∙ ap (λ n. up_to (64 * k) + n) (sym (in_word k)))

  -- four words more
  pub four_more_missing : (fours wanted_fours : List (List ℕ)) (i : ℕ) → fours ≡ first_chunks 4 (length words / 4) words →
      wanted_fours ≡ first_chunks 4 (length wanted / 4) wanted → length wanted ≡ length words → i < length words / 4 →
      up_to (64 * (4 * (i + 1))) ≡ up_to (64 * (4 * i)) + sum_by (λ k. missing_in (get_or (get_or fours i []) k 0) (get_or (get_or wanted_fours i []) k 0)) (range_with_len 0 4)
  four_more_missing fours wanted_fours i are wanted_are same within =
      let four : get_or fours i [] ≡ take 4 (drop (4 * i) words) = ap (λ l. get_or l i []) are ∙ four_at (length words / 4) i words [] within in
      let wanted_four : get_or wanted_fours i [] ≡ take 4 (drop (4 * i) wanted) =
      ap (λ l. get_or l i []) wanted_are ∙ four_at (length wanted / 4) i wanted [] (omega arith) in
      let here : (k : ℕ) → k < 4 → missing_in (get_or (get_or fours i []) k 0) (get_or (get_or wanted_fours i []) k 0) ≡ lacking (4 * i + k) =
      λ k below. (λ j. missing_in (get_or (four j) k 0) (get_or (wanted_four j) k 0))
      ∙ (λ j. missing_in (get_or-chunk (4 * i) 4 words k 0 below j) (get_or-chunk (4 * i) 4 wanted k 0 below j)) in
      let sums : sum_by (λ k. missing_in (get_or (get_or fours i []) k 0) (get_or (get_or wanted_fours i []) k 0)) (range_with_len 0 4)
      ≡ sum_by (λ k. lacking (4 * i + k)) (range_with_len 0 4) =
      sums_agree (λ k. missing_in (get_or (get_or fours i []) k 0) (get_or (get_or wanted_fours i []) k 0)) (λ k. lacking (4 * i + k)) 4 here in
      let first = more_missing (4 * i + 0) in
      let second = more_missing (4 * i + 1) in
      let third = more_missing (4 * i + 2) in
      let fourth = more_missing (4 * i + 3) in
      let start : up_to (64 * (4 * i + 0)) ≡ up_to (64 * (4 * i)) = (let e : 64 * (4 * i + 0) ≡ 64 * (4 * i) = omega arith in ap up_to e) in
      let to_second : up_to (64 * (4 * i + 0 + 1)) ≡ up_to (64 * (4 * i + 1)) = (let e : 64 * (4 * i + 0 + 1) ≡ 64 * (4 * i + 1) = omega arith in ap up_to e) in
      let to_third : up_to (64 * (4 * i + 1 + 1)) ≡ up_to (64 * (4 * i + 2)) = (let e : 64 * (4 * i + 1 + 1) ≡ 64 * (4 * i + 2) = omega arith in ap up_to e) in
      let to_fourth : up_to (64 * (4 * i + 2 + 1)) ≡ up_to (64 * (4 * i + 3)) = (let e : 64 * (4 * i + 2 + 1) ≡ 64 * (4 * i + 3) = omega arith in ap up_to e) in
      let end : up_to (64 * (4 * (i + 1))) ≡ up_to (64 * (4 * i + 3 + 1)) = (let e : 64 * (4 * (i + 1)) ≡ 64 * (4 * i + 3 + 1) = omega arith in ap up_to e) in
      omega (arith, sums, first, second, third, fourth, start, to_second, to_third, to_fourth, end)

  pub missing_grows : (n m : ℕ) → n ≤ m → up_to n ≤ up_to m
  missing_grows n m early =
      let far : m ≡ n + (m - n) = omega arith in
      let parts : up_to (n + (m - n)) ≡ up_to n + sum_by (λ i. cond (is_missing (n + i)) 1 0) (range_with_len 0 (m - n)) =
      sum_by-range_add (λ p. cond (is_missing p) 1 0) n (m - n) in
      omega (arith, ap up_to far, parts)

  pub missing_few : (n : ℕ) → up_to n ≤ n
  missing_few n = omega (arith, count_by-le-length is_missing (range_with_len 0 n), length-range_with_len 0 n)

-- no more bits of a word are missing than it has
pub missing_in-few : (word wanted : ℕ) → missing_in word wanted ≤ 64
missing_in-few word wanted =
    ones-le 64 (bit_and wanted (bit_not w64 word)) (omega (arith, and_le_r wanted (bit_not w64 word), ones_sub-lt 64 word))

-- a word lacks no bit where its number is 0
pub missing_none : (word wanted : ℕ) → (bit_and wanted (bit_not w64 word) == 0) ≡ (missing_in word wanted == 0)
missing_none word wanted =
    let left = bit_and wanted (bit_not w64 word) in
    ⊎_elim
    (λ (none : left ≡ 0). eq-eqb left 0 none ∙ sym (eq-eqb (count_ones left) 0 (ap count_ones none ∙ ones_of_bit 0 (omega arith))))
    (λ (some : left ≡ 0 → ⊥). ne_eqb left 0 some ∙ sym (ne_eqb (count_ones left) 0 (λ zero_ones. some (zero_from_ones left zero_ones))))
    (cases_eq left 0)

both_none : (n m : ℕ) → ((n == 0) && (m == 0)) ≡ (n + m == 0)
both_none n m = ⊎_elim
    (λ (none : n ≡ 0). ap (λ b. b && (m == 0)) (eq-eqb n 0 none)
    ∙ ((let same : m ≡ n + m = omega arith in ap (λ k. k == 0) same)))
    (λ (some : n ≡ 0 → ⊥). ap (λ b. b && (m == 0)) (ne_eqb n 0 some) ∙ sym (ne_eqb (n + m) 0 (λ same. some (omega arith))))
    (cases_eq n 0)

-- of four words
pub four_covered : (words wanted : List ℕ) → length words ≡ 4 → length wanted ≡ 4 →
    pointwise nat_eq (zip2 bit_and wanted (map (bit_not w64) words)) (0 ∷ 0 ∷ 0 ∷ 0 ∷ [])
    ≡ (sum_by (λ k. missing_in (get_or words k 0) (get_or wanted k 0)) (range_with_len 0 4) == 0)
four_covered words wanted four four_wanted =
    let w : ℕ → ℕ = λ k. get_or words k 0 in
    let n : ℕ → ℕ = λ k. get_or wanted k 0 in
    let m : ℕ → ℕ = λ k. missing_in (w k) (n k) in
    let lists : pointwise nat_eq (zip2 bit_and wanted (map (bit_not w64) words)) (0 ∷ 0 ∷ 0 ∷ 0 ∷ [])
    ≡ pointwise nat_eq (zip2 bit_and (n 0 ∷ n 1 ∷ n 2 ∷ n 3 ∷ []) (map (bit_not w64) (w 0 ∷ w 1 ∷ w 2 ∷ w 3 ∷ []))) (0 ∷ 0 ∷ 0 ∷ 0 ∷ []) =
    (λ j. pointwise nat_eq (zip2 bit_and (lanes_are wanted four_wanted j) (map (bit_not w64) (lanes_are words four j))) (0 ∷ 0 ∷ 0 ∷ 0 ∷ [])) in
    let counts : pointwise nat_eq (zip2 bit_and (n 0 ∷ n 1 ∷ n 2 ∷ n 3 ∷ []) (map (bit_not w64) (w 0 ∷ w 1 ∷ w 2 ∷ w 3 ∷ []))) (0 ∷ 0 ∷ 0 ∷ 0 ∷ [])
    ≡ ((m 0 == 0) && ((m 1 == 0) && ((m 2 == 0) && ((m 3 == 0) && true)))) =
    (λ j. missing_none (w 0) (n 0) j && (missing_none (w 1) (n 1) j && (missing_none (w 2) (n 2) j && (missing_none (w 3) (n 3) j && true)))) in
    let last : ((m 3 == 0) && true) ≡ (m 3 == 0) = and-true (m 3 == 0) in
    let sum : m 0 + (m 1 + (m 2 + m 3)) ≡ sum_by m (range_with_len 0 4) = omega arith in
    lists ∙ (counts
    ∙ (ap (λ b. (m 0 == 0) && ((m 1 == 0) && ((m 2 == 0) && b))) last
    ∙ (ap (λ b. (m 0 == 0) && ((m 1 == 0) && b)) (both_none (m 2) (m 3))
    ∙ (ap (λ b. (m 0 == 0) && b) (both_none (m 1) (m 2 + m 3))
    ∙ (both_none (m 0) (m 1 + (m 2 + m 3)) ∙ ap (λ k. k == 0) sum)))))

pub four_few : (words wanted : List ℕ) → length words ≡ 4 → length wanted ≡ 4 →
    sum_l (map count_ones (zip2 bit_and wanted (map (bit_not w64) words))) ≤ 256
four_few words wanted four four_wanted =
    let w : ℕ → ℕ = λ k. get_or words k 0 in
    let n : ℕ → ℕ = λ k. get_or wanted k 0 in
    let few : sum_l (map count_ones (zip2 bit_and (n 0 ∷ n 1 ∷ n 2 ∷ n 3 ∷ []) (map (bit_not w64) (w 0 ∷ w 1 ∷ w 2 ∷ w 3 ∷ [])))) ≤ 256 =
    omega (arith, missing_in-few (w 0) (n 0), missing_in-few (w 1) (n 1), missing_in-few (w 2) (n 2), missing_in-few (w 3) (n 3)) in
    subst (λ ws. sum_l (map count_ones (zip2 bit_and ws (map (bit_not w64) words))) ≤ 256) (sym (lanes_are wanted four_wanted))
    (subst (λ ws. sum_l (map count_ones (zip2 bit_and (n 0 ∷ n 1 ∷ n 2 ∷ n 3 ∷ []) (map (bit_not w64) ws))) ≤ 256) (sym (lanes_are words four)) few)

-- the atoms of one set that are not in another of its size, by the bits of their words
pub missing_atoms : (words wanted : List ℕ) (size : ℕ) → IsPacked words size → IsPacked wanted size →
    count_by (λ p. bit_in wanted p && not (bit_in words p)) (range_with_len 0 (64 * length words))
    ≡ count_by (λ p. not (has (flags_in words size) p)) (atoms_in (flags_in wanted size))
missing_atoms words wanted size packed wanted_packed =
    let set = flags_in words size in
    let other = flags_in wanted size in
    let t : ℕ → ℕ = λ p. cond (bit_in wanted p && not (bit_in words p)) 1 0 in
    let spare = 64 * length words - size in
    let long : 64 * length words ≡ size + spare = omega (arith, packed.room) in
    let split : sum_by t (range_with_len 0 (64 * length words)) ≡ sum_by t (range_with_len 0 size) + sum_by (λ i. t (size + i)) (range_with_len 0 spare) =
    ap (λ n. sum_by t (range_with_len 0 n)) long ∙ sum_by-range_add t size spare in
    let nothing : sum_by (λ i. t (size + i)) (range_with_len 0 spare) ≡ 0 =
    sum_by-nothing (λ i. t (size + i)) spare
    (λ i below. ap (λ b. cond (b && not (bit_in words (size + i))) 1 0) (wanted_packed.spare (size + i) (omega arith))) in
    let flags : sum_by t (range_with_len 0 size) ≡ count_by (λ p. has other p && not (has set p)) (range_with_len 0 size) =
    sums_agree t (λ p. cond (has other p && not (has set p)) 1 0) size
    (λ p below. sym (λ j. cond (has-flags_in wanted size wanted_packed p j && not (has-flags_in words size packed p j)) 1 0)) in
    let whole : sum_by t (range_with_len 0 (64 * length words)) ≡ count_by (λ p. has other p && not (has set p)) (range_with_len 0 size) =
    omega (arith, split, nothing, flags) in
    whole ∙ (sym (count_by-filter (λ p. not (has set p)) (has other) (range_with_len 0 size))
    ∙ ap (λ n. count_by (λ p. not (has set p)) (filter (has other) (range_with_len 0 n))) (sym (length-flags_in wanted size)))
