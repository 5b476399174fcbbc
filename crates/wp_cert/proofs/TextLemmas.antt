-- What is read is written so: each line, and the comments between them.
use Rattle.std.proofs.Common.{rules, ◌≡◌, ◌==◌, ◌&&◌, ◌||◌, not, ℕ, zero, suc, ◌+◌, ◌-◌, ◌<◌, ◌≤◌, ◌^◌, Bool, true, false, cond, nat_eq, nat_lt, List, [], ◌∷◌, ◌++◌, length, map, filter, get_or, Option, Some, None, Result, Ok, Err, refl, sym, ap, ◌∙◌, subst, ⊎_elim, append_assoc, arith}
use Rattle.std.specs.Prelude.{codes}
use Rattle.std.specs.Fmt.{decimal}
use Rattle.std.specs.Cmp.{unsigned_Decides}
use Rattle.std.specs.Cmp.Lexicographic.{pointwise}
use Rattle.std.specs.List.{All, flat_map}
use Rattle.std.specs.List.Sorted.{IsStrictlyIncreasing}
use Rattle.std.specs.Str.{all_ascii_digits}
use Rattle.std.specs.Str.Parse.{digits_value}
use Rattle.std.proofs.lemmas.Bool.{and_parts, both_ways, cases_lt, eq-eqb, ltb-true, ltb-false, eqb-true, not-true}
use Rattle.std.proofs.lemmas.Fmt.{decimal-digits_value}
use Rattle.std.proofs.lemmas.List.{append-nil}
use Rattle.std.proofs.lemmas.List.Elements.{All-head, All-tail, All-cons}
use Rattle.std.proofs.lemmas.Slice.Eq.{slice_eq-Decides}
use Rattle.wp_task.specs.Set.{AreAtoms}
use Rattle.wp_cert.specs.Certificate.{AreStates}
use Rattle.wp_cert.specs.Format.{line, spaced, header_line, state_line, lines_of, is_comment, IsLine, IsTextOf, longer, pieces, value_in, leads, from_low, number_in, put_first, after_number, atoms_from, state_by, state_in, one_number, count_by, count_in, one_state, added_by, with_states, states_from, header_from, cert_of}
use Rattle.wp_cert.proofs.LineLemmas.{HasFirst, some_piece}
use Rattle.wp_cert.proofs.FormatLemmas.{AreDigits, digits_are_read, IsFree, RisesFrom, keeps_no, keeps_one}

-- ---- pieces, joined
abbrev joined : ℕ → List (List ℕ) → List ℕ
joined mark [] = []
joined mark (piece ∷ []) = piece
joined mark (piece ∷ next ∷ rest) = piece ++ mark ∷ joined mark (next ∷ rest)

joined_longer : (mark byte : ℕ) (piece : List ℕ) (rest : List (List ℕ)) → joined mark ((byte ∷ piece) ∷ rest) ≡ byte ∷ joined mark (piece ∷ rest)
joined_longer mark byte piece [] = refl
joined_longer mark byte piece (next ∷ rest) = refl

joined_pieces : (mark : ℕ) (text : List ℕ) → joined mark (pieces mark text) ≡ text
joined_pieces mark [] = refl
joined_pieces mark (byte ∷ text) = by (byte == mark) refl (some_piece mark text) (joined_pieces mark text) where
  by : (t : Bool) → (byte == mark) ≡ t → HasFirst (pieces mark text) → joined mark (pieces mark text) ≡ text →
      joined mark (cond t ([] ∷ pieces mark text) (longer byte (pieces mark text))) ≡ byte ∷ text
  by true is some rest =
      ap (λ ps. joined mark ([] ∷ ps)) some.is
      ∙ ap (λ ps. mark ∷ joined mark ps) (sym some.is)
      ∙ (λ j. sym (eqb-true byte mark is) j ∷ rest j)
  by false is some rest =
      ap (λ ps. joined mark (longer byte ps)) some.is
      ∙ joined_longer mark byte some.first some.rest
      ∙ ap (λ ps. byte ∷ joined mark ps) (sym some.is)
      ∙ ap (λ t. byte ∷ t) rest

pieces_free : (mark : ℕ) (text : List ℕ) → All (IsFree mark) (pieces mark text)
pieces_free mark [] = All-cons (IsFree mark) [] [] (λ k d within. absurd (omega arith)) (λ k d within. absurd (omega arith))
pieces_free mark (byte ∷ text) = by (byte == mark) refl (pieces mark text) (pieces_free mark text) where
  by : (t : Bool) → (byte == mark) ≡ t → (ps : List (List ℕ)) → All (IsFree mark) ps → All (IsFree mark) (cond t ([] ∷ ps) (longer byte ps))
  by true is ps free = All-cons (IsFree mark) [] ps (λ k d within. absurd (omega arith)) free
  by false is [] free =
      All-cons (IsFree mark) (byte ∷ []) []
      (All-cons (λ (b : ℕ). (b == mark) ≡ false) byte [] is (λ k d within. absurd (omega arith))) (λ k d within. absurd (omega arith))
  by false is (piece ∷ ps) free =
      All-cons (IsFree mark) (byte ∷ piece) ps
      (All-cons (λ (b : ℕ). (b == mark) ≡ false) byte piece is (All-head (IsFree mark) piece ps free)) (All-tail (IsFree mark) piece ps free)

joined_lines : (lines : List (List ℕ)) → joined 10 (lines ++ [] ∷ []) ≡ flat_map line lines
joined_lines [] = refl
joined_lines (l ∷ []) = sym (append-nil (l ++ 10 ∷ []))
joined_lines (l ∷ next ∷ lines) =
    ap (λ t. l ++ 10 ∷ t) (joined_lines (next ∷ lines)) ∙ sym (append_assoc l (10 ∷ []) (flat_map line (next ∷ lines)))

free_lines : (lines : List (List ℕ)) → All (IsFree 10) (lines ++ [] ∷ []) → All IsLine lines
free_lines [] free = λ k d within. absurd (omega arith)
free_lines (l ∷ lines) free =
    All-cons IsLine l lines (All-head (IsFree 10) l (lines ++ [] ∷ []) free) (free_lines lines (All-tail (IsFree 10) l (lines ++ [] ∷ []) free))

-- ---- numbers
-- a word that is read as a number is how it is written
record IsNumber (low high : ℕ) (word : List ℕ) (n : ℕ) : Type 0 where
  written : word ≡ decimal n
  above : low ≤ n
  below : n ≤ high

number_is : (low high : ℕ) (word : List ℕ) (n : ℕ) → high < 2 ^ 64 → number_in low high word ≡ Some n → IsNumber low high word n
unfolding number_in
number_is low high word n small is = by (leads word) refl is where
  valued : (t : Bool) → t ≡ (all_ascii_digits word && not (nat_lt high (digits_value 10 word))) → leads word ≡ true →
      from_low low (cond t (Some (digits_value 10 word)) None) ≡ Some n → IsNumber low high word n
  valued false e leading is = absurd (cc)
  valued true e leading is = lowest (nat_lt (digits_value 10 word) low) refl is where
    lowest : (u : Bool) → nat_lt (digits_value 10 word) low ≡ u → cond u None (Some (digits_value 10 word)) ≡ Some n → IsNumber low high word n
    lowest true under is = absurd (cc)
    lowest false over is =
        let parts = and_parts (all_ascii_digits word) (not (nat_lt high (digits_value 10 word))) (sym e) in
        let low_enough : digits_value 10 word ≤ high = ltb-false high (digits_value 10 word) (not-true (nat_lt high (digits_value 10 word)) parts.1) in
        let front = and_parts (nat_lt 0 (length word)) (not (get_or word 0 0 == 48) || (length word == 1)) leading in
        let same : digits_value 10 word ≡ n = cc in
        record {
          written =
              sym (decimal-digits_value digits_are_read word parts.0 (ltb-true 0 (length word) front.0)
              (λ zero_first. one (get_or word 0 0 == 48) (length word == 1) (eq-eqb (get_or word 0 0) 48 zero_first) refl front.1)
              (omega (arith, low_enough, small)))
              ∙ ap decimal same;
          above = subst (λ m. low ≤ m) same (ltb-false (digits_value 10 word) low over);
          below = subst (λ m. m ≤ high) same low_enough;
        } where
          one : (x y : Bool) → x ≡ true → (length word == 1) ≡ y → (not x || y) ≡ true → length word ≡ 1
          one true true there is holds = eqb-true (length word) 1 is
          one true false there is holds = absurd (cc)
          one false y there is holds = absurd (cc)

  by : (t : Bool) → leads word ≡ t → cond t (from_low low (value_in high 0 word)) None ≡ Some n → IsNumber low high word n
  by false leading is = absurd (cc)
  by true leading is = valued (all_ascii_digits word && not (nat_lt high (digits_value 10 word))) refl leading is

-- ---- atoms
record AreWritten (low : ℕ) (words : List (List ℕ)) (atoms : List ℕ) : Type 0 where
  words_are : words ≡ map decimal atoms
  rise : RisesFrom low atoms

atoms_are : (low : ℕ) (words : List (List ℕ)) (atoms : List ℕ) → atoms_from low words ≡ Some atoms → AreWritten low words atoms
atoms_are low [] atoms is = subst (AreWritten low []) (let e : [] ≡ atoms = cc in e) (record { words_are = refl; rise = tt })
atoms_are low (word ∷ words) atoms is = by (number_in low 65535 word) refl is (λ n others. atoms_are (n + 1) words others) where
  rest : (n : ℕ) (r : Option (List ℕ)) → number_in low 65535 word ≡ Some n → atoms_from (n + 1) words ≡ r → put_first (Some n) r ≡ Some atoms →
      ((others : List ℕ) → atoms_from (n + 1) words ≡ Some others → AreWritten (n + 1) words others) → AreWritten low (word ∷ words) atoms
  rest n None told told_rest is more = absurd (cc)
  rest n (Some others) told told_rest is more =
      let number = number_is low 65535 word n (omega arith) told in
      let written = more others told_rest in
      subst (AreWritten low (word ∷ words)) (let e : n ∷ others ≡ atoms = cc in e)
      (record { words_are = (λ j. number.written j ∷ written.words_are j); rise = (number.above, number.below, written.rise) })

  by : (o : Option ℕ) → number_in low 65535 word ≡ o → put_first o (atoms_from (after_number o) words) ≡ Some atoms →
      ((n : ℕ) (others : List ℕ) → atoms_from (n + 1) words ≡ Some others → AreWritten (n + 1) words others) → AreWritten low (word ∷ words) atoms
  by None told is more = absurd (cc)
  by (Some n) told is more = rest n (atoms_from (n + 1) words) told refl is (more n)

joined_spaced : (front : List ℕ) (atoms : List ℕ) → joined 32 (front ∷ map decimal atoms) ≡ front ++ spaced atoms
joined_spaced front [] = sym (append-nil front)
joined_spaced front (p ∷ atoms) = ap (λ t. front ++ 32 ∷ t) (joined_spaced (decimal p) atoms)

rises_above : (low : ℕ) (atoms : List ℕ) → RisesFrom low atoms → 0 < length atoms → low ≤ get_or atoms 0 0
rises_above low [] rise some = absurd (omega arith)
rises_above low (q ∷ atoms) rise some = rise.0

rising_more : (p : ℕ) (atoms : List ℕ) → IsStrictlyIncreasing atoms → (0 < length atoms → p + 1 ≤ get_or atoms 0 0) → (k : ℕ) → k + 1 < length (p ∷ atoms) →
    get_or (p ∷ atoms) k 0 < get_or (p ∷ atoms) (k + 1) 0
rising_more p atoms rising first zero within = omega (arith, first (omega (arith, within)))
rising_more p atoms rising first (suc k) within =
    subst (λ i. get_or atoms k 0 < get_or (p ∷ atoms) i 0) (let e : suc (k + 1) ≡ suc k + 1 = omega arith in e)
    (rising k (omega (arith, within)))

are_atoms : (low : ℕ) (atoms : List ℕ) → RisesFrom low atoms → AreAtoms 65536 atoms
are_atoms low [] rise = record { below = λ k d within. absurd (omega arith); rising = λ k within. absurd (omega arith) }
are_atoms low (p ∷ atoms) rise =
    let rest = are_atoms (p + 1) atoms rise.2 in
    record {
      below = All-cons (λ q. q < 65536) p atoms (omega (arith, rise.1)) rest.below;
      rising = rising_more p atoms rest.rising (rises_above (p + 1) atoms rise.2);
    }

ne_zero : (n : ℕ) → (n == 0) ≡ false → 0 < n
ne_zero n some = ⊎_elim (λ (more : 0 < n). more) (λ (none : n ≤ 0). let is : n ≡ 0 = omega arith in absurd (both_ways (n == 0) some (eq-eqb n 0 is))) (cases_lt 0 n)

same_word : (x y : List ℕ) → pointwise nat_eq x y ≡ true → x ≡ y
same_word x y = (slice_eq-Decides unsigned_Decides x y (pointwise nat_eq x y) refl).0

-- ---- lines
record IsStateLine (text : List ℕ) (atoms : List ℕ) : Type 0 where
  written : text ≡ state_line atoms
  fits : AreAtoms 65536 atoms

state_written : (atoms : List ℕ) → state_line atoms ≡ codes "state" ++ spaced atoms
unfolding state_line
state_written atoms = refl

header_written : (count : ℕ) → header_line count ≡ codes "states " ++ decimal count
unfolding header_line
header_written count = refl

state_is : (text : List ℕ) (atoms : List ℕ) → state_in text ≡ Some atoms → IsStateLine text atoms
state_is text atoms is = by (pieces 32 text) (joined_pieces 32 text) is where
  by : (ps : List (List ℕ)) → joined 32 ps ≡ text → state_by ps ≡ Some atoms → IsStateLine text atoms
  by [] glued is = absurd (cc)
  by (word ∷ words) glued is = named (pointwise nat_eq word (codes "state")) refl is where
    named : (t : Bool) → pointwise nat_eq word (codes "state") ≡ t → cond t (atoms_from 0 words) None ≡ Some atoms → IsStateLine text atoms
    named false other is = absurd (cc)
    named true same is =
        let written = atoms_are 0 words atoms is in
        record {
          written =
              sym glued
              ∙ ap (λ w. joined 32 (w ∷ words)) (same_word word (codes "state") same)
              ∙ ap (λ ws. joined 32 (codes "state" ∷ ws)) written.words_are
              ∙ joined_spaced (codes "state") atoms
              ∙ sym (state_written atoms);
          fits = are_atoms 0 atoms written.rise;
        }

record IsHeaderLine (text : List ℕ) (count : ℕ) : Type 0 where
  written : text ≡ header_line count
  few : count ≤ 100000000

header_is : (text : List ℕ) (count : ℕ) → count_in text ≡ Some count → IsHeaderLine text count
header_is text count is = by (pieces 32 text) (joined_pieces 32 text) is where
  by : (ps : List (List ℕ)) → joined 32 ps ≡ text → count_by ps ≡ Some count → IsHeaderLine text count
  by [] glued is = absurd (cc)
  by (word ∷ words) glued is = named (pointwise nat_eq word (codes "states")) words refl glued is where
    named : (t : Bool) (words : List (List ℕ)) → pointwise nat_eq word (codes "states") ≡ t → joined 32 (word ∷ words) ≡ text →
        cond t (one_number words) None ≡ Some count → IsHeaderLine text count
    named false words other glued is = absurd (cc)
    named true [] same glued is = absurd (cc)
    named true (number ∷ more ∷ words) same glued is = absurd (cc)
    named true (number ∷ []) same glued is =
        let told = number_is 0 100000000 number count (omega arith) is in
        record {
          written =
              sym glued
              ∙ ap (λ w. w ++ 32 ∷ number) (same_word word (codes "states") same)
              ∙ ap (λ w. codes "states" ++ 32 ∷ w) told.written
              ∙ sym (header_written count);
          few = told.below;
        }

-- the pieces are lines and nothing behind them
record AreLinesOf (ps : List (List ℕ)) (wanted : List (List ℕ)) : Type 0 where
  lines : List (List ℕ)
  ended : ps ≡ lines ++ [] ∷ []
  kept : filter (λ (l : List ℕ). not (is_comment l)) lines ≡ wanted

one_more : (l : List ℕ) (ps wanted : List (List ℕ)) → is_comment l ≡ false → AreLinesOf ps wanted → AreLinesOf (l ∷ ps) (l ∷ wanted)
one_more l ps wanted other are = record {
  lines = l ∷ are.lines;
  ended = ap (λ q. l ∷ q) are.ended;
  kept = keeps_one l are.lines other ∙ ap (λ q. l ∷ q) are.kept;
}

comment_more : (l : List ℕ) (ps wanted : List (List ℕ)) → is_comment l ≡ true → AreLinesOf ps wanted → AreLinesOf (l ∷ ps) wanted
comment_more l ps wanted comment are = record {
  lines = l ∷ are.lines;
  ended = ap (λ q. l ∷ q) are.ended;
  kept = keeps_no l are.lines comment ∙ are.kept;
}

record AreStatesOf (left : ℕ) (ps cert : List (List ℕ)) : Type 0 where
  lines : AreLinesOf ps (map state_line cert)
  count : length cert ≡ left
  fits : All (AreAtoms 65536) cert

abbrev after_line : ℕ → ℕ → List (List ℕ) → Option (List (List ℕ)) → Result (List (List ℕ)) ℕ
after_line number left tail o = elim o as (λ _. Result (List (List ℕ)) ℕ) [
  | None ↦ Err number
  | Some states ↦ with_states states (states_from (number + 1) (left - length states) tail)
]

abbrev after_first : ℕ → List ℕ → List (List ℕ) → Bool → Result (List (List ℕ)) ℕ
after_first number l tail t = elim t as (λ _. Result (List (List ℕ)) ℕ) [
  | true ↦ header_from (number + 1) tail
  | false ↦ elim (count_in l) as (λ _. Result (List (List ℕ)) ℕ) [ None ↦ Err number | Some count ↦ states_from (number + 1) count tail ]
]

abbrev RestAre : ℕ → List (List ℕ) → Type 0
RestAre number tail = (left : ℕ) (states : List (List ℕ)) → states_from (number + 1) left tail ≡ Ok states → AreStatesOf left tail states

states_are : (number left : ℕ) (ps cert : List (List ℕ)) → states_from number left ps ≡ Ok cert → AreStatesOf left ps cert
states_are number left [] cert is = absurd (cc)
states_are number left (last ∷ []) cert is = by (length last == 0) (left == 0) refl refl is where
  by : (t u : Bool) → (length last == 0) ≡ t → (left == 0) ≡ u → cond (t && u) (Ok []) (Err number) ≡ Ok cert → AreStatesOf left (last ∷ []) cert
  by false u some none is = absurd (cc)
  by true false some none is = absurd (cc)
  by true true none_left none is =
      subst (AreStatesOf left (last ∷ [])) (let e : [] ≡ cert = cc in e) (record {
        lines = record { lines = []; ended = ap (λ l. l ∷ []) (nothing last (eqb-true (length last) 0 none_left)); kept = refl };
        count = sym (eqb-true left 0 none);
        fits = λ k d within. absurd (omega arith);
      }) where
        nothing : (l : List ℕ) → length l ≡ 0 → l ≡ []
        nothing [] e = refl
        nothing (b ∷ l) e = absurd (omega (arith, e))
states_are number left (l ∷ next ∷ rest) cert is =
    by (is_comment l) refl is (λ left states. states_are (number + 1) left (next ∷ rest) states) where
      after_comments : (r : Result (List (List ℕ)) ℕ) → is_comment l ≡ true → states_from (number + 1) (left - 0) (next ∷ rest) ≡ r →
          with_states [] r ≡ Ok cert → RestAre number (next ∷ rest) → AreStatesOf left (l ∷ next ∷ rest) cert
      after_comments (Err n) comment read is more = absurd (cc)
      after_comments (Ok states) comment read is more =
          let are = more (left - 0) states read in
          subst (AreStatesOf left (l ∷ next ∷ rest)) (let e : states ≡ cert = cc in e) (record {
            lines = comment_more l (next ∷ rest) (map state_line states) comment are.lines;
            count = are.count ∙ (let e : left - 0 ≡ left = omega arith in e);
            fits = are.fits;
          })

      after_state : (atoms : List ℕ) (r : Result (List (List ℕ)) ℕ) → is_comment l ≡ false → (left == 0) ≡ false → state_in l ≡ Some atoms →
          states_from (number + 1) (left - 1) (next ∷ rest) ≡ r → with_states (atoms ∷ []) r ≡ Ok cert → RestAre number (next ∷ rest) → AreStatesOf left (l ∷ next ∷ rest) cert
      after_state atoms (Err n) other some read on is more = absurd (cc)
      after_state atoms (Ok states) other some read on is more =
          let are = more (left - 1) states on in
          let state = state_is l atoms read in
          let positive : 0 < left = ne_zero left some in
          subst (AreStatesOf left (l ∷ next ∷ rest)) (let e : atoms ∷ states ≡ cert = cc in e) (record {
            lines = subst (λ k. AreLinesOf (l ∷ next ∷ rest) (k ∷ map state_line states)) state.written
                (one_more l (next ∷ rest) (map state_line states) other are.lines);
            count = omega (arith, are.count, positive);
            fits = All-cons (AreAtoms 65536) atoms states state.fits are.fits;
          })

      told : (o : Option (List ℕ)) → is_comment l ≡ false → (left == 0) ≡ false → state_in l ≡ o →
          after_line number left (next ∷ rest) (one_state o) ≡ Ok cert → RestAre number (next ∷ rest) → AreStatesOf left (l ∷ next ∷ rest) cert
      told None other some read is more = absurd (cc)
      told (Some atoms) other some read is more = after_state atoms (states_from (number + 1) (left - 1) (next ∷ rest)) other some read refl is more

      no_comment : (u : Bool) → is_comment l ≡ false → (left == 0) ≡ u →
          after_line number left (next ∷ rest) (cond u None (one_state (state_in l))) ≡ Ok cert → RestAre number (next ∷ rest) → AreStatesOf left (l ∷ next ∷ rest) cert
      no_comment true other none is more = absurd (cc)
      no_comment false other some is more = told (state_in l) other some refl is more

      by : (t : Bool) → is_comment l ≡ t → after_line number left (next ∷ rest) (cond t (Some []) (cond (left == 0) None (one_state (state_in l)))) ≡ Ok cert →
          RestAre number (next ∷ rest) → AreStatesOf left (l ∷ next ∷ rest) cert
      by true comment is more = after_comments (states_from (number + 1) (left - 0) (next ∷ rest)) comment refl is more
      by false other is more = no_comment (left == 0) other refl is more

header_are : (number : ℕ) (ps cert : List (List ℕ)) → header_from number ps ≡ Ok cert → AreLinesOf ps (lines_of cert) × AreStates cert
header_are number [] cert is = absurd (cc)
header_are number (last ∷ []) cert is = absurd (cc)
header_are number (l ∷ next ∷ rest) cert is = by (is_comment l) refl is (header_are (number + 1) (next ∷ rest) cert) where
  told : (o : Option ℕ) → is_comment l ≡ false → count_in l ≡ o →
      elim o as (λ _. Result (List (List ℕ)) ℕ) [ None ↦ Err number | Some count ↦ states_from (number + 1) count (next ∷ rest) ] ≡ Ok cert →
      AreLinesOf (l ∷ next ∷ rest) (lines_of cert) × AreStates cert
  told None other read is = absurd (cc)
  told (Some count) other read is =
      let header = header_is l count read in
      let are = states_are (number + 1) count (next ∷ rest) cert is in (
        subst (λ k. AreLinesOf (l ∷ next ∷ rest) (k ∷ map state_line cert)) (header.written ∙ ap header_line (sym are.count))
            (one_more l (next ∷ rest) (map state_line cert) other are.lines),
        record { few = omega (arith, header.few, are.count); each = are.fits },
      )

  by : (t : Bool) → is_comment l ≡ t → after_first number l (next ∷ rest) t ≡ Ok cert →
      (header_from (number + 1) (next ∷ rest) ≡ Ok cert → AreLinesOf (next ∷ rest) (lines_of cert) × AreStates cert) →
      AreLinesOf (l ∷ next ∷ rest) (lines_of cert) × AreStates cert
  by true comment is more = let are = more is in (comment_more l (next ∷ rest) (lines_of cert) comment are.0, are.1)
  by false other is more = told (count_in l) other refl is

pub read_is_text : (cert : List (List ℕ)) (text : List ℕ) → cert_of text ≡ Ok cert → IsTextOf cert text
unfolding cert_of
read_is_text cert text is =
    let are = header_are 1 (pieces 10 text) cert is in
    record {
      lines = are.0.lines;
      whole = sym (joined_pieces 10 text) ∙ ap (joined 10) are.0.ended ∙ joined_lines are.0.lines;
      each = free_lines are.0.lines (subst (All (IsFree 10)) are.0.ended (pieces_free 10 text));
      states = are.0.kept;
      fits = are.1;
    }
