-- What is written is read: the lines of a certificate, with comments anywhere.
use Rattle.std.proofs.Common.{rules, ◌≡◌, ◌==◌, ◌&&◌, ◌||◌, not, ℕ, zero, suc, ◌+◌, ◌-◌, ◌<◌, ◌≤◌, ◌^◌, Bool, true, false, cond, nat_lt, List, [], ◌∷◌, ◌++◌, length, map, filter, get_or, Option, Some, None, Result, Ok, Err, refl, sym, ap, ◌∙◌, subst, ⊎_elim, append_assoc, arith}
use Rattle.std.specs.Prelude.{codes}
use Rattle.std.specs.Fmt.{decimal}
use Rattle.std.specs.List.{All, flat_map, list_all}
use Rattle.std.specs.Str.{all_ascii_digits}
use Rattle.std.specs.Str.Parse.{digits_value}
use Rattle.std.proofs.lemmas.Grind.{flat_map-append}
use Rattle.std.proofs.lemmas.Bool.{and_parts, and_from, eq-eqb, cases_lt, cases_Bool, le-ltb, lt-ltb, ne_eqb, not-true}
use Rattle.std.proofs.lemmas.Fmt.{digits_decimal, digits_value-decimal, decimal_nonempty, decimal_digit, first_decimal}
use Rattle.std.proofs.lemmas.List.{append-nil}
use Rattle.std.proofs.lemmas.List.Elements.{All-head, All-tail, All-cons, All-append}
use Rattle.std.proofs.lemmas.Str.Parse.{IsNumeralModel, numerals_by_value, tells_all_ascii_digits}
use Rattle.wp_task.specs.Set.{AreAtoms}
use Rattle.wp_cert.specs.Certificate.{AreStates}
use Rattle.wp_cert.specs.Format.{line, spaced, header_line, state_line, lines_of, states_text, text_of, is_comment, IsLine, IsTextOf, longer, pieces, value_in, leads, from_low, number_in, put_first, after_number, atoms_from, state_by, state_in, count_by, count_in, one_state, added_by, with_states, states_from, header_from, cert_of}
use Rattle.wp_cert.proofs.WordLemmas.{one_piece}
use Rattle.wp_cert.proofs.LineLemmas.{HasFirst, header_comment, header_some, states_some}

-- ---- pieces
abbrev pub IsFree : ℕ → List ℕ → Type 0
IsFree mark text = All (λ (byte : ℕ). (byte == mark) ≡ false) text

free_by : (mark : ℕ) (text : List ℕ) → list_all (λ (b : ℕ). not (b == mark)) text ≡ true → IsFree mark text
free_by mark [] all = λ k d within. absurd (omega arith)
free_by mark (byte ∷ text) all =
    let parts = and_parts (not (byte == mark)) (list_all (λ (b : ℕ). not (b == mark)) text) all in
    All-cons (λ (b : ℕ). (b == mark) ≡ false) byte text (not-true (byte == mark) parts.0) (free_by mark text parts.1)

pieces_line : (mark : ℕ) (piece text : List ℕ) → IsFree mark piece → pieces mark (piece ++ mark ∷ text) ≡ piece ∷ pieces mark text
pieces_line mark [] text free =
    ap (λ t. cond t ([] ∷ pieces mark text) (longer mark (pieces mark text))) (eq-eqb mark mark refl)
pieces_line mark (byte ∷ piece) text free =
    ap (λ t. cond t ([] ∷ pieces mark (piece ++ mark ∷ text)) (longer byte (pieces mark (piece ++ mark ∷ text))))
    (All-head (λ (b : ℕ). (b == mark) ≡ false) byte piece free)
    ∙ ap (longer byte) (pieces_line mark piece text (All-tail (λ (b : ℕ). (b == mark) ≡ false) byte piece free))

pieces_lines : (lines : List (List ℕ)) → All IsLine lines → pieces 10 (flat_map line lines) ≡ lines ++ [] ∷ []
pieces_lines [] free = refl
pieces_lines (l ∷ lines) free =
    ap (pieces 10) (append_assoc l (10 ∷ []) (flat_map line lines))
    ∙ pieces_line 10 l (flat_map line lines) (All-head IsLine l lines free)
    ∙ ap (λ ps. l ∷ ps) (pieces_lines lines (All-tail IsLine l lines free))

-- ---- numbers
abbrev pub AreDigits : List ℕ → Type 0
AreDigits word = all_ascii_digits word ≡ true

pub digits_are_read : IsNumeralModel AreDigits (digits_value 10)
digits_are_read = numerals_by_value AreDigits tells_all_ascii_digits

digits_free : (mark : ℕ) (ds : List ℕ) → mark < 48 → all_ascii_digits ds ≡ true → IsFree mark ds
digits_free mark [] low are = λ k d within. absurd (omega arith)
digits_free mark (c ∷ ds) low are =
    let parts = tells_all_ascii_digits.parts c ds are in
    All-cons (λ (b : ℕ). (b == mark) ≡ false) c ds (ne_eqb c mark (λ (same : c ≡ mark). omega (arith, parts.0.0)))
    (digits_free mark ds low parts.1)

pub decimal_free : (mark n : ℕ) → mark < 48 → n < 2 ^ 64 → IsFree mark (decimal n)
decimal_free mark n low small = digits_free mark (decimal n) low (digits_decimal digits_are_read n small)

decimal_leads : (n : ℕ) → n < 2 ^ 64 → leads (decimal n) ≡ true
decimal_leads n small =
    and_from (nat_lt 0 (length (decimal n))) (not (get_or (decimal n) 0 0 == 48) || (length (decimal n) == 1))
    (lt-ltb 0 (length (decimal n)) (decimal_nonempty n small))
    (⊎_elim
    (λ (some : 0 < n).
    let first : 48 < get_or (decimal n) 0 0 = first_decimal n some small in
    ap (λ t. not t || (length (decimal n) == 1)) (ne_eqb (get_or (decimal n) 0 0) 48 (λ (same : get_or (decimal n) 0 0 ≡ 48). omega arith)))
    (λ (none : n ≤ 0).
    let is : n ≡ 0 = omega arith in
    let one : decimal n ≡ 48 ∷ [] = ap decimal is ∙ decimal_digit 0 (omega arith) in
    ap (λ (ds : List ℕ). not (get_or ds 0 0 == 48) || (length ds == 1)) one)
    (cases_lt 0 n))

value_decimal : (high n : ℕ) → n ≤ high → n < 2 ^ 64 → value_in high 0 (decimal n) ≡ Some n
value_decimal high n low small =
    ap (λ t. cond (t && not (nat_lt high (digits_value 10 (decimal n)))) (Some (digits_value 10 (decimal n))) None) (digits_decimal digits_are_read n small)
    ∙ ap (λ v. cond (not (nat_lt high v)) (Some v) None) (digits_value-decimal digits_are_read n small)
    ∙ ap (λ t. cond (not t) (Some n) None) (le-ltb high n low)

pub number_decimal : (low high n : ℕ) → low ≤ n → n ≤ high → n < 2 ^ 64 → number_in low high (decimal n) ≡ Some n
unfolding number_in
number_decimal low high n above below small =
    ap (λ t. cond t (from_low low (value_in high 0 (decimal n))) None) (decimal_leads n small)
    ∙ ap (from_low low) (value_decimal high n below small)
    ∙ ap (λ t. cond t None (Some n)) (le-ltb n low above)

-- ---- atoms
abbrev pub RisesFrom : ℕ → List ℕ → Type 0
RisesFrom low [] = Unit {0}
RisesFrom low (p ∷ atoms) = (low ≤ p) × (p ≤ 65535) × RisesFrom (p + 1) atoms

rises : (low : ℕ) (atoms : List ℕ) → AreAtoms 65536 atoms → (0 < length atoms → low ≤ get_or atoms 0 0) → RisesFrom low atoms
rises low [] are first = tt
rises low (p ∷ atoms) are first =
    let small : p < 65536 = All-head (λ q. q < 65536) p atoms are.below in (
      first (omega arith),
      omega (arith, small),
      rises (p + 1) atoms
          (record {
            below = All-tail (λ q. q < 65536) p atoms are.below;
            rising = λ k within.
                subst (λ i. get_or atoms k 0 < get_or (p ∷ atoms) i 0) (let e : suc k + 1 ≡ suc (k + 1) = omega arith in e) (are.rising (suc k) (omega (arith, within)));
          })
          (λ some. let next : p < get_or atoms 0 0 = are.rising 0 (omega (arith, some)) in omega (arith, next)),
    )

atoms_decimal : (low : ℕ) (atoms : List ℕ) → RisesFrom low atoms → atoms_from low (map decimal atoms) ≡ Some atoms
atoms_decimal low [] rise = refl
atoms_decimal low (p ∷ atoms) rise =
    ap (λ o. put_first o (atoms_from (after_number o) (map decimal atoms))) (number_decimal low 65535 p rise.0 rise.1 (omega (arith, rise.1)))
    ∙ ap (put_first (Some p)) (atoms_decimal (p + 1) atoms rise.2)

pieces_spaced : (front : List ℕ) (numbers : List ℕ) → IsFree 32 front → All (λ n. n < 65536) numbers → pieces 32 (front ++ spaced numbers) ≡ front ∷ map decimal numbers
pieces_spaced front [] free small = ap (pieces 32) (append-nil front) ∙ one_piece 32 front (λ j below. free j 0 below)
pieces_spaced front (n ∷ numbers) free small =
    let first : n < 65536 = All-head (λ m. m < 65536) n numbers small in
    pieces_line 32 front (decimal n ++ spaced numbers) free
    ∙ ap (λ ps. front ∷ ps) (pieces_spaced (decimal n) numbers (decimal_free 32 n (omega arith) (omega (arith, first))) (All-tail (λ m. m < 65536) n numbers small))

state_word : IsFree 32 (codes "state")
state_word = free_by 32 (codes "state") refl

states_word : IsFree 32 (codes "states")
states_word = free_by 32 (codes "states") refl

pub state_read : (atoms : List ℕ) → AreAtoms 65536 atoms → state_in (state_line atoms) ≡ Some atoms
unfolding state_line
state_read atoms are =
    ap state_by (pieces_spaced (codes "state") atoms state_word are.below)
    ∙ atoms_decimal 0 atoms (rises 0 atoms are (λ some. omega arith))

pub count_read : (count : ℕ) → count ≤ 100000000 → count_in (header_line count) ≡ Some count
unfolding header_line
count_read count few =
    ap count_by (pieces_line 32 (codes "states") (decimal count) states_word
    ∙ ap (λ ps. codes "states" ∷ ps) (one_piece 32 (decimal count) (λ j below. decimal_free 32 count (omega arith) (omega (arith, few)) j 0 below)))
    ∙ number_decimal 0 100000000 count (omega arith) few (omega (arith, few))

-- ---- lines
not_state : (atoms : List ℕ) → is_comment (state_line atoms) ≡ false
unfolding state_line
not_state atoms = refl

not_header : (count : ℕ) → is_comment (header_line count) ≡ false
unfolding header_line
not_header count = refl

last_line : (lines : List (List ℕ)) → HasFirst (lines ++ [] ∷ [])
last_line [] = record { first = []; rest = []; is = refl }
last_line (l ∷ lines) = record { first = l; rest = lines ++ [] ∷ []; is = refl }

pub keeps_no : (l : List ℕ) (lines : List (List ℕ)) → is_comment l ≡ true →
    filter (λ (l : List ℕ). not (is_comment l)) (l ∷ lines) ≡ filter (λ (l : List ℕ). not (is_comment l)) lines
keeps_no l lines is = ap (λ t. cond (not t) (l ∷ filter (λ (l : List ℕ). not (is_comment l)) lines) (filter (λ (l : List ℕ). not (is_comment l)) lines)) is

pub keeps_one : (l : List ℕ) (lines : List (List ℕ)) → is_comment l ≡ false →
    filter (λ (l : List ℕ). not (is_comment l)) (l ∷ lines) ≡ l ∷ filter (λ (l : List ℕ). not (is_comment l)) lines
keeps_one l lines is = ap (λ t. cond (not t) (l ∷ filter (λ (l : List ℕ). not (is_comment l)) lines) (filter (λ (l : List ℕ). not (is_comment l)) lines)) is

lines_read : (number left : ℕ) (lines cert : List (List ℕ)) → filter (λ (l : List ℕ). not (is_comment l)) lines ≡ map state_line cert →
    length cert ≡ left → All (AreAtoms 65536) cert → states_from number left (lines ++ [] ∷ []) ≡ Ok cert
lines_read number left [] [] are len fits = ap (λ n. states_from number n ([] ∷ [])) (sym len)
lines_read number left [] (atoms ∷ cert) are len fits = absurd (cc)
lines_read number left (l ∷ lines) cert are len fits = ⊎_elim
    (λ (comment : is_comment l ≡ true).
    states_some number l (lines ++ [] ∷ []) (last_line lines) left []
    (ap (λ t. cond t (Some []) (cond (left == 0) None (one_state (state_in l)))) comment)
    ∙ ap (with_states []) (lines_read (number + 1) (left - 0) lines cert (sym (keeps_no l lines comment) ∙ are) (len ∙ (let e : left ≡ left - 0 = omega arith in e)) fits))
    (λ (other : is_comment l ≡ false).
    by cert (sym (keeps_one l lines other) ∙ are) len fits other (λ rest. lines_read (number + 1) (left - 1) lines rest))
    (cases_Bool (is_comment l)) where
      by : (cert : List (List ℕ)) → l ∷ filter (λ (l : List ℕ). not (is_comment l)) lines ≡ map state_line cert → length cert ≡ left →
          All (AreAtoms 65536) cert → is_comment l ≡ false →
          ((rest : List (List ℕ)) → filter (λ (l : List ℕ). not (is_comment l)) lines ≡ map state_line rest → length rest ≡ left - 1 →
          All (AreAtoms 65536) rest → states_from (number + 1) (left - 1) (lines ++ [] ∷ []) ≡ Ok rest) →
          states_from number left ((l ∷ lines) ++ [] ∷ []) ≡ Ok cert
      by [] are len fits other more = absurd (cc)
      by (atoms ∷ cert) are len fits other more =
          let first : l ≡ state_line atoms = cc in
          let rest : filter (λ (l : List ℕ). not (is_comment l)) lines ≡ map state_line cert = cc in
          let some : (left == 0) ≡ false = ne_eqb left 0 (λ (none : left ≡ 0). omega (arith, len)) in
          states_some number l (lines ++ [] ∷ []) (last_line lines) left (atoms ∷ [])
          (ap (λ t. cond t (Some []) (cond (left == 0) None (one_state (state_in l)))) other
          ∙ ap (λ t. cond t None (one_state (state_in l))) some
          ∙ ap (λ k. one_state (state_in k)) first
          ∙ ap one_state (state_read atoms (All-head (AreAtoms 65536) atoms cert fits)))
          ∙ ap (with_states (atoms ∷ [])) (more cert rest (omega (arith, len)) (All-tail (AreAtoms 65536) atoms cert fits))

all_read : (number : ℕ) (lines cert : List (List ℕ)) → filter (λ (l : List ℕ). not (is_comment l)) lines ≡ lines_of cert →
    AreStates cert → header_from number (lines ++ [] ∷ []) ≡ Ok cert
all_read number [] cert are fits = absurd (cc)
all_read number (l ∷ lines) cert are fits = ⊎_elim
    (λ (comment : is_comment l ≡ true).
    header_comment number l (lines ++ [] ∷ []) (last_line lines) comment
    ∙ all_read (number + 1) lines cert (sym (keeps_no l lines comment) ∙ are) fits)
    (λ (other : is_comment l ≡ false).
    let both : l ∷ filter (λ (l : List ℕ). not (is_comment l)) lines ≡ lines_of cert = sym (keeps_one l lines other) ∙ are in
    let first : l ≡ header_line (length cert) = cc in
    let rest : filter (λ (l : List ℕ). not (is_comment l)) lines ≡ map state_line cert = cc in
    header_some number l (lines ++ [] ∷ []) (last_line lines) (length cert) other (ap count_in first ∙ count_read (length cert) fits.few)
    ∙ lines_read (number + 1) (length cert) lines cert rest refl fits.each)
    (cases_Bool (is_comment l))

pub text_read : (cert : List (List ℕ)) (text : List ℕ) → IsTextOf cert text → cert_of text ≡ Ok cert
unfolding cert_of
text_read cert text of =
    ap (λ t. header_from 1 (pieces 10 t)) of.whole ∙ ap (header_from 1) (pieces_lines of.lines of.each) ∙ all_read 1 of.lines cert of.states of.fits

-- ---- the text that is written
spaced_free : (mark : ℕ) (numbers : List ℕ) → mark < 48 → (32 == mark) ≡ false → All (λ n. n < 65536) numbers → IsFree mark (spaced numbers)
spaced_free mark [] low other small = λ k d within. absurd (omega arith)
spaced_free mark (n ∷ numbers) low other small =
    let first : n < 65536 = All-head (λ m. m < 65536) n numbers small in
    All-append (λ (b : ℕ). (b == mark) ≡ false) (32 ∷ decimal n) (spaced numbers)
    (All-cons (λ (b : ℕ). (b == mark) ≡ false) 32 (decimal n) other (decimal_free mark n low (omega (arith, first))))
    (spaced_free mark numbers low other (All-tail (λ m. m < 65536) n numbers small))

state_is_line : (atoms : List ℕ) → AreAtoms 65536 atoms → IsLine (state_line atoms)
unfolding state_line
state_is_line atoms are =
    All-append (λ (b : ℕ). (b == 10) ≡ false) (codes "state") (spaced atoms) (free_by 10 (codes "state") refl)
    (spaced_free 10 atoms (omega arith) refl are.below)

header_is_line : (count : ℕ) → count ≤ 100000000 → IsLine (header_line count)
unfolding header_line
header_is_line count few =
    All-append (λ (b : ℕ). (b == 10) ≡ false) (codes "states ") (decimal count) (free_by 10 (codes "states ") refl)
    (decimal_free 10 count (omega arith) (omega (arith, few)))

states_are_lines : (cert : List (List ℕ)) → All (AreAtoms 65536) cert → All IsLine (map state_line cert)
states_are_lines [] fits = λ k d within. absurd (omega arith)
states_are_lines (atoms ∷ cert) fits =
    All-cons IsLine (state_line atoms) (map state_line cert) (state_is_line atoms (All-head (AreAtoms 65536) atoms cert fits))
    (states_are_lines cert (All-tail (AreAtoms 65536) atoms cert fits))

states_kept : (cert : List (List ℕ)) → filter (λ (l : List ℕ). not (is_comment l)) (map state_line cert) ≡ map state_line cert
states_kept [] = refl
states_kept (atoms ∷ cert) = keeps_one (state_line atoms) (map state_line cert) (not_state atoms) ∙ ap (λ ls. state_line atoms ∷ ls) (states_kept cert)

states_glued : (cert : List (List ℕ)) → states_text cert ≡ flat_map line (map state_line cert)
states_glued [] = refl
states_glued (atoms ∷ cert) = ap (λ t. line (state_line atoms) ++ t) (states_glued cert)

pub text_is_of : (cert : List (List ℕ)) → AreStates cert → IsTextOf cert (text_of cert)
text_is_of cert fits = record {
  lines = lines_of cert;
  whole = ap (λ t. line (header_line (length cert)) ++ t) (states_glued cert);
  each = All-cons IsLine (header_line (length cert)) (map state_line cert) (header_is_line (length cert) fits.few) (states_are_lines cert fits.each);
  states =
      keeps_one (header_line (length cert)) (map state_line cert) (not_header (length cert))
      ∙ ap (λ ls. header_line (length cert) ∷ ls) (states_kept cert);
  fits = fits;
}

-- comments in front of it are passed over
passed_over : (comments rest : List (List ℕ)) → All (λ (l : List ℕ). is_comment l ≡ true) comments
    → filter (λ (l : List ℕ). not (is_comment l)) (comments ++ rest) ≡ filter (λ (l : List ℕ). not (is_comment l)) rest
passed_over [] rest all = refl
passed_over (l ∷ comments) rest all =
    keeps_no l (comments ++ rest) (All-head (λ (one : List ℕ). is_comment one ≡ true) l comments all)
    ∙ passed_over comments rest (All-tail (λ (one : List ℕ). is_comment one ≡ true) l comments all)

pub commented_is_of : (comments cert : List (List ℕ)) → All IsLine comments → All (λ (l : List ℕ). is_comment l ≡ true) comments → AreStates cert
    → IsTextOf cert (flat_map line comments ++ text_of cert)
commented_is_of comments cert are_lines all fits =
    let own = text_is_of cert fits in record {
      lines = comments ++ own.lines;
      whole = ap (λ t. flat_map line comments ++ t) own.whole ∙ sym (flat_map-append line comments own.lines);
      each = All-append IsLine comments own.lines are_lines own.each;
      states = passed_over comments own.lines all ∙ own.states;
      fits = fits;
    }
