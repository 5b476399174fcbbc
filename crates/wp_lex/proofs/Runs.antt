-- The word from a place on is a longest run of letters: no byte of a word begins a comment.
use Rattle.std.proofs.Common.{◌≡◌, ℕ, zero, suc, ◌+◌, ◌-◌, ◌≤◌, ◌<◌, Bool, true, false, cond, ◌&&◌, ◌||◌, eqb, List, length, get_or, take, drop, refl, sym, ap, subst, ◌∙◌, arith, inl, inr, length-drop}
use Rattle.std.specs.List.{prefix_len}
use Rattle.std.specs.Str.{str_to_ascii_lowercase}
use Rattle.std.proofs.lemmas.Bool.{cases_eq, ne_eqb}
use Rattle.std.proofs.lemmas.List.{get_or-drop}
use Rattle.std.proofs.lemmas.List.Sums.{prefix_len_passes, prefix_len_stops, prefix_len-le-length, prefix_len-drop_yes}
use Rattle.wp_lex.specs.declared.place.Class.TheVariants.{Blank}
use Rattle.wp_lex.specs.Words.{is_commented, class_of, class_at, is_letter, follows_letter, word_of, IsRun}
use Rattle.wp_lex.proofs.Steps.{is_commented-more}

-- a byte of a word
abbrev in_word : ℕ → Bool
in_word byte = is_letter (class_of byte)

in_word-not_semicolon : (byte : ℕ) → in_word byte ≡ true → eqb byte 59 ≡ false
in_word-not_semicolon byte letter =
    elim (cases_eq byte 59) [ inl e ↦ let same = ap in_word e in cc | inr ne ↦ ne_eqb byte 59 ne ]

letter_parts : (commented : Bool) (byte : ℕ) → is_letter (cond commented Blank (class_of byte)) ≡ true
    → (commented ≡ false) × (in_word byte ≡ true)
letter_parts true byte letter = cc
letter_parts false byte letter = (refl, letter)

letter_from : (commented : Bool) (byte : ℕ) → commented ≡ false → in_word byte ≡ true
    → is_letter (cond commented Blank (class_of byte)) ≡ true
letter_from true byte e letter = cc
letter_from false byte e letter = letter

no_letter : (commented : Bool) (byte : ℕ) → in_word byte ≡ false → is_letter (cond commented Blank (class_of byte)) ≡ false
no_letter true byte e = refl
no_letter false byte e = e

both_false : (goes before semicolon : Bool) → before ≡ false → semicolon ≡ false → (goes && (before || semicolon)) ≡ false
both_false true before semicolon e f = (λ j. e j || f j)
both_false false before semicolon e f = refl

byte_at : (text : List ℕ) (i m : ℕ) → get_or (drop i text) m 0 ≡ get_or text (i + m) 0
byte_at text i m = get_or-drop i text m 0

-- within the run
uncommented : (text : List ℕ) (i m : ℕ) → is_commented text (i + 1) ≡ false → i + m < length text
    → ((k : ℕ) → k ≤ m → in_word (get_or text (i + k) 0) ≡ true) → is_commented text (i + m + 1) ≡ false
uncommented text i zero none h letters =
    let same : i + 0 ≡ i = omega arith in ap (λ n. is_commented text (n + 1)) same ∙ none
uncommented text i (suc m) none h letters =
    let before = uncommented text i m none (omega arith) (λ k le. letters k (omega arith)) in
    let same : i + suc m ≡ i + m + 1 = omega arith in
    is_commented-more text (i + suc m) h
    ∙ both_false _ (is_commented text (i + suc m)) _ (ap (is_commented text) same ∙ before)
    (in_word-not_semicolon (get_or text (i + suc m) 0) (letters (suc m) (omega arith)))

pub words_are_runs : (text : List ℕ) (i : ℕ) → i < length text → is_letter (class_at text i) ≡ true
    → follows_letter text i ≡ false
    → (n : ℕ) × IsRun text i n × (0 < n) × (word_of (drop i text) ≡ str_to_ascii_lowercase (take n (drop i text)))
words_are_runs text i h letter begins =
    let n : ℕ = prefix_len in_word (drop i text) in
    let parts = letter_parts (is_commented text (i + 1)) (get_or text i 0) letter in
    let long : length (drop i text) ≡ length text - i = length-drop i text in
    let short : n ≤ length (drop i text) = prefix_len-le-length in_word (drop i text) in
    let some : 0 < n = omega (arith, prefix_len-drop_yes in_word text i 0 h parts.1) in
    let passes : (m : ℕ) → m < n → in_word (get_or text (i + m) 0) ≡ true =
    λ m lt. ap in_word (sym (byte_at text i m)) ∙ prefix_len_passes in_word (drop i text) m 0 lt in
    let clear : (m : ℕ) → m < n → is_commented text (i + m + 1) ≡ false =
    λ m lt. uncommented text i m parts.0 (omega arith) (λ k le. passes k (omega arith)) in
    let inside : (m : ℕ) → m < n → is_letter (class_at text (i + m)) ≡ true =
    λ m lt. letter_from (is_commented text (i + m + 1)) (get_or text (i + m) 0) (clear m lt) (passes m lt) in (
      n,
      record {
        within = omega arith;
        letters = λ k from to.
            let same : i + (k - i) ≡ k = omega arith in
            let P : ℕ → Type 0 = λ k. is_letter (class_at text k) ≡ true in
            subst P same (inside (k - i) (omega arith));
        ends = λ lt. no_letter (is_commented text (i + n + 1)) (get_or text (i + n) 0)
            (ap in_word (sym (byte_at text i n)) ∙ prefix_len_stops in_word (drop i text) 0 (omega arith));
        begins = begins;
      },
      some,
      refl,
    )
