-- A list that is written out, from the left: at its bytes no fault is met, and its items are those of its tree.
use Rattle.std.proofs.Common.{◌≡◌, ℕ, zero, suc, ◌+◌, ◌-◌, ◌<◌, Bool, true, false, cond, not, ◌&&◌, ◌||◌, eqb, List, [], ◌∷◌, ◌++◌, length, None, Some, refl, sym, ap, ◌∙◌, arith, inl, inr, ne_eqb, append_assoc, length-append}
use Rattle.std.specs.List.{list_all}
use Rattle.std.proofs.lemmas.Bool.{cases_eq, cases_lt, and_parts, agree_below_at, eq-eqb}
use Rattle.std.proofs.lemmas.Bool.Decides.{nat_tests}
use Rattle.wp_lex.specs.declared.item.Item.{Item}
use Rattle.wp_lex.specs.declared.item.Item.TheVariants.{Word, Open, Close}
use Rattle.wp_lex.specs.declared.error.LexError.{LexError}
use Rattle.wp_lex.specs.declared.error.LexError.TheVariants.{TooDeep, Trailing, Unclosed, Empty}
use Rattle.wp_lex.specs.declared.place.Source.TheVariants.{Pddl}
use Rattle.wp_lex.specs.declared.place.Class.{Class}
use Rattle.wp_lex.specs.declared.place.Class.TheVariants.{Letter, Opens, Closes, Blank, Bad}
use Rattle.wp_lex.specs.declared.place.Place.{Place}
use Rattle.wp_lex.specs.Words.{class_of, is_letter, is_separator, is_word_byte, word_of, IsWord}
use Rattle.wp_lex.specs.Places.{place_behind}
use Rattle.wp_lex.specs.Faults.{outside_fault}
use Rattle.wp_lex.specs.Trees.{End, Then, trees_of}
use Rattle.wp_lex.specs.Lists.{spelled, spelled_tree}
use Rattle.wp_lex.specs.Written.{Form, Alone, Listed, Forms, NoMore, Behind, form_text, forms_text, tree_at, trees_at, IsForm, AreForms, WrittenListsAreRead}
use Rattle.wp_lex.proofs.Pass.{Pass, pass, goes_on, or_later, passed_byte, texts_are_passed}
use Rattle.wp_lex.proofs.Spelling.{lists_are_read}
use Rattle.wp_lex.proofs.WordBytes.{word_byte-class, word_of-ended}

-- a place in so many open lists, behind so many that were closed
abbrev stand : ℕ → Bool → ℕ → ℕ → Place
stand at continues depth closed = record { at = at; continues = continues; opened = closed + depth; closed = closed }

-- no fault, and these items in front of what follows
abbrev in_front : (List Item → List Item) → Pass → Pass
in_front front later = record { fault = later.fault; items = front later.items }

-- ---- words
is_inside : (depth closed : ℕ) → eqb (closed + suc depth - closed) 0 ≡ false
is_inside depth closed = ne_eqb (closed + suc depth - closed) 0 (λ e. omega arith)

letter-not_semicolon : (byte : ℕ) → class_of byte ≡ Letter → eqb byte 59 ≡ false
letter-not_semicolon byte letter =
    elim (cases_eq byte 59) [ inl e ↦ let same = ap class_of e in cc | inr ne ↦ ne_eqb byte 59 ne ]

both_false : (a b : Bool) → b ≡ false → (a && b) ≡ false
both_false true b e = e
both_false false b e = refl

uncommented : (byte : ℕ) → eqb byte 59 ≡ false → goes_on false byte ≡ false
uncommented byte none = both_false (not (eqb byte 10)) (eqb byte 59) none

behind_letter : (at depth closed : ℕ) (continues : Bool) → place_behind Letter (stand at continues depth closed) ≡ stand (at + 1) true depth closed
behind_letter at depth closed continues =
    let opened : (closed + depth) + 0 ≡ closed + depth = omega arith in
    let same : closed + 0 ≡ closed = omega arith in
    λ j. record { at = at + 1; continues = true; opened = opened j; closed = same j }

-- a letter that goes on with a word
next_letter : (byte : ℕ) (rest : List ℕ) (at depth closed : ℕ) → is_word_byte byte ≡ true
    → pass Pddl false (stand at true depth closed) (byte ∷ rest) ≡ pass Pddl false (stand (at + 1) true depth closed) rest
next_letter byte rest at depth closed word =
    let letter = word_byte-class byte word in
    passed_byte Pddl false false Letter (stand at true depth closed) (stand (at + 1) true depth closed) byte rest
    (uncommented byte (letter-not_semicolon byte letter)) letter (behind_letter at depth closed true)

letters_passed : (word rest : List ℕ) (at depth closed : ℕ) → list_all is_word_byte word ≡ true
    → pass Pddl false (stand at true depth closed) (word ++ rest) ≡ pass Pddl false (stand (at + length word) true depth closed) rest
letters_passed [] rest at depth closed all =
    let same : at ≡ at + 0 = omega arith in ap (λ i. pass Pddl false (stand i true depth closed) rest) same
letters_passed (byte ∷ word) rest at depth closed all =
    let parts = and_parts (is_word_byte byte) (list_all is_word_byte word) all in
    let same : at + 1 + length word ≡ at + length (byte ∷ word) = omega arith in
    next_letter byte (word ++ rest) at depth closed parts.0
    ∙ letters_passed word rest (at + 1) depth closed parts.1
    ∙ ap (λ i. pass Pddl false (stand i true depth closed) rest) same

-- what begins with no letter
abbrev Ends : List ℕ → Type 0
Ends text = (byte : ℕ) × (rest : List ℕ) × (text ≡ byte ∷ rest) × (is_letter (class_of byte) ≡ false)

-- of the first letter of a word in a list
word_first : (out : Bool) (fault : LexError) (text read : List ℕ) (at : ℕ) (later : Pass) → out ≡ false → read ≡ text
    → (let first : Pass = record {
      fault = or_later (cond (out && true) (Some fault) None) later.fault;
      items = Word read at ∷ later.items;
    } in first)
    ≡ in_front (λ items. Word text at ∷ items) later
word_first out fault text read at later is same =
    λ j. record {
      fault = or_later (cond (is j && true) (Some fault) None) later.fault;
      items = Word (same j) at ∷ later.items;
    }

word_passed : (word rest : List ℕ) (at depth closed : ℕ) → IsWord word → Ends rest
    → pass Pddl false (stand at false (suc depth) closed) (word ++ rest)
    ≡ in_front (λ items. Word word at ∷ items) (pass Pddl false (stand (at + length word) true (suc depth) closed) rest)
word_passed [] rest at depth closed word ends = absurd (omega (arith, word.some))
word_passed (byte ∷ word) rest at depth closed is (next, after, e, ends) =
    let parts = and_parts (is_word_byte byte) (list_all is_word_byte word) is.letters in
    let letter = word_byte-class byte parts.0 in
    let read : word_of (byte ∷ word ++ rest) ≡ byte ∷ word =
    ap (λ (rest : List ℕ). word_of (byte ∷ word ++ rest)) e ∙ word_of-ended (byte ∷ word) next after is.letters ends in
    let same : at + 1 + length word ≡ at + length (byte ∷ word) = omega arith in
    let put : Pass → Pass = in_front (λ items. Word (byte ∷ word) at ∷ items) in
    passed_byte Pddl false false Letter (stand at false (suc depth) closed) (stand (at + 1) true (suc depth) closed) byte (word ++ rest)
    (uncommented byte (letter-not_semicolon byte letter)) letter (behind_letter at (suc depth) closed false)
    ∙ word_first (eqb (closed + suc depth - closed) 0) (outside_fault Pddl (stand at false (suc depth) closed)) (byte ∷ word)
    (word_of (byte ∷ word ++ rest)) at (pass Pddl false (stand (at + 1) true (suc depth) closed) (word ++ rest)) (is_inside depth closed) read
    ∙ ap put (letters_passed word rest (at + 1) (suc depth) closed parts.1)
    ∙ ap (λ i. put (pass Pddl false (stand i true (suc depth) closed) rest)) same

-- ---- separators and brackets
abbrev is_blank : Class → Bool
is_blank Blank = true
is_blank class = false

blank_class : (class : Class) → is_blank class ≡ true → class ≡ Blank
blank_class Blank h = refl
blank_class Letter h = cc
blank_class Opens h = cc
blank_class Closes h = cc
blank_class Bad h = cc

-- tests of one byte, for the bytes below 128
abbrev parts_words : ℕ → Bool
parts_words byte = not (is_separator byte) || (is_blank (class_of byte) && not (eqb byte 59))

or_not : (a b : Bool) → (not a || b) ≡ true → a ≡ true → b ≡ true
or_not true b e h = e
or_not false b e h = cc

separator-low : (byte : ℕ) → is_separator byte ≡ true → byte < 128
separator-low byte h =
    elim (cases_lt byte 128) [ inl lt ↦ lt | inr ge ↦ let none : is_separator byte ≡ false = grind (arith, nat_tests) in cc ]

not_true : (b : Bool) → not b ≡ true → b ≡ false
not_true true e = cc
not_true false e = refl

separator : (byte : ℕ) → is_separator byte ≡ true → (class_of byte ≡ Blank) × (eqb byte 59 ≡ false)
separator byte h =
    let both = or_not (is_separator byte) (is_blank (class_of byte) && not (eqb byte 59))
    (agree_below_at parts_words (λ b. true) 128 byte refl (separator-low byte h)) h in
    let parts = and_parts (is_blank (class_of byte)) (not (eqb byte 59)) both in
    (blank_class (class_of byte) parts.0, not_true (eqb byte 59) parts.1)

blank_passed : (byte at depth closed : ℕ) (continues : Bool) (rest : List ℕ) → is_separator byte ≡ true
    → pass Pddl false (stand at continues depth closed) (byte ∷ rest) ≡ pass Pddl false (stand (at + 1) false depth closed) rest
blank_passed byte at depth closed continues rest parts =
    let is = separator byte parts in
    let opened : (closed + depth) + 0 ≡ closed + depth = omega arith in
    let same : closed + 0 ≡ closed = omega arith in
    passed_byte Pddl false false Blank (stand at continues depth closed) (stand (at + 1) false depth closed) byte rest
    (uncommented byte is.1) is.0
    (λ j. record { at = at + 1; continues = false; opened = opened j; closed = same j })

bracket_closed : (at depth closed : ℕ) (continues : Bool) (rest : List ℕ)
    → pass Pddl false (stand at continues (suc depth) closed) (41 ∷ rest)
    ≡ in_front (λ items. Close ∷ items) (pass Pddl false (stand (at + 1) false depth (closed + 1)) rest)
bracket_closed at depth closed continues rest =
    let opened : (closed + suc depth) + 0 ≡ (closed + 1) + depth = omega arith in
    let later = pass Pddl false (stand (at + 1) false depth (closed + 1)) rest in
    passed_byte Pddl false false Closes (stand at continues (suc depth) closed) (stand (at + 1) false depth (closed + 1)) 41 rest refl refl
    (λ j. record { at = at + 1; continues = false; opened = opened j; closed = closed + 1 })
    ∙ (λ j. record {
      fault = or_later (cond (is_inside depth closed j) (Some (outside_fault Pddl (stand at continues (suc depth) closed))) None) later.fault;
      items = Close ∷ later.items;
    })

-- one more list may be opened in a list
bracket_opened : (at depth closed : ℕ) (continues : Bool) (rest : List ℕ) → suc depth < 64
    → pass Pddl false (stand at continues (suc depth) closed) (40 ∷ rest)
    ≡ in_front (λ items. Open at ∷ items) (pass Pddl false (stand (at + 1) false (suc (suc depth)) closed) rest)
bracket_opened at depth closed continues rest few =
    let opened : (closed + suc depth) + 1 ≡ closed + suc (suc depth) = omega arith in
    let same : closed + 0 ≡ closed = omega arith in
    let shallow : eqb (closed + suc depth - closed) 64 ≡ false = ne_eqb (closed + suc depth - closed) 64 (λ e. omega arith) in
    let later = pass Pddl false (stand (at + 1) false (suc (suc depth)) closed) rest in
    passed_byte Pddl false false Opens (stand at continues (suc depth) closed) (stand (at + 1) false (suc (suc depth)) closed) 40 rest refl refl
    (λ j. record { at = at + 1; continues = false; opened = opened j; closed = same j })
    ∙ (λ j. record {
      fault = or_later (cond (is_inside depth closed j && not (eqb (closed + suc depth) 0)) (Some (Trailing at))
          (cond (eqb (closed + suc depth - closed) 64) (Some (TooDeep at)) None)) later.fault;
      items = Open at ∷ later.items;
    })
    ∙ (λ j. record { fault = or_later (cond (shallow j) (Some (TooDeep at)) None) later.fault; items = Open at ∷ later.items })

-- ---- what is written
-- the items of what is written come, and then what follows it
pub record Passed (place : Place) (text rest : List ℕ) (items : List Item → List Item) (at depth : ℕ) : Type 0 where
  pub continues : Bool
  pub closed : ℕ
  pub passed : pass Pddl false place (text ++ rest) ≡ in_front items (pass Pddl false (stand at continues depth closed) rest)

forms_end : (forms : Forms) (depth : ℕ) (rest : List ℕ) → AreForms depth forms → Ends rest → Ends (forms_text forms ++ rest)
forms_end NoMore depth rest are ends = ends
forms_end (Behind byte form more) depth rest (parts, is, are) ends =
    (byte, (form_text form ++ forms_text more) ++ rest, refl, ap is_letter (separator byte parts).0)

mutual
  form_passed : (form : Form) (more : ℕ) (rest : List ℕ) (at depth closed : ℕ) → IsForm more form → suc depth + more ≡ 64 → Ends rest
      → Passed (stand at false (suc depth) closed) (form_text form) rest (spelled_tree (tree_at form at)) (at + length (form_text form)) (suc depth)
  form_passed (Alone word) more rest at depth closed is few ends = record {
    continues = true;
    closed = closed;
    passed = word_passed word rest at depth closed is ends;
  }
  form_passed (Listed first forms) zero rest at depth closed is few ends = absurd is
  form_passed (Listed first forms) (suc more) rest at depth closed (is, are) few ends =
      let behind : List ℕ = forms_text forms ++ 41 ∷ rest in
      let read = forms_passed forms more (41 ∷ rest) (at + 1 + length first) (suc depth) closed true are (omega arith) (41, rest, refl, refl) in
      let put : Pass → Pass = in_front (λ items. Open at ∷ Word first (at + 1) ∷ items) in
      let long : (at + 1 + length first + length (forms_text forms)) + 1 ≡ at + length (form_text (Listed first forms)) =
      omega (arith, length-append first (forms_text forms ++ 41 ∷ []), length-append (forms_text forms) (41 ∷ [])) in record {
        continues = false;
        closed = read.closed + 1;
        passed =
            ap (λ (text : List ℕ). pass Pddl false (stand at false (suc depth) closed) (40 ∷ text))
            (append_assoc first (forms_text forms ++ 41 ∷ []) rest
            ∙ ap (λ (text : List ℕ). first ++ text) (append_assoc (forms_text forms) (41 ∷ []) rest))
            ∙ bracket_opened at depth closed false (first ++ behind) (omega arith)
            ∙ ap (in_front (λ items. Open at ∷ items))
            (word_passed first behind (at + 1) (suc depth) closed is (forms_end forms more (41 ∷ rest) are (41, rest, refl, refl)))
            ∙ ap put read.passed
            ∙ ap (λ later. put (in_front (spelled (trees_at forms (at + 1 + length first))) later))
            (bracket_closed (at + 1 + length first + length (forms_text forms)) (suc depth) read.closed read.continues rest
            ∙ ap (λ i. in_front (λ items. Close ∷ items) (pass Pddl false (stand i false (suc depth) (read.closed + 1)) rest)) long);
      }

  forms_passed : (forms : Forms) (more : ℕ) (rest : List ℕ) (at depth closed : ℕ) (continues : Bool) → AreForms more forms
      → suc depth + more ≡ 64 → Ends rest
      → Passed (stand at continues (suc depth) closed) (forms_text forms) rest (spelled (trees_at forms at)) (at + length (forms_text forms)) (suc depth)
  forms_passed NoMore more rest at depth closed continues are few ends = record {
    continues = continues;
    closed = closed;
    passed = let same : at ≡ at + 0 = omega arith in ap (λ i. pass Pddl false (stand i continues (suc depth) closed) rest) same;
  }
  forms_passed (Behind byte form forms) more rest at depth closed continues (parts, is, are) few ends =
      let behind : List ℕ = forms_text forms ++ rest in
      let first = form_passed form more behind (at + 1) depth closed is few (forms_end forms more rest are ends) in
      let read = forms_passed forms more rest (at + 1 + length (form_text form)) depth first.closed first.continues are few ends in
      let long : at + 1 + length (form_text form) + length (forms_text forms) ≡ at + length (forms_text (Behind byte form forms)) =
      omega (arith, length-append (form_text form) (forms_text forms)) in record {
        continues = read.continues;
        closed = read.closed;
        passed =
            ap (λ (text : List ℕ). pass Pddl false (stand at continues (suc depth) closed) (byte ∷ text))
            (append_assoc (form_text form) (forms_text forms) rest)
            ∙ blank_passed byte at (suc depth) closed continues (form_text form ++ behind) parts
            ∙ first.passed
            ∙ ap (in_front (spelled_tree (tree_at form (at + 1)))) read.passed
            ∙ ap (λ i. in_front (spelled_tree (tree_at form (at + 1)))
            (in_front (spelled (trees_at forms (at + 1 + length (form_text form)))) (pass Pddl false (stand i read.continues (suc depth) read.closed) rest))) long;
      }

-- ---- a whole line
opened_first : (rest : List ℕ) → pass Pddl false (stand 0 false 0 0) (40 ∷ rest) ≡ in_front (λ items. Open 0 ∷ items) (pass Pddl false (stand 1 false 1 0) rest)
opened_first rest = passed_byte Pddl false false Opens (stand 0 false 0 0) (stand 1 false 1 0) 40 rest refl refl refl

-- behind a list that was closed, and its line's end
line_ended : (at closed : ℕ) → pass Pddl false (stand at false 0 (closed + 1)) (10 ∷ []) ≡ record { fault = None; items = [] }
line_ended at closed =
    let none_open : eqb (closed + 1 + 0 - (closed + 1)) 0 ≡ true = eq-eqb (closed + 1 + 0 - (closed + 1)) 0 (omega arith) in
    let some : eqb (closed + 1 + 0) 0 ≡ false = ne_eqb (closed + 1 + 0) 0 (λ e. omega arith) in
    blank_passed 10 at 0 (closed + 1) false [] refl
    ∙ (λ j. record { fault = cond (not (none_open j)) (Some Unclosed) (cond (eqb (closed + 1 + 0) 0) (Some Empty) None); items = [] })
    ∙ (λ j. record { fault = cond (some j) (Some Empty) None; items = [] })

line_text : (first : List ℕ) (rest : Forms)
    → form_text (Listed first rest) ++ 10 ∷ [] ≡ 40 ∷ (first ++ (forms_text rest ++ 41 ∷ 10 ∷ []))
line_text first rest = simp append_assoc

line_passed : (first : List ℕ) (rest : Forms) → IsForm 64 (Listed first rest)
    → pass Pddl false (stand 0 false 0 0) (form_text (Listed first rest) ++ 10 ∷ [])
    ≡ record { fault = None; items = spelled (Then (tree_at (Listed first rest) 0) End) [] }
line_passed first rest (is, are) =
    let behind : List ℕ = forms_text rest ++ 41 ∷ 10 ∷ [] in
    let read = forms_passed rest 63 (41 ∷ 10 ∷ []) (1 + length first) 0 0 true are refl (41, 10 ∷ [], refl, refl) in
    let put : Pass → Pass = in_front (λ items. Open 0 ∷ Word first 1 ∷ items) in
    ap (pass Pddl false (stand 0 false 0 0)) (line_text first rest)
    ∙ opened_first (first ++ behind)
    ∙ ap (in_front (λ items. Open 0 ∷ items)) (word_passed first behind 1 0 0 is (forms_end rest 63 (41 ∷ 10 ∷ []) are (41, 10 ∷ [], refl, refl)))
    ∙ ap put read.passed
    ∙ ap (λ later. put (in_front (spelled (trees_at rest (1 + length first))) later))
    (bracket_closed (1 + length first + length (forms_text rest)) 0 read.closed read.continues (10 ∷ [])
    ∙ ap (in_front (λ items. Close ∷ items)) (line_ended (1 + length first + length (forms_text rest) + 1) read.closed))

pub written_lists_are_read : WrittenListsAreRead
written_lists_are_read first rest is =
    let text : List ℕ = form_text (Listed first rest) ++ 10 ∷ [] in
    let passed = sym (texts_are_passed Pddl text) ∙ line_passed first rest is in record {
      whole = ap (λ (one : Pass). one.fault) passed;
      tree = ap (λ (one : Pass). trees_of one.items) passed ∙ lists_are_read (Then (tree_at (Listed first rest) 0) End);
    }
