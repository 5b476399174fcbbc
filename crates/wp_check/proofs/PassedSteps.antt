-- The text of a step from the left: at its bytes no fault is met, and its items are those of a list of its words.
use Rattle.std.proofs.Common.{◌≡◌, ℕ, ◌+◌, ◌-◌, Bool, true, false, cond, not, ◌&&◌, ◌||◌, eqb, List, [], ◌∷◌, ◌++◌, length, None, Some, Ok, refl, ap, ◌∙◌, arith, inl, inr, ne_eqb, append_assoc}
use Rattle.std.specs.List.{flat_map, list_all, AllByRecursion, cons_option}
use Rattle.std.proofs.lemmas.Bool.{cases_eq, and_parts}
use Rattle.wp_lex.specs.declared.item.Item.{Item}
use Rattle.wp_lex.specs.declared.item.Item.TheVariants.{Word, Open, Close}
use Rattle.wp_lex.specs.declared.error.LexError.{LexError}
use Rattle.wp_lex.specs.declared.error.LexError.TheVariants.{TooDeep}
use Rattle.wp_lex.specs.declared.place.Source.TheVariants.{Plan}
use Rattle.wp_lex.specs.declared.place.Class.TheVariants.{Letter, Opens, Closes, Blank}
use Rattle.wp_lex.specs.declared.place.Place.{Place}
use Rattle.wp_lex.specs.Words.{class_of, is_letter, is_word_byte, word_of, IsWord}
use Rattle.wp_lex.specs.Labels.{is_label, is_duration}
use Rattle.wp_lex.specs.Places.{place_behind}
use Rattle.wp_lex.specs.Faults.{outside_fault}
use Rattle.wp_lex.specs.Trees.{Trees, Leaf, Branch, End, Then}
use Rattle.wp_lex.specs.Lists.{spelled}
use Rattle.wp_lex.proofs.Pass.{Pass, pass, goes_on, or_later, passed_byte}
use Rattle.wp_lex.proofs.WordBytes.{word_byte-class, word_of-ended}
use Rattle.wp_check.specs.declared.step.Step.{Step}
use Rattle.wp_check.specs.PlanFile.{with_first, words_of, step_of, step_with}
use Rattle.wp_check.specs.PlanText.{line, form_text, step_text}

-- a place behind n lists, and one in the list behind them
abbrev pub outside : ℕ → ℕ → Place
outside at n = record { at = at; continues = false; opened = n; closed = n }

abbrev inside : ℕ → Bool → ℕ → Place
inside at continues n = record { at = at; continues = continues; opened = n + 1; closed = n }

-- no fault, and these items in front of what follows
abbrev pub in_front : (List Item → List Item) → Pass → Pass
in_front front later = record { fault = later.fault; items = front later.items }

-- ---- words in a list
is_inside : (n : ℕ) → eqb (n + 1 - n) 0 ≡ false
is_inside n = ne_eqb (n + 1 - n) 0 (λ e. omega arith)

letter-not_semicolon : (byte : ℕ) → class_of byte ≡ Letter → eqb byte 59 ≡ false
letter-not_semicolon byte letter =
    elim (cases_eq byte 59) [ inl e ↦ let same = ap class_of e in cc | inr ne ↦ ne_eqb byte 59 ne ]

both_false : (a b : Bool) → b ≡ false → (a && b) ≡ false
both_false true b e = e
both_false false b e = refl

letter-uncommented : (byte : ℕ) → class_of byte ≡ Letter → goes_on false byte ≡ false
letter-uncommented byte letter = both_false (not (eqb byte 10)) (eqb byte 59) (letter-not_semicolon byte letter)

behind_letter : (at n : ℕ) (continues : Bool) → place_behind Letter (inside at continues n) ≡ inside (at + 1) true n
behind_letter at n continues =
    let opened : (n + 1) + 0 ≡ n + 1 = omega arith in
    let closed : n + 0 ≡ n = omega arith in
    λ j. record { at = at + 1; continues = true; opened = opened j; closed = closed j }

-- a letter that goes on with a word
next_letter : (byte : ℕ) (rest : List ℕ) (at n : ℕ) → is_word_byte byte ≡ true
    → pass Plan false (inside at true n) (byte ∷ rest) ≡ pass Plan false (inside (at + 1) true n) rest
next_letter byte rest at n word =
    let letter = word_byte-class byte word in
    passed_byte Plan false false Letter (inside at true n) (inside (at + 1) true n) byte rest (letter-uncommented byte letter) letter
    (behind_letter at n true)

letters_passed : (word rest : List ℕ) (at n : ℕ) → list_all is_word_byte word ≡ true
    → pass Plan false (inside at true n) (word ++ rest) ≡ pass Plan false (inside (at + length word) true n) rest
letters_passed [] rest at n all =
    let same : at ≡ at + 0 = omega arith in ap (λ i. pass Plan false (inside i true n) rest) same
letters_passed (byte ∷ word) rest at n all =
    let parts = and_parts (is_word_byte byte) (list_all is_word_byte word) all in
    let same : at + 1 + length word ≡ at + length (byte ∷ word) = omega arith in
    next_letter byte (word ++ rest) at n parts.0
    ∙ letters_passed word rest (at + 1) n parts.1
    ∙ ap (λ i. pass Plan false (inside i true n) rest) same

-- what begins with no letter
abbrev Ends : List ℕ → Type 0
Ends text = (byte : ℕ) × (rest : List ℕ) × (text ≡ byte ∷ rest) × (is_letter (class_of byte) ≡ false)

-- of the first letter of a word in a list
word_first : (out skipped : Bool) (fault : LexError) (text read : List ℕ) (at : ℕ) (later : Pass) → out ≡ false → read ≡ text
    → (let first : Pass = record {
      fault = or_later (cond (out && not (out && skipped)) (Some fault) None) later.fault;
      items = cons_option (cond (out && skipped) None (Some (Word read at))) later.items;
    } in first)
    ≡ in_front (λ items. Word text at ∷ items) later
word_first out skipped fault text read at later is same =
    λ j. record {
      fault = or_later (cond (is j && not (is j && skipped)) (Some fault) None) later.fault;
      items = cons_option (cond (is j && skipped) None (Some (Word (same j) at))) later.items;
    }

word_passed : (word rest : List ℕ) (at n : ℕ) → IsWord word → Ends rest
    → pass Plan false (inside at false n) (word ++ rest)
    ≡ in_front (λ items. Word word at ∷ items) (pass Plan false (inside (at + length word) true n) rest)
word_passed [] rest at n word ends = absurd (omega (arith, word.some))
word_passed (byte ∷ word) rest at n is (next, after, e, ends) =
    let parts = and_parts (is_word_byte byte) (list_all is_word_byte word) is.letters in
    let letter = word_byte-class byte parts.0 in
    let read : word_of (byte ∷ word ++ rest) ≡ byte ∷ word =
    ap (λ (rest : List ℕ). word_of (byte ∷ word ++ rest)) e ∙ word_of-ended (byte ∷ word) next after is.letters ends in
    let same : at + 1 + length word ≡ at + length (byte ∷ word) = omega arith in
    let put : Pass → Pass = in_front (λ items. Word (byte ∷ word) at ∷ items) in
    passed_byte Plan false false Letter (inside at false n) (inside (at + 1) true n) byte (word ++ rest) (letter-uncommented byte letter)
    letter (behind_letter at n false)
    ∙ word_first (eqb (n + 1 - n) 0) (is_label (word_of (byte ∷ word ++ rest)) || is_duration (word_of (byte ∷ word ++ rest)))
    (outside_fault Plan (inside at false n)) (byte ∷ word) (word_of (byte ∷ word ++ rest)) at
    (pass Plan false (inside (at + 1) true n) (word ++ rest)) (is_inside n) read
    ∙ ap put (letters_passed word rest (at + 1) n parts.1)
    ∙ ap (λ i. put (pass Plan false (inside i true n) rest)) same

-- ---- brackets, spaces and the line's end
blank_between : (at n : ℕ) (continues : Bool) (rest : List ℕ)
    → pass Plan false (inside at continues n) (32 ∷ rest) ≡ pass Plan false (inside (at + 1) false n) rest
blank_between at n continues rest =
    let opened : (n + 1) + 0 ≡ n + 1 = omega arith in
    let closed : n + 0 ≡ n = omega arith in
    passed_byte Plan false false Blank (inside at continues n) (inside (at + 1) false n) 32 rest refl refl
    (λ j. record { at = at + 1; continues = false; opened = opened j; closed = closed j })

line_ended : (at n : ℕ) (rest : List ℕ)
    → pass Plan false (outside at n) (10 ∷ rest) ≡ pass Plan false (outside (at + 1) n) rest
line_ended at n rest =
    let same : n + 0 ≡ n = omega arith in
    passed_byte Plan false false Blank (outside at n) (outside (at + 1) n) 10 rest refl refl
    (λ j. record { at = at + 1; continues = false; opened = same j; closed = same j })

bracket_closed : (at n : ℕ) (continues : Bool) (rest : List ℕ)
    → pass Plan false (inside at continues n) (41 ∷ rest)
    ≡ in_front (λ items. Close ∷ items) (pass Plan false (outside (at + 1) (n + 1)) rest)
bracket_closed at n continues rest =
    let opened : (n + 1) + 0 ≡ n + 1 = omega arith in
    let later = pass Plan false (outside (at + 1) (n + 1)) rest in
    passed_byte Plan false false Closes (inside at continues n) (outside (at + 1) (n + 1)) 41 rest refl refl
    (λ j. record { at = at + 1; continues = false; opened = opened j; closed = n + 1 })
    ∙ (λ j. record {
      fault = or_later (cond (is_inside n j) (Some (outside_fault Plan (inside at continues n))) None) later.fault;
      items = Close ∷ later.items;
    })

bracket_opened : (at n : ℕ) (rest : List ℕ)
    → pass Plan false (outside at n) (40 ∷ rest)
    ≡ in_front (λ items. Open at ∷ items) (pass Plan false (inside (at + 1) false n) rest)
bracket_opened at n rest =
    let closed : n + 0 ≡ n = omega arith in
    let shallow : eqb (n - n) 64 ≡ false = ne_eqb (n - n) 64 (λ e. omega arith) in
    let later = pass Plan false (inside (at + 1) false n) rest in
    passed_byte Plan false false Opens (outside at n) (inside (at + 1) false n) 40 rest refl refl
    (λ j. record { at = at + 1; continues = false; opened = n + 1; closed = closed j })
    ∙ (λ j. record {
      fault = or_later (cond (shallow j) (Some (TooDeep at)) None) later.fault;
      items = Open at ∷ later.items;
    })

-- ---- arguments, up to the line's end
abbrev args_text : List (List ℕ) → List ℕ
args_text args = flat_map (λ (arg : List ℕ). 32 ∷ arg) args

-- the items of trees of these words and a closing bracket come, and then what follows the line
pub record AreRead (args : List (List ℕ)) (place : Place) (text rest : List ℕ) (n : ℕ) : Type 0 where
  pub trees : Trees
  pub words : words_of trees ≡ Ok args
  pub at : ℕ
  pub passed : pass Plan false place text ≡ in_front (λ items. spelled trees (Close ∷ items)) (pass Plan false (outside at n) rest)

args_end : (args : List (List ℕ)) (rest : List ℕ) → Ends (args_text args ++ 41 ∷ 10 ∷ rest)
args_end [] rest = (41, 10 ∷ rest, refl, refl)
args_end (arg ∷ args) rest = (32, (arg ++ args_text args) ++ 41 ∷ 10 ∷ rest, refl, refl)

args_passed : (args : List (List ℕ)) (rest : List ℕ) (at n : ℕ) (continues : Bool) → AllByRecursion IsWord args
    → AreRead args (inside at continues n) (args_text args ++ 41 ∷ 10 ∷ rest) rest (n + 1)
args_passed [] rest at n continues words = record {
  trees = End;
  words = refl;
  at = at + 1 + 1;
  passed =
      bracket_closed at n continues (10 ∷ rest)
      ∙ ap (in_front (λ items. Close ∷ items)) (line_ended (at + 1) (n + 1) rest);
}
args_passed (arg ∷ args) rest at n continues (word, words) =
    let behind = args_text args ++ 41 ∷ 10 ∷ rest in
    let read = args_passed args rest (at + 1 + length arg) n true words in record {
      trees = Then (Leaf arg (at + 1)) read.trees;
      words = ap (with_first (Ok arg)) read.words;
      at = read.at;
      passed =
          ap (λ (text : List ℕ). pass Plan false (inside at continues n) (32 ∷ text)) (append_assoc arg (args_text args) (41 ∷ 10 ∷ rest))
          ∙ blank_between at n continues (arg ++ behind)
          ∙ word_passed arg behind (at + 1) n word (args_end args rest)
          ∙ ap (in_front (λ items. Word arg (at + 1) ∷ items)) read.passed;
    }

-- ---- a step
-- its list comes, and then what follows the line
pub record IsRead (step : Step) (at n : ℕ) (text rest : List ℕ) : Type 0 where
  pub trees : Trees
  pub is_step : step_of (Branch at trees) ≡ Ok step
  pub next : ℕ
  pub passed : pass Plan false (outside at n) text
      ≡ in_front (λ items. Open at ∷ spelled trees (Close ∷ items)) (pass Plan false (outside next (n + 1)) rest)

line_text : (name : List ℕ) (args : List (List ℕ)) (rest : List ℕ)
    → line (form_text name args) ++ rest ≡ 40 ∷ (name ++ (args_text args ++ 41 ∷ 10 ∷ rest))
line_text name args rest = simp append_assoc

pub step_passed : (step : Step) (rest : List ℕ) (at n : ℕ) → IsWord step.name → AllByRecursion IsWord step.args
    → IsRead step at n (line (step_text step) ++ rest) rest
step_passed step rest at n name args =
    let behind = args_text step.args ++ 41 ∷ 10 ∷ rest in
    let read = args_passed step.args rest (at + 1 + length step.name) n true args in record {
      trees = Then (Leaf step.name (at + 1)) read.trees;
      is_step = ap (λ words. step_with at (with_first (Ok step.name) words)) read.words;
      next = read.at;
      passed =
          ap (pass Plan false (outside at n)) (line_text step.name step.args rest)
          ∙ bracket_opened at n (step.name ++ behind)
          ∙ ap (in_front (λ items. Open at ∷ items))
          (word_passed step.name behind (at + 1) n name (args_end step.args rest)
          ∙ ap (in_front (λ items. Word step.name (at + 1) ∷ items)) read.passed);
    }
