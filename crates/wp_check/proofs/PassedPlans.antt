-- The text of a plan is read as its steps.
use Rattle.std.proofs.Common.{◌≡◌, ℕ, ◌+◌, ◌-◌, Bool, true, false, cond, not, ◌&&◌, eqb, List, [], ◌∷◌, ◌++◌, None, Some, Ok, refl, sym, ap, ◌∙◌, arith, append_assoc}
use Rattle.std.specs.Prelude.{All}
use Rattle.std.specs.List.{flat_map, list_all, AllByRecursion}
use Rattle.std.proofs.lemmas.Bool.{and_parts, eqb-true, eq-eqb}
use Rattle.std.proofs.lemmas.List.Elements.{recursion_from_All, All-head, All-tail, All-append}
use Rattle.std.proofs.lemmas.List.Concat.{flat_map-append}
use Rattle.wp_lex.specs.declared.error.LexError.TheVariants.{Unclosed}
use Rattle.wp_lex.specs.declared.item.Item.TheVariants.{Open, Close}
use Rattle.wp_lex.specs.declared.place.Source.TheVariants.{Plan}
use Rattle.wp_lex.specs.declared.place.Class.TheVariants.{Blank}
use Rattle.wp_lex.specs.declared.place.Place.{Place}
use Rattle.wp_lex.specs.Words.{IsWord}
use Rattle.wp_lex.specs.Places.{place_behind}
use Rattle.wp_lex.specs.Trees.{Trees, Branch, End, Then, trees_of}
use Rattle.wp_lex.specs.Lists.{spelled, ListsAreRead}
use Rattle.wp_lex.proofs.Pass.{Pass, pass, goes_on, passed_byte, texts_are_passed}
use Rattle.wp_check.specs.declared.step.Step.{Step}
use Rattle.wp_check.specs.PlanFile.{with_first, steps_of, plan_by, plan_of}
use Rattle.wp_check.specs.PlanText.{line, step_text, steps_text, is_comment, AreComments, IsOfWords}
use Rattle.wp_check.proofs.PassedSteps.{outside, in_front, step_passed}

-- ---- comments
abbrev nothing : Pass
nothing = record { fault = None; items = [] }

behind_blank : (at n : ℕ) → place_behind Blank (outside at n) ≡ outside (at + 1) n
behind_blank at n =
    let same : n + 0 ≡ n = omega arith in
    λ j. record { at = at + 1; continues = false; opened = same j; closed = same j }

and_true : (b : Bool) → (b && true) ≡ b
and_true true = refl
and_true false = refl

-- the rest of a comment, up to the line's end
comment_rest : (bytes rest : List ℕ) (at n : ℕ) → list_all (λ (byte : ℕ). not (eqb byte 10)) bytes ≡ true
    → ((at : ℕ) → pass Plan false (outside at n) rest ≡ nothing)
    → pass Plan true (outside at n) (bytes ++ 10 ∷ rest) ≡ nothing
comment_rest [] rest at n one later =
    passed_byte Plan true false Blank (outside at n) (outside (at + 1) n) 10 rest refl refl (behind_blank at n) ∙ later (at + 1)
comment_rest (byte ∷ bytes) rest at n one later =
    let parts = and_parts (not (eqb byte 10)) (list_all (λ (byte : ℕ). not (eqb byte 10)) bytes) one in
    let goes : goes_on true byte ≡ true = and_true (not (eqb byte 10)) ∙ parts.0 in
    passed_byte Plan true true Blank (outside at n) (outside (at + 1) n) byte (bytes ++ 10 ∷ rest) goes refl (behind_blank at n)
    ∙ comment_rest bytes rest (at + 1) n parts.1 later

comment_passed : (text rest : List ℕ) (at n : ℕ) → is_comment text ≡ true
    → ((at : ℕ) → pass Plan false (outside at n) rest ≡ nothing)
    → pass Plan false (outside at n) (text ++ 10 ∷ rest) ≡ nothing
comment_passed [] rest at n is later = cc
comment_passed (byte ∷ bytes) rest at n is later =
    let parts = and_parts (eqb byte 59) (list_all (λ (byte : ℕ). not (eqb byte 10)) bytes) is in
    let begins : byte ≡ 59 = eqb-true byte 59 parts.0 in
    passed_byte Plan false true Blank (outside at n) (outside (at + 1) n) byte (bytes ++ 10 ∷ rest) (ap (goes_on false) begins) refl
    (behind_blank at n)
    ∙ comment_rest bytes rest (at + 1) n parts.1 later

comments_passed : (lines : List (List ℕ)) (at n : ℕ) → AllByRecursion (λ (text : List ℕ). is_comment text ≡ true) lines
    → pass Plan false (outside at n) (flat_map line lines) ≡ nothing
comments_passed [] at n all =
    let none_open : eqb (n - n) 0 ≡ true = eq-eqb (n - n) 0 (omega arith) in
    λ j. record { fault = cond (not (none_open j)) (Some Unclosed) None; items = [] }
comments_passed (text ∷ lines) at n (is, all) =
    ap (pass Plan false (outside at n)) (append_assoc text (10 ∷ []) (flat_map line lines))
    ∙ comment_passed text (flat_map line lines) at n is (λ at. comments_passed lines at n all)

-- ---- steps
record AreRead (steps : List Step) (place : Place) (text : List ℕ) : Type 0 where
  trees : Trees
  are_steps : steps_of trees ≡ Ok steps
  passed : pass Plan false place text ≡ record { fault = None; items = spelled trees [] }

steps_passed : (steps : List Step) (comments : List ℕ) (at n : ℕ) → All IsOfWords steps
    → ((at n : ℕ) → pass Plan false (outside at n) comments ≡ nothing)
    → AreRead steps (outside at n) (steps_text steps ++ comments)
steps_passed [] comments at n words later = record { trees = End; are_steps = refl; passed = later at n }
steps_passed (step ∷ steps) comments at n words later =
    let first = All-head IsOfWords step steps words in
    let rest = steps_text steps ++ comments in
    let here = step_passed step rest at n first.name (recursion_from_All IsWord step.args first.args) in
    let read = steps_passed steps comments here.next (n + 1) (All-tail IsOfWords step steps words) later in record {
      trees = Then (Branch at here.trees) read.trees;
      are_steps = (λ j. with_first (here.is_step j) (read.are_steps j));
      passed =
          ap (pass Plan false (outside at n)) (append_assoc (line (step_text step)) (steps_text steps) comments)
          ∙ here.passed
          ∙ ap (in_front (λ items. Open at ∷ spelled here.trees (Close ∷ items))) read.passed;
    }

pub plans_are_read : ListsAreRead → (steps : List Step) (comments : List ℕ) → All IsOfWords steps → AreComments comments
    → plan_of (steps_text steps ++ comments) ≡ Ok steps
unfolding plan_of
plans_are_read lists steps comments words (lines, all, e) =
    let text : List ℕ = steps_text steps ++ comments in
    let each = recursion_from_All (λ (text : List ℕ). is_comment text ≡ true) lines all in
    let later : (at n : ℕ) → pass Plan false (outside at n) comments ≡ nothing =
    λ at n. ap (pass Plan false (outside at n)) e ∙ comments_passed lines at n each in
    let read = steps_passed steps comments 0 0 words later in
    let passed = sym (texts_are_passed Plan text) ∙ read.passed in
    (λ j. plan_by (passed j).fault (steps_of (trees_of (passed j).items)))
    ∙ ap (λ (trees : Trees). plan_by None (steps_of trees)) (lists read.trees)
    ∙ ap (plan_by None) read.are_steps

pub comments_join : (front back : List ℕ) → AreComments front → AreComments back → AreComments (front ++ back)
comments_join front back (lines, all, e) (more, others, f) = (
  lines ++ more,
  All-append (λ (text : List ℕ). is_comment text ≡ true) lines more all others,
  (λ j. e j ++ f j) ∙ sym (flat_map-append line lines more),
)
