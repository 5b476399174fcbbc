-- The text of a problem is the line of a list that is written out.
use Rattle.std.proofs.Common.{◌≡◌, ℕ, zero, suc, ◌+◌, ◌-◌, ◌≤◌, ◌<◌, true, List, [], ◌∷◌, ◌++◌, refl, sym, ap, ◌∙◌, arith}
use Rattle.std.specs.Prelude.{codes, decimal}
use Rattle.std.specs.List.{flat_map, list_all, range_with_len}
use Rattle.std.specs.Fmt.{digits}
use Rattle.std.proofs.lemmas.List.{append_assoc, append-nil}
use Rattle.std.proofs.lemmas.Bool.{agree_below_at}
use Rattle.wp_lex.specs.Words.{IsWord, is_word_byte}
use Rattle.wp_lex.specs.Written.{Form, Alone, Listed, Forms, NoMore, Behind, form_text, forms_text, IsForm, AreForms}
use Rattle.wp_gen.specs.Depot.{at_text, each_below, goal_line, goal_of, init_line, objects_line, parcel_text, place_text, problem_text, roads_text, start_of}

abbrev pub place_name : ℕ → List ℕ
place_name place = 112 ∷ decimal place

abbrev pub parcel_name : ℕ → List ℕ
parcel_name parcel = 98 ∷ decimal parcel

abbrev pub word : List ℕ → Forms → Forms
word text rest = Behind 32 (Alone text) rest

-- a predicate of two names
abbrev pub pair : List ℕ → List ℕ → List ℕ → Form
pair pred a b = Listed pred (word a (word b NoMore))

-- what is put for each of so many numbers from one on
abbrev pub each_from : (ℕ → Forms → Forms) → ℕ → ℕ → Forms → Forms
each_from put i zero rest = rest
each_from put i (suc n) rest = put i (each_from put (i + 1) n rest)

abbrev pub put_place : ℕ → Forms → Forms
put_place k rest = word (place_name k) rest

abbrev pub put_parcel : ℕ → Forms → Forms
put_parcel k rest = word (parcel_name k) rest

abbrev pub put_roads : ℕ → Forms → Forms
put_roads k rest =
    Behind 32 (pair (codes "road") (place_name k) (place_name (k + 1)))
    (Behind 32 (pair (codes "road") (place_name (k + 1)) (place_name k)) rest)

abbrev pub put_at : (ℕ → ℕ) → ℕ → Forms → Forms
put_at place k rest = Behind 32 (pair (codes "at") (parcel_name k) (place_name (place k))) rest

abbrev pub object_forms : ℕ → Forms
object_forms size = each_from put_place 0 size (each_from put_parcel 0 size NoMore)

abbrev pub init_forms : ℕ → (ℕ → ℕ) → Forms
init_forms size place =
    Behind 32 (Listed (codes "truck") (word (codes "p0") NoMore))
    (each_from put_roads 0 (size - 1) (each_from (put_at place) 0 size NoMore))

abbrev pub goal_forms : ℕ → (ℕ → ℕ) → Forms
goal_forms size place = each_from (put_at place) 0 size NoMore

abbrev pub items_with : Forms → Forms → Forms → Forms
items_with objects init goals =
    Behind 32 (Listed (codes "problem") (word (codes "depot") NoMore))
    (Behind 32 (Listed (codes ":domain") (word (codes "depot") NoMore))
    (Behind 10 (Listed (codes ":objects") objects)
    (Behind 10 (Listed (codes ":init") init)
    (Behind 10 (Listed (codes ":goal") (Behind 32 (Listed (codes "and") goals) NoMore)) NoMore))))

abbrev pub problem_items : ℕ → ℕ → Forms
problem_items number size = items_with (object_forms size) (init_forms size (start_of number size)) (goal_forms size (goal_of number size))

-- ---- the text
each_text : (put : ℕ → Forms → Forms) (text : ℕ → List ℕ)
    → ((k : ℕ) (rest : Forms) → forms_text (put k rest) ≡ text k ++ forms_text rest)
    → (i n : ℕ) (rest : Forms) → forms_text (each_from put i n rest) ≡ flat_map text (range_with_len i n) ++ forms_text rest
each_text put text h i zero rest = refl
each_text put text h i (suc n) rest =
    h i (each_from put (i + 1) n rest)
    ∙ ap (λ (l : List ℕ). text i ++ l) (each_text put text h (i + 1) n rest)
    ∙ sym (append_assoc (text i) (flat_map text (range_with_len (i + 1) n)) (forms_text rest))

two_roads : (a b rest : List ℕ)
    → 32 ∷ (form_text (pair (codes "road") a b) ++ 32 ∷ (form_text (pair (codes "road") b a) ++ rest))
    ≡ (codes " (road" ++ (32 ∷ a) ++ (32 ∷ b) ++ codes ")" ++ codes " (road" ++ (32 ∷ b) ++ (32 ∷ a) ++ codes ")") ++ rest
two_roads a b rest = simp (append_assoc, append-nil)

roads : (k : ℕ) (rest : Forms) → forms_text (put_roads k rest) ≡ roads_text k ++ forms_text rest
unfolding roads_text
roads k rest = two_roads (place_name k) (place_name (k + 1)) (forms_text rest)

one_at : (a b rest : List ℕ)
    → 32 ∷ (form_text (pair (codes "at") a b) ++ rest) ≡ (codes " (at" ++ (32 ∷ a) ++ (32 ∷ b) ++ codes ")") ++ rest
one_at a b rest = simp (append_assoc, append-nil)

at : (place : ℕ → ℕ) (k : ℕ) (rest : Forms) → forms_text (put_at place k rest) ≡ at_text k (place k) ++ forms_text rest
unfolding at_text
at place k rest = one_at (parcel_name k) (place_name (place k)) (forms_text rest)

-- two pieces between a front and a back
between : (front one two back : List ℕ) → front ++ (one ++ (two ++ [])) ++ back ≡ front ++ one ++ two ++ back
between front one two back = simp (append_assoc, append-nil)

objects_text : (size : ℕ) → codes "(:objects" ++ forms_text (object_forms size) ++ codes ")\n" ≡ objects_line size
unfolding objects_line
objects_text size =
    ap (λ (text : List ℕ). codes "(:objects" ++ text ++ codes ")\n")
    (each_text put_place place_text (λ k rest. refl) 0 size (each_from put_parcel 0 size NoMore)
    ∙ ap (λ (text : List ℕ). each_below place_text size ++ text) (each_text put_parcel parcel_text (λ k rest. refl) 0 size NoMore))
    ∙ between (codes "(:objects") (each_below place_text size) (each_below parcel_text size) (codes ")\n")

abbrev ats_text : ℕ → (ℕ → ℕ) → List ℕ
ats_text size place = each_below (λ (parcel : ℕ). at_text parcel (place parcel)) size

ats : (size : ℕ) (place : ℕ → ℕ) → forms_text (goal_forms size place) ≡ ats_text size place ++ []
ats size place = each_text (put_at place) (λ (parcel : ℕ). at_text parcel (place parcel)) (at place) 0 size NoMore

init_text : (number size : ℕ)
    → codes "(:init" ++ forms_text (init_forms size (start_of number size)) ++ codes ")\n" ≡ init_line number size
unfolding init_line
init_text number size =
    ap (λ (text : List ℕ). codes "(:init (truck p0)" ++ text ++ codes ")\n")
    (each_text put_roads roads_text roads 0 (size - 1) (goal_forms size (start_of number size))
    ∙ ap (λ (text : List ℕ). each_below roads_text (size - 1) ++ text) (ats size (start_of number size)))
    ∙ between (codes "(:init (truck p0)") (each_below roads_text (size - 1)) (ats_text size (start_of number size)) (codes ")\n")

goals_text : (number size : ℕ)
    → codes "(:goal (and" ++ forms_text (goal_forms size (goal_of number size)) ++ codes ")))\n" ≡ goal_line number size
unfolding goal_line
goals_text number size =
    ap (λ (text : List ℕ). codes "(:goal (and" ++ text ++ codes ")))\n")
    (ats size (goal_of number size) ∙ append-nil (ats_text size (goal_of number size)))

-- three lists behind one another, the last in a list, and the ends of the whole
joined : (a b c d e o i g y n : List ℕ)
    → ((a ++ (o ++ y)) ++ (n ++ ((b ++ (i ++ y)) ++ (n ++ ((c ++ ((d ++ ((e ++ (g ++ y)) ++ [])) ++ y)) ++ []))))) ++ (y ++ n)
    ≡ ((a ++ (o ++ (y ++ n))) ++ (b ++ (i ++ (y ++ n)))) ++ ((c ++ (d ++ e)) ++ (g ++ (y ++ (y ++ (y ++ n)))))
joined a b c d e o i g y n = simp (append_assoc, append-nil)

abbrev title : List ℕ
title = codes "(define (problem depot) (:domain depot)\n"

items_text : (objects init goals : Forms)
    → form_text (Listed (codes "define") (items_with objects init goals)) ++ 10 ∷ []
    ≡ title ++ (codes "(:objects" ++ forms_text objects ++ codes ")\n") ++ (codes "(:init" ++ forms_text init ++ codes ")\n")
    ++ (codes "(:goal (and" ++ forms_text goals ++ codes ")))\n")
items_text objects init goals =
    ap (λ (text : List ℕ). title ++ text)
    (append_assoc
    (form_text (Listed (codes ":objects") objects) ++ 10 ∷ (form_text (Listed (codes ":init") init)
    ++ 10 ∷ (form_text (Listed (codes ":goal") (Behind 32 (Listed (codes "and") goals) NoMore)) ++ [])))
    (41 ∷ []) (10 ∷ [])
    ∙ joined (codes "(:objects") (codes "(:init") (codes "(:goal") (codes " ") (codes "(and")
    (forms_text objects) (forms_text init) (forms_text goals) (41 ∷ []) (10 ∷ []))

pub text_is_line : (number size : ℕ) → problem_text number size ≡ form_text (Listed (codes "define") (problem_items number size)) ++ 10 ∷ []
unfolding problem_text
text_is_line number size =
    sym (items_text (object_forms size) (init_forms size (start_of number size)) (goal_forms size (goal_of number size))
    ∙ (λ j. title ++ objects_text size j ++ init_text number size j ++ goals_text number size j))

-- ---- its words
literal : (byte : ℕ) (rest : List ℕ) → list_all is_word_byte (byte ∷ rest) ≡ true → IsWord (byte ∷ rest)
literal byte rest all = record { some = omega arith; letters = all }

place_word : (k : ℕ) → k < 64 → IsWord (place_name k)
unfolding digits
place_word k small =
    literal 112 (decimal k) (agree_below_at (λ k. list_all is_word_byte (place_name k)) (λ k. true) 64 k refl small)

parcel_word : (k : ℕ) → k < 64 → IsWord (parcel_name k)
unfolding digits
parcel_word k small =
    literal 98 (decimal k) (agree_below_at (λ k. list_all is_word_byte (parcel_name k)) (λ k. true) 64 k refl small)

pair_is : (depth : ℕ) (pred a b : List ℕ) → IsWord pred → IsWord a → IsWord b → IsForm (suc depth) (pair pred a b)
pair_is depth pred a b is first second = (is, (refl, first, (refl, second, tt)))

each_are : (put : ℕ → Forms → Forms) (depth bound : ℕ)
    → ((k : ℕ) (rest : Forms) → k < bound → AreForms depth rest → AreForms depth (put k rest))
    → (i n : ℕ) (rest : Forms) → i + n ≤ bound → AreForms depth rest → AreForms depth (each_from put i n rest)
each_are put depth bound h i zero rest le are = are
each_are put depth bound h i (suc n) rest le are =
    h i (each_from put (i + 1) n rest) (omega arith) (each_are put depth bound h (i + 1) n rest (omega arith) are)

ats_are : (depth size : ℕ) (place : ℕ → ℕ) → size ≤ 64 → ((k : ℕ) → place k < size) → AreForms (suc depth) (goal_forms size place)
ats_are depth size place few within =
    each_are (put_at place) (suc depth) size
    (λ k rest lt are. (
      refl,
      pair_is depth (codes "at") (parcel_name k) (place_name (place k)) (literal 97 (codes "t") refl) (parcel_word k (omega arith))
          (place_word (place k) (omega (arith, within k))),
      are,
    ))
    0 size NoMore (omega arith) tt

objects_are : (size : ℕ) → size ≤ 64 → AreForms 62 (object_forms size)
objects_are size few =
    each_are put_place 62 size (λ k rest lt are. (refl, place_word k (omega arith), are)) 0 size
    (each_from put_parcel 0 size NoMore) (omega arith)
    (each_are put_parcel 62 size (λ k rest lt are. (refl, parcel_word k (omega arith), are)) 0 size NoMore (omega arith) tt)

init_are : (size : ℕ) (place : ℕ → ℕ) → size ≤ 64 → ((k : ℕ) → place k < size) → AreForms 62 (init_forms size place)
init_are size place few within = (
  refl,
  (literal 116 (codes "ruck") refl, (refl, literal 112 (codes "0") refl, tt)),
  each_are put_roads 62 (size - 1)
      (λ k rest lt are. (
        refl,
        pair_is 61 (codes "road") (place_name k) (place_name (k + 1)) (literal 114 (codes "oad") refl) (place_word k (omega arith))
            (place_word (k + 1) (omega arith)),
        (
          refl,
          pair_is 61 (codes "road") (place_name (k + 1)) (place_name k) (literal 114 (codes "oad") refl) (place_word (k + 1) (omega arith))
              (place_word k (omega arith)),
          are,
        ),
      ))
      0 (size - 1) (goal_forms size place) (omega arith) (ats_are 61 size place few within),
)

-- a list of its first word and one more
named_is : (depth : ℕ) (first : List ℕ) → IsWord first → IsForm (suc depth) (Listed first (word (codes "depot") NoMore))
named_is depth first is = (is, (refl, literal 100 (codes "epot") refl, tt))

pub items_are : (number size : ℕ) → size ≤ 64 → ((k : ℕ) → start_of number size k < size) → ((k : ℕ) → goal_of number size k < size)
    → IsForm 64 (Listed (codes "define") (problem_items number size))
items_are number size few starts goals =
    let goal : IsForm 63 (Listed (codes ":goal") (Behind 32 (Listed (codes "and") (goal_forms size (goal_of number size))) NoMore)) =
    (literal 58 (codes "goal") refl, (refl, (literal 97 (codes "nd") refl, ats_are 60 size (goal_of number size) few goals), tt)) in
    let init : IsForm 63 (Listed (codes ":init") (init_forms size (start_of number size))) =
    (literal 58 (codes "init") refl, init_are size (start_of number size) few starts) in
    let objects : IsForm 63 (Listed (codes ":objects") (object_forms size)) = (literal 58 (codes "objects") refl, objects_are size few) in (
      literal 100 (codes "efine") refl,
      (
        refl,
        named_is 62 (codes "problem") (literal 112 (codes "roblem") refl),
        (refl, named_is 62 (codes ":domain") (literal 58 (codes "domain") refl), (refl, objects, (refl, init, (refl, goal, tt)))),
      ),
    )
