-- One place more: what the pass keeps is what the definitions say of the whole text.
use Rattle.std.proofs.Common.{
  ◌≡◌,
  ℕ,
  ◌+◌,
  ◌-◌,
  ◌^◌,
  ◌<◌,
  ◌≤◌,
  Bool,
  true,
  false,
  cond,
  not,
  ◌&&◌,
  ◌||◌,
  eqb,
  List,
  [],
  ◌∷◌,
  ◌++◌,
  Option,
  None,
  Some,
  length,
  get_or,
  take,
  drop,
  map,
  reverse,
  refl,
  sym,
  ap,
  ◌∙◌,
  arith,
  add-one,
  zero-add,
  suc,
}
use Rattle.std.specs.Prelude.{filter_map, count_by, option_to_list, take_while}
use Rattle.std.specs.List.{list_any, range_with_len, cons_option}
use Rattle.std.proofs.lemmas.List.{take_more, reverse-append, map-id}
use Rattle.std.proofs.lemmas.List.Sums.{take_while-cons, sum_by_push, count_by-le-length}
use Rattle.std.proofs.lemmas.List.FromFn.{length-range_with_len, map-range_with_len_more}
use Rattle.std.proofs.lemmas.List.Elements.{filter_map-append}
use Rattle.wp_lex.specs.declared.error.LexError.{LexError}
use Rattle.wp_lex.specs.declared.error.LexError.TheVariants.{Memory}
use Rattle.wp_lex.specs.declared.item.Item.{Item}
use Rattle.wp_lex.specs.declared.place.Source.{Source}
use Rattle.wp_lex.specs.declared.place.Class.{Class}
use Rattle.wp_lex.specs.declared.place.Place.{Place}
use Rattle.wp_lex.specs.declared.place.Class.TheVariants.{Blank}
use Rattle.wp_lex.specs.Words.{is_commented, class_at, class_of, is_letter, is_opening, is_closing, follows_letter}
use Rattle.wp_lex.specs.Places.{place_at, place_behind, IsCounted}
use Rattle.wp_lex.specs.Faults.{fault_by, fault_at, fault_at_end, fault_from, first_of, Explains}
use Rattle.wp_lex.specs.Items.{item_by, item_at, items_before}

-- a semicolon stands in the last line of a reversed front
abbrev in_line : List ℕ → Bool
in_line bytes = list_any (λ byte. eqb byte 59) (take_while (λ byte. not (eqb byte 10)) bytes)

or_comm : (x y : Bool) → (x || y) ≡ (y || x)
or_comm true true = refl
or_comm true false = refl
or_comm false true = refl
or_comm false false = refl

any_of_cond : (goes : Bool) (b : ℕ) (bytes : List ℕ)
    → list_any (λ byte. eqb byte 59) (cond goes (b ∷ bytes) [])
    ≡ (goes && (list_any (λ byte. eqb byte 59) bytes || eqb b 59))
any_of_cond true b bytes = or_comm (eqb b 59) (list_any (λ byte. eqb byte 59) bytes)
any_of_cond false b bytes = refl

in_line-cons : (b : ℕ) (bytes : List ℕ) → in_line (b ∷ bytes) ≡ (not (eqb b 10) && (in_line bytes || eqb b 59))
in_line-cons b bytes =
    ap (list_any (λ byte. eqb byte 59)) (take_while-cons (λ byte. not (eqb byte 10)) b bytes)
    ∙ any_of_cond (not (eqb b 10)) b (take_while (λ byte. not (eqb byte 10)) bytes)

pub is_commented-more : (text : List ℕ) (i : ℕ) → i < length text
    → is_commented text (i + 1) ≡ (not (eqb (get_or text i 0) 10) && (is_commented text i || eqb (get_or text i 0) 59))
is_commented-more text i h =
    ap (λ bytes. in_line (reverse bytes)) (take_more text i 0 h)
    ∙ ap in_line (reverse-append (take i text) (get_or text i 0 ∷ []))
    ∙ in_line-cons (get_or text i 0) (reverse (take i text))

range_more : (n : ℕ) → range_with_len 0 (n + 1) ≡ range_with_len 0 n ++ n ∷ []
range_more n =
    sym (map-id (range_with_len 0 (n + 1)))
    ∙ map-range_with_len_more (λ (k : ℕ). k) 0 n n (zero-add n)
    ∙ ap (λ ks. ks ++ n ∷ []) (map-id (range_with_len 0 n))

count_more : (p : ℕ → Bool) (n : ℕ)
    → count_by p (range_with_len 0 (n + 1)) ≡ count_by p (range_with_len 0 n) + cond (p n) 1 0
count_more p n = ap (count_by p) (range_more n) ∙ sum_by_push (λ k. cond (p k) 1 0) (range_with_len 0 n) n

follows_more : (text : List ℕ) (i : ℕ) → follows_letter text (i + 1) ≡ is_letter (class_at text i)
follows_more text i = ap (follows_letter text) (add-one i)

pub place_at-more : (text : List ℕ) (i : ℕ) → place_at text (i + 1) ≡ place_behind (class_at text i) (place_at text i)
place_at-more text i =
    λ j. record {
      at = i + 1;
      continues = follows_more text i j;
      opened = count_more (λ k. is_opening (class_at text k)) i j;
      closed = count_more (λ k. is_closing (class_at text k)) i j;
    }

one_item : (item : Option Item) → cons_option item [] ≡ option_to_list item
one_item None = refl
one_item (Some item) = refl

pub items_before-more : (source : Source) (text : List ℕ) (i : ℕ)
    → items_before source text (i + 1) ≡ items_before source text i ++ option_to_list (item_at source text i)
items_before-more source text i =
    ap (filter_map (item_at source text)) (range_more i)
    ∙ filter_map-append (item_at source text) (range_with_len 0 i) (i ∷ [])
    ∙ ap (λ items. items_before source text i ++ items) (one_item (item_at source text i))

abbrev pub faults_from : Source → List ℕ → ℕ → List (Option LexError)
faults_from source text i = map (fault_at source text) (range_with_len i (length text - i))

abbrev pub fault_behind : Source → List ℕ → Option LexError
fault_behind source text = fault_at_end source (place_at text (length text))

pub fault_from-step : (source : Source) (text : List ℕ) (i : ℕ) → i < length text
    → fault_from source text i
    ≡ first_of (fault_at source text i ∷ faults_from source text (i + 1)) (fault_behind source text)
fault_from-step source text i h =
    let one_less : length text - i ≡ suc (length text - (i + 1)) = omega arith in
    ap (λ n. first_of (map (fault_at source text) (range_with_len i n)) (fault_behind source text)) one_less

pub fault_from-more : (source : Source) (text : List ℕ) (i : ℕ) → i < length text → fault_at source text i ≡ None
    → fault_from source text i ≡ fault_from source text (i + 1)
fault_from-more source text i h e =
    fault_from-step source text i h
    ∙ ap (λ fault. first_of (fault ∷ faults_from source text (i + 1)) (fault_behind source text)) e

pub fault_from-here : (source : Source) (text : List ℕ) (i : ℕ) (fault : LexError) → i < length text
    → fault_at source text i ≡ Some fault → fault_from source text i ≡ Some fault
fault_from-here source text i fault h e =
    fault_from-step source text i h
    ∙ ap (λ found. first_of (found ∷ faults_from source text (i + 1)) (fault_behind source text)) e

pub fault_from-end : (source : Source) (text : List ℕ) (i : ℕ) → length text ≤ i
    → fault_from source text i ≡ fault_at_end source (place_at text (length text))
fault_from-end source text i h =
    let none_left : length text - i ≡ 0 = omega arith in
    ap (λ n. first_of (map (fault_at source text) (range_with_len i n)) (fault_behind source text)) none_left

count-le : (p : ℕ → Bool) (n : ℕ) → count_by p (range_with_len 0 n) ≤ n
count-le p n = omega (arith, count_by-le-length p (range_with_len 0 n), length-range_with_len 0 n)

pub place_at-IsCounted : (text : List ℕ) (i : ℕ) → i < 2 ^ 64 - 1 → IsCounted (place_at text i)
place_at-IsCounted text i h = record {
  short = h;
  opened_within = count-le (λ k. is_opening (class_at text k)) i;
  closed_within = count-le (λ k. is_closing (class_at text k)) i;
}

-- a byte that was read, and whether a comment goes on before and behind it
pub commented_here : (text : List ℕ) (i byte : ℕ) (before behind : Bool) → i < length text
    → byte ≡ get_or text i 0 → before ≡ is_commented text i → behind ≡ (not (eqb byte 10) && (before || eqb byte 59))
    → behind ≡ is_commented text (i + 1)
commented_here text i byte before behind h read was is =
    is ∙ (λ j. not (eqb (read j) 10) && (was j || eqb (read j) 59)) ∙ sym (is_commented-more text i h)

pub class_here : (text : List ℕ) (i byte : ℕ) (behind : Bool) (class : Class) → byte ≡ get_or text i 0
    → behind ≡ is_commented text (i + 1) → class ≡ cond behind Blank (class_of byte) → class ≡ class_at text i
class_here text i byte behind class read commented is = is ∙ (λ j. cond (commented j) Blank (class_of (read j)))

pub fault_here : (source : Source) (text : List ℕ) (i : ℕ) (class : Class) (place : Place) (rest : List ℕ)
    → class ≡ class_at text i → place ≡ place_at text i → rest ≡ drop i text
    → fault_by source class place rest ≡ fault_at source text i
fault_here source text i class place rest a b c = λ j. fault_by source (a j) (b j) (c j)

pub item_here : (source : Source) (text : List ℕ) (i : ℕ) (class : Class) (place : Place) (rest : List ℕ)
    → class ≡ class_at text i → place ≡ place_at text i → rest ≡ drop i text
    → item_by source class place rest ≡ item_at source text i
item_here source text i class place rest a b c = λ j. item_by source (a j) (b j) (c j)

pub explains_from : (source : Source) (text : List ℕ) (i : ℕ) (error : LexError) → i < length text
    → Explains error (fault_at source text i) → Explains error (fault_from source text i)
explains_from source text i Memory h e = tt
explains_from source text i error h e = fault_from-here source text i error h e

pub explains_end : (error : LexError) (fault : Option LexError) → fault ≡ Some error → Explains error fault
explains_end Memory fault e = tt
explains_end error fault e = e

-- behind the last byte
pub fault_from-behind : (source : Source) (text : List ℕ) (i : ℕ) (place : Place) → i ≡ length text
    → place ≡ place_at text i → fault_at_end source place ≡ fault_from source text i
fault_from-behind source text i place e is =
    let past : length text ≤ i = omega arith in
    (λ j. fault_at_end source (is j)) ∙ ap (λ n. fault_at_end source (place_at text n)) e
    ∙ sym (fault_from-end source text i past)
