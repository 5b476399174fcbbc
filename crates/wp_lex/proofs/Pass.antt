-- A text from the left. What the places of the whole text say is what its bytes give one after another, when it is known at
-- each whether a comment goes on and what stands before it.
use Rattle.std.proofs.Common.{◌≡◌, ℕ, zero, suc, ◌+◌, ◌<◌, ◌≤◌, Bool, false, cond, not, ◌&&◌, ◌||◌, eqb, List, [], ◌∷◌, Option, None, Some, length, get_or, drop, refl, sym, ap, ◌∙◌, arith, zero-add, add-one, drop-cons}
use Rattle.std.specs.Prelude.{filter_map}
use Rattle.std.specs.List.{range_with_len, cons_option}
use Rattle.std.proofs.lemmas.List.{drop_all}
use Rattle.wp_lex.specs.declared.error.LexError.{LexError}
use Rattle.wp_lex.specs.declared.item.Item.{Item}
use Rattle.wp_lex.specs.declared.place.Source.{Source}
use Rattle.wp_lex.specs.declared.place.Class.{Class}
use Rattle.wp_lex.specs.declared.place.Class.TheVariants.{Blank}
use Rattle.wp_lex.specs.declared.place.Place.{Place}
use Rattle.wp_lex.specs.Words.{is_commented, class_of, class_at}
use Rattle.wp_lex.specs.Places.{place_at, place_behind}
use Rattle.wp_lex.specs.Faults.{fault_by, fault_at, fault_at_end, fault_from, first_of}
use Rattle.wp_lex.specs.Items.{item_by, item_at, items_before}
use Rattle.wp_lex.proofs.Steps.{is_commented-more, place_at-more, faults_from, fault_behind, fault_from-step, fault_from-end}

-- the first fault of a text from a place on, and its items from there
pub record Pass : Type 0 where
  pub fault : Option LexError
  pub items : List Item

-- whether a comment goes on behind a byte
abbrev pub goes_on : Bool → ℕ → Bool
goes_on commented byte = not (eqb byte 10) && (commented || eqb byte 59)

abbrev pub class_by : Bool → ℕ → Class
class_by commented byte = cond commented Blank (class_of byte)

abbrev pub or_later : Option LexError → Option LexError → Option LexError
or_later None later = later
or_later (Some fault) later = Some fault

-- a place of the class with what stands there, in front of what follows
abbrev pub before : Source → Class → Place → List ℕ → Pass → Pass
before source class place rest later = record {
  fault = or_later (fault_by source class place rest) later.fault;
  items = cons_option (item_by source class place rest) later.items;
}

abbrev pub pass : Source → Bool → Place → List ℕ → Pass
pass source commented place [] = record { fault = fault_at_end source place; items = [] }
pass source commented place (byte ∷ rest) =
    let commented' = goes_on commented byte in
    let class = class_by commented' byte in
    before source class place (byte ∷ rest) (pass source commented' (place_behind class place) rest)

-- what the places from one on say
abbrev from : Source → List ℕ → ℕ → ℕ → Pass
from source text i n = record {
  fault = fault_from source text i;
  items = filter_map (item_at source text) (range_with_len i n);
}

first_of-cons : (fault last : Option LexError) (faults : List (Option LexError))
    → or_later fault (first_of faults last) ≡ first_of (fault ∷ faults) last
first_of-cons None last faults = refl
first_of-cons (Some fault) last faults = refl

from-step : (source : Source) (text : List ℕ) (i n : ℕ) → i < length text
    → before source (class_at text i) (place_at text i) (drop i text) (from source text (i + 1) n) ≡ from source text i (suc n)
from-step source text i n h =
    λ j. record {
      fault = (first_of-cons (fault_at source text i) (fault_behind source text) (faults_from source text (i + 1))
          ∙ sym (fault_from-step source text i h)) j;
      items = filter_map (item_at source text) (range_with_len i (suc n));
    }

-- one byte, of which it is known what it does
pub passed_byte : (source : Source) (commented commented' : Bool) (class : Class) (place place' : Place) (byte : ℕ) (rest : List ℕ)
    → goes_on commented byte ≡ commented' → class_by commented' byte ≡ class → place_behind class place ≡ place'
    → pass source commented place (byte ∷ rest) ≡ before source class place (byte ∷ rest) (pass source commented' place' rest)
passed_byte source commented commented' class place place' byte rest goes is next =
    (λ j. before source (class_by (goes j) byte) place (byte ∷ rest)
    (pass source (goes j) (place_behind (class_by (goes j) byte) place) rest))
    ∙ (λ j. before source (is j) place (byte ∷ rest) (pass source commented' (place_behind (is j) place) rest))
    ∙ (λ j. before source class place (byte ∷ rest) (pass source commented' (next j) rest))

parted : (i : ℕ) (text : List ℕ) → i < length text → drop i text ≡ get_or text i 0 ∷ drop (i + 1) text
parted i text h = rw (add-one, drop-cons text i 0) refl

passed : (n : ℕ) (source : Source) (text : List ℕ) (i : ℕ) → length text ≡ i + n
    → pass source (is_commented text i) (place_at text i) (drop i text) ≡ from source text i n
passed zero source text i e =
    let behind : length text ≡ i = omega arith in
    let past : length text ≤ i = omega arith in
    ap (pass source (is_commented text i) (place_at text i)) (drop_all i text past)
    ∙ (λ j. record { fault = fault_at_end source (place_at text (sym behind j)); items = [] })
    ∙ (λ j. record { fault = sym (fault_from-end source text i past) j; items = [] })
passed (suc n) source text i e =
    let inside : i < length text = omega arith in
    let after : length text ≡ (i + 1) + n = omega arith in
    let parts = parted i text inside in
    let commented = is_commented-more text i inside in
    ap (pass source (is_commented text i) (place_at text i)) parts
    ∙ passed_byte source (is_commented text i) (is_commented text (i + 1)) (class_at text i) (place_at text i) (place_at text (i + 1))
    (get_or text i 0) (drop (i + 1) text) (sym commented) refl (sym (place_at-more text i))
    ∙ (λ j. before source (class_at text i) (place_at text i) (sym parts j) (passed n source text (i + 1) after j))
    ∙ from-step source text i n inside

pub texts_are_passed : (source : Source) (text : List ℕ)
    → pass source false (place_at [] 0) text
    ≡ record { fault = fault_from source text 0; items = items_before source text (length text) }
texts_are_passed source text = passed (length text) source text 0 (sym (zero-add (length text)))
