-- Types, after the typing of PDDL (Fox and Long, PDDL 2.1, JAIR 2003): a subtype is what the declared pairs lead to, up to
-- `object`, which is above every type. Cycles are allowed: all types of a cycle are subtypes of one another.
use Rattle.std.specs.Prelude.{ℕ, ◌==◌, nat_le, ◌&&◌, ◌||◌, Bool, false, is_none, unwrap_or, Option, None, Some, List, [], ◌∷◌, ◌++◌, length, map, codes, slice_index_or, Contains, zero, suc, if◌then◌else◌}
use Rattle.std.specs.List.{flat_map, list_any, range_with_len}
use Rattle.wp_syntax.specs.declared.error.Part.{Part}
use Rattle.wp_syntax.specs.declared.error.PddlKind.TheVariants.{TooMany, UnknownType}
use Rattle.wp_syntax.specs.declared.records.Name.{Name}
use Rattle.wp_syntax.specs.declared.records.Typed.{Typed}
use Rattle.wp_lift.specs.Names.{number_of}
use Rattle.wp_lift.specs.Walk.{Walk, fine, wrong_if, each_after, ◌>>◌}

-- two words of one group have the kinds that stand behind it: the very same words of the text
abbrev pub first_place : List Name → Option ℕ
first_place [] = None
first_place (kind ∷ kinds) = Some kind.at

abbrev pub is_same_place : Option ℕ → Option ℕ → Bool
is_same_place (Some a) (Some b) = a == b
is_same_place a b = false

abbrev pub next_place : List Typed → Option ℕ
next_place [] = None
next_place (typed ∷ rest) = first_place typed.kinds

-- all words of a typed list in the order of their places: those of a group come before its kinds
abbrev pub words_of : List Typed → List Name
words_of [] = []
words_of (typed ∷ rest) =
    typed.name ∷ (if is_same_place (first_place typed.kinds) (next_place rest) then words_of rest else typed.kinds ++ words_of rest)

-- the words of a typed list's first name, up to the next name
abbrev pub group_of : Typed → List Typed → List Name
group_of typed rest = typed.name ∷ (if is_same_place (first_place typed.kinds) (next_place rest) then [] else typed.kinds)

-- a name is added where it is new; it is one too many where as many as the limit are there
abbrev pub noted_name : List (List ℕ) → List ℕ → List (List ℕ)
noted_name names name = if is_none (number_of name names) then names ++ name ∷ [] else names

abbrev pub is_one_too_many : ℕ → List (List ℕ) → List ℕ → Bool
is_one_too_many limit names name = is_none (number_of name names) && nat_le limit (length names)

-- so many types, and so many objects
abbrev pub most_types : ℕ
most_types = 4096

abbrev pub most_objects : ℕ
most_objects = 65536

-- a type is declared by its name or as a kind. `object` has number 0, and is not counted
abbrev pub type_of_word : Part → List (List ℕ) → Name → Walk (List (List ℕ))
type_of_word part types word =
    wrong_if (is_one_too_many (suc most_types) types word.text) part (TooMany most_types) word.at >> fine (noted_name types word.text)

unfoldable pub types_of : Part → List Typed → Walk (List (List ℕ))
types_of part declared = each_after (type_of_word part) (codes "object" ∷ []) (words_of declared)

abbrev pub type_number : List (List ℕ) → List ℕ → ℕ
type_number types name = unwrap_or (number_of name types) 0

-- the declared pairs of a type and one above it
abbrev pub pairs_of : List (List ℕ) → List Typed → List (ℕ × ℕ)
pairs_of types declared =
    flat_map (λ (typed : Typed). map (λ (kind : Name). (type_number types typed.name.text, type_number types kind.text)) typed.kinds) declared

-- the relation: a type is below itself, below what is above `object`, and below what is above a type that it was declared with
pub data IsSubtype (pairs : List (ℕ × ℕ)) : ℕ → ℕ → Type 0 where
  itself : (a : ℕ) → IsSubtype pairs a a
  top : (a c : ℕ) → IsSubtype pairs 0 c → IsSubtype pairs a c
  step : (a b c : ℕ) → Contains pairs (a, b) → IsSubtype pairs b c → IsSubtype pairs a c

-- some type of an object is a subtype of some type that is wanted of it
pub record HasSubtype (pairs : List (ℕ × ℕ)) (kinds wanted : List ℕ) : Type 0 where
  pub kind : ℕ
  pub above : ℕ
  pub has : Contains kinds kind
  pub wants : Contains wanted above
  pub below : IsSubtype pairs kind above

-- the same, computed: of one type, for each type whether it is above; it grows by the declared pairs, as often as there are types
abbrev pub is_flagged : List Bool → ℕ → Bool
is_flagged flags n = slice_index_or flags n false

abbrev pub flags_of : ℕ → ℕ → List Bool
flags_of count a = map (λ (b : ℕ). (b == a) || (b == 0)) (range_with_len 0 count)

abbrev pub grown : List (ℕ × ℕ) → List Bool → List Bool
grown pairs flags =
    map (λ (b : ℕ). is_flagged flags b || list_any (λ (pair : ℕ × ℕ). is_flagged flags pair.0 && (pair.1 == b)) pairs)
    (range_with_len 0 (length flags))

abbrev pub grown_by : ℕ → List (ℕ × ℕ) → List Bool → List Bool
grown_by zero pairs flags = flags
grown_by (suc rounds) pairs flags = grown_by rounds pairs (grown pairs flags)

unfoldable pub subtypes_of : List (List ℕ) → List Typed → List (List Bool)
subtypes_of types declared =
    map (λ (a : ℕ). grown_by (length types) (pairs_of types declared) (flags_of (length types) a)) (range_with_len 0 (length types))

-- the types of a kind; no kind means `object`
abbrev pub kind_numbers : List (List ℕ) → List Name → List ℕ
kind_numbers types [] = 0 ∷ []
kind_numbers types (kind ∷ kinds) = map (λ (name : Name). type_number types name.text) (kind ∷ kinds)

abbrev pub known_kind : Part → List (List ℕ) → Name → Walk (Unit {0})
known_kind part types kind = wrong_if (is_none (number_of kind.text types)) part UnknownType kind.at

abbrev pub known_kinds : Part → List (List ℕ) → List Name → Walk (Unit {0})
known_kinds part types [] = fine tt
known_kinds part types (kind ∷ kinds) = known_kind part types kind >> known_kinds part types kinds

abbrev pub kind_of : Part → List (List ℕ) → Name → Walk ℕ
kind_of part types kind = known_kind part types kind >> fine (type_number types kind.text)

-- the types of a kind, each of which has to be declared
abbrev pub kinds_of : Part → List (List ℕ) → List Name → Walk (List ℕ)
kinds_of part types kinds = known_kinds part types kinds >> fine (kind_numbers types kinds)
