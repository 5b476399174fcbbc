-- The lexical faults of a text. Each place of the text has a fault or none, by what stands there and how many lists were opened
-- and closed before it; the end of the text comes after all places. The fault of the text is the one of least place.
-- A PDDL text is one list. A plan file is any number of lists, with labels and durations between them.
-- At most 64 lists stand open at once: that limit is ours.
use Rattle.std.specs.Prelude.{◌⊎◌, MatchOption, ℕ, ◌-◌, ◌<◌, ◌≡◌, ◌==◌, Bool, false, not, ◌&&◌, ◌||◌, if◌then◌else◌, Option, None, Some, List, [], ◌∷◌, length, map, drop}
use Rattle.std.specs.List.{range_with_len}
use Rattle.wp_lex.specs.declared.error.LexError.{LexError}
use Rattle.wp_lex.specs.declared.error.LexError.TheVariants.{BadByte, Unopened, Unclosed, Trailing, TooDeep, Empty, Memory}
use Rattle.wp_lex.specs.declared.place.Source.{Source}
use Rattle.wp_lex.specs.declared.place.Source.TheVariants.{Pddl, Plan}
use Rattle.wp_lex.specs.declared.place.Class.{Class}
use Rattle.wp_lex.specs.declared.place.Class.TheVariants.{Letter, Opens, Closes, Blank, Bad}
use Rattle.wp_lex.specs.declared.place.Place.{Place}
use Rattle.wp_lex.specs.Words.{class_at, word_of}
use Rattle.wp_lex.specs.Labels.{is_label, is_duration}
use Rattle.wp_lex.specs.Places.{place_at, depth_of, is_outside}

-- whether the one list of a PDDL text was closed
abbrev pub is_over : Source → Place → Bool
is_over Pddl place = is_outside place && not (place.opened == 0)
is_over Plan place = false

-- a word between the lists of a plan file that means nothing
abbrev pub is_skipped : Source → Place → List ℕ → Bool
is_skipped Pddl place word = false
is_skipped Plan place word = is_outside place && (is_label word || is_duration word)

-- of a word or a closing bracket outside all lists
abbrev pub outside_fault : Source → Place → LexError
outside_fault source place = if is_over source place then Trailing place.at else Unopened place.at

abbrev pub opening_fault : Source → Place → Option LexError
opening_fault source place =
    if is_over source place then Some (Trailing place.at)
    else (if depth_of place == 64 then Some (TooDeep place.at) else None)

abbrev pub closing_fault : Source → Place → Option LexError
closing_fault source place = if is_outside place then Some (outside_fault source place) else None

-- of the first byte of a word
abbrev pub word_fault : Source → Place → List ℕ → Option LexError
word_fault source place word =
    if is_outside place && not (is_skipped source place word) then Some (outside_fault source place) else None

-- by what stands at a place, with the text from there
abbrev pub fault_by : Source → Class → Place → List ℕ → Option LexError
fault_by source Letter place rest = if place.continues then None else word_fault source place (word_of rest)
fault_by source Opens place rest = opening_fault source place
fault_by source Closes place rest = closing_fault source place
fault_by source Blank place rest = None
fault_by source Bad place rest = Some (BadByte place.at)

abbrev pub fault_at : Source → List ℕ → ℕ → Option LexError
fault_at source text i = fault_by source (class_at text i) (place_at text i) (drop i text)

-- whether there is no list where there has to be one
abbrev pub is_missing : Source → Place → Bool
is_missing Pddl place = place.opened == 0
is_missing Plan place = false

abbrev pub fault_at_end : Source → Place → Option LexError
fault_at_end source place =
    if not (is_outside place) then Some Unclosed else (if is_missing source place then Some Empty else None)

-- the first fault of a list of places, or that of the end
abbrev pub first_of : List (Option LexError) → Option LexError → Option LexError
first_of [] last = last
first_of (None ∷ faults) last = first_of faults last
first_of (Some fault ∷ faults) last = Some fault

-- the fault from a place on
abbrev pub fault_from : Source → List ℕ → ℕ → Option LexError
fault_from source text i =
    first_of (map (fault_at source text) (range_with_len i (length text - i)))
    (fault_at_end source (place_at text (length text)))

-- the fault of a PDDL text, and of a plan file
abbrev pub fault_of : List ℕ → Option LexError
fault_of text = fault_from Pddl text 0

abbrev pub plan_fault_of : List ℕ → Option LexError
plan_fault_of text = fault_from Plan text 0

-- want of memory, or the fault that there is
abbrev pub Explains : LexError → Option LexError → Type 0
Explains Memory fault = Unit {0}
Explains error fault = fault ≡ Some error

-- a fault that a plan file may have
abbrev pub IsPlanFault : LexError → Type 0
IsPlanFault (Trailing at) = ⊥
IsPlanFault Empty = ⊥
IsPlanFault error = Unit {0}

-- the fault is that of a place, and no place before has one, or that of the end, and no place has one
abbrev pub NoneBefore : Source → List ℕ → ℕ → Type 0
NoneBefore source text i = (k : ℕ) → k < i → fault_at source text k ≡ None

abbrev pub IsFirstFault : Source → List ℕ → LexError → Type 0
IsFirstFault source text error =
    ((i : ℕ) × (i < length text) × (fault_at source text i ≡ Some error) × NoneBefore source text i)
    ⊎ (NoneBefore source text (length text) × (fault_at_end source (place_at text (length text)) ≡ Some error))

abbrev pub HasNoFault : Source → List ℕ → Type 0
HasNoFault source text =
    NoneBefore source text (length text) × (fault_at_end source (place_at text (length text)) ≡ None)

-- the fault of a text is the one of least place, where the end comes after all places
abbrev pub FaultsAreFirst : Type 0
FaultsAreFirst = (source : Source) (text : List ℕ)
    → MatchOption (fault_from source text 0) (HasNoFault source text) (IsFirstFault source text)
