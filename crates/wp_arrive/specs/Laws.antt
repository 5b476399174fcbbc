-- What holds of first arrivals, whatever the marks are.
use Rattle.std.specs.Prelude.{◌≡◌, ℕ, ◌-◌, ◌^◌, ◌<◌, ◌≤◌, List, [], ◌∷◌, replicate, slice_index, slice_set, min, Contains, IsPermutation}
use mathlib.Core.Option.{some}
use lib.ListN.{get_elem?}
use Rattle.atomic_table.specs.Table.{State}
use Rattle.wp_arrive.specs.declared.view.Arrival.{Arrival}
use Rattle.wp_arrive.specs.declared.view.View.{View}
use Rattle.wp_arrive.specs.FirstArrival.{mark, first}
use Rattle.wp_arrive.specs.Rule.{Keeps, marks_of}

-- a word takes the least of what it has and what arrives
abbrev pub arrive : List ℕ → Arrival → List ℕ
arrive words m = slice_set words m.place (min (slice_index words m.place) m.number)

abbrev pub arrive_all : List ℕ → List Arrival → List ℕ
arrive_all words [] = words
arrive_all words (m ∷ marks) = arrive_all (arrive words m) marks

abbrev pub blank_words : ℕ → List ℕ
blank_words count = replicate count (2 ^ 64 - 1)

-- the first arrival is the least number among the marks at its place, and 2^64 - 1 where there is none below that
pub record IsLeast (marks : List Arrival) (place n : ℕ) : Type 0 where
  pub below : (k : ℕ) → Contains marks (mark place k) → n ≤ k
  pub among : n < 2 ^ 64 - 1 → Contains marks (mark place n)
  pub most : n ≤ 2 ^ 64 - 1

abbrev pub FirstIsLeast : Type 0
FirstIsLeast = (marks : List Arrival) (place : ℕ) → IsLeast marks place (first marks place)

-- taken one after another, the marks leave each word at the first arrival
abbrev pub EndsAsFirst : Type 0
EndsAsFirst = (count : ℕ) (marks : List Arrival) (place : ℕ) → place < count → slice_index (arrive_all (blank_words count) marks) place ≡ first marks place

-- and they leave the same words in any other order
abbrev pub AnyOrder : Type 0
AnyOrder = (count : ℕ) (marks others : List Arrival) → IsPermutation marks others → arrive_all (blank_words count) others ≡ arrive_all (blank_words count) marks

-- whenever the words are at rest, a view with all parts has every mark that was made, each once
abbrev pub AllPartsHaveAllMarks : Type 0
AllPartsHaveAllMarks = (count : ℕ) (s : State ℕ View) → Keeps count s → (seat : ℕ) (v : View) → get_elem? s.views seat ≡ some v →
    v.parts ≡ 2 ^ 32 → marks_of s.views ≡ v.marks
