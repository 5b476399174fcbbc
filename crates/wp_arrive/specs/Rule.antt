-- The rule of the shared words, kept by each atomic step: a word is the first arrival of all marks at its place.
-- Whoever has all parts knows that no other view has marks, so a word is then the first arrival of its own marks.
use Rattle.std.specs.Prelude.{◌≡◌, ℕ, ◌+◌, ◌-◌, ◌^◌, ◌<◌, List, [], ◌∷◌, ◌++◌, length, slice_index, nat_le}
use Rattle.std.specs.Bool.{MatchBool}
use Rattle.std.specs.Prelude.{Option, None, Some}
use mathlib.Core.Option.{some}
use lib.ListN.{get_elem?}
use Rattle.atomic_table.specs.Table.{State, Me, Step}
use Rattle.wp_arrive.specs.declared.view.Arrival.{Arrival}
use Rattle.wp_arrive.specs.declared.view.View.{View}
use Rattle.wp_arrive.specs.FirstArrival.{mark, first}
use Rattle.wp_arrive.specs.Seen.{PassView}

abbrev pub view : ℕ → List Arrival → View
view parts marks = record { parts = parts; marks = marks }

-- the view that a table begins with: it has all parts, and the marks of another table's pass, if any
abbrev pub whole : List Arrival → View
whole marks = view (2 ^ 32) marks

abbrev pub begun : Option PassView → View
begun None = whole []
begun (Some pass) = whole pass.marks

-- the view that a joined pass leaves behind
abbrev pub spent : View
spent = view 0 []

-- a split gives one part away, without marks
abbrev pub one_less : View → View
one_less v = view (v.parts - 1) v.marks

abbrev pub one_part : View
one_part = view 1 []

-- a join takes marks and parts over
abbrev pub joined : View → View → View
joined v w = view (v.parts + w.parts) (v.marks ++ w.marks)

abbrev pub marks_of : List View → List Arrival
marks_of [] = []
marks_of (v ∷ views) = v.marks ++ marks_of views

abbrev pub parts_of : List View → ℕ
parts_of [] = 0
parts_of (v ∷ views) = v.parts + parts_of views

-- a view without a part has no marks
abbrev pub IdleIsEmpty : List View → Type 0
IdleIsEmpty views = (seat : ℕ) (v : View) → get_elem? views seat ≡ some v → v.parts ≡ 0 → v.marks ≡ []

pub record Keeps (count : ℕ) (s : State ℕ View) : Type 0 where
  pub words : length s.words ≡ count
  pub least : (t : ℕ) → t < count → slice_index s.words t ≡ first (marks_of s.views) t
  pub parts : parts_of s.views ≡ 2 ^ 32
  pub idle : IdleIsEmpty s.views

-- so many words, each of them the first arrival at its place
pub record AreFirsts (marks : List Arrival) (count : ℕ) (words : List ℕ) : Type 0 where
  pub size : length words ≡ count
  pub least : (t : ℕ) → t < count → slice_index words t ≡ first marks t

-- a mark adds its place and number to the marks of the view
abbrev pub Gains : Step ℕ → Me ℕ View → ℕ → Me ℕ View → Type 0
Gains s me found after = after ≡ (view me.0.parts (me.0.marks ++ mark s.word s.first ∷ []), me.1)

-- the number of the latest mark
abbrev pub latest : List Arrival → ℕ
latest [] = 2 ^ 64 - 1
latest (m ∷ []) = m.number
latest (m ∷ next ∷ marks) = latest (next ∷ marks)

-- a look before a mark: where the word is not above the number of the latest mark, one more mark of that number would leave it
-- as it is, and the view has that mark too; else nothing changes
abbrev pub Repeats : Step ℕ → Me ℕ View → ℕ → Me ℕ View → Type 0
Repeats s me found after = MatchBool (nat_le found (latest me.0.marks))
    (after ≡ (view me.0.parts (me.0.marks ++ mark s.word (latest me.0.marks) ∷ []), me.1))
    (after ≡ me)

-- a look changes nothing, and with all parts it finds the first arrival of the view's own marks
abbrev pub Reads : Step ℕ → Me ℕ View → ℕ → Me ℕ View → Type 0
Reads s me found after = (after ≡ me) × (me.0.parts ≡ 2 ^ 32 → found ≡ first me.0.marks s.word)
