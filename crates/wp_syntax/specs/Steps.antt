-- What a step of a reader does to what was read so far, and to the items that are left.
use Rattle.std.specs.Prelude.{◌≡◌, ℕ, List, [], ◌++◌, Some, Result, Ok, Err}
use Rattle.std.specs.Borrow.{Bor}
use Rattle.wp_lex.specs.Trees.{Trees, trees_of}
use Rattle.wp_lex.specs.Node.{tree_of}
use Rattle.wp_lex.specs.declared.item.Item.{Item}
use Rattle.wp_syntax.specs.declared.error.Fault.{Fault}
use Rattle.wp_syntax.specs.declared.error.ReadError.{ReadError}
use Rattle.wp_syntax.specs.declared.outline.Outline.{Outline}
use Rattle.wp_syntax.specs.declared.records.Name.{Name}
use Rattle.wp_syntax.specs.declared.records.Typed.{Typed}
use Rattle.wp_syntax.specs.declared.typing.TypedSoFar.{TypedSoFar}
use Rattle.wp_syntax.specs.Reading.{Read, fine, first, Fails}
use Rattle.wp_syntax.specs.Outline.{Frame}
use Rattle.wp_syntax.specs.Typing.{with_kinds, typed_of, grouped_of}

-- A call returns the outline of a text, or the first fault.
abbrev pub Outlines : Result Outline Fault → Read Frame → Type 0
Outlines (Ok x) read = read ≡ fine (record { at = x.at; title = tree_of x.title; rest = trees_of x.rest.now })
Outlines (Err fault) read = first read.faults ≡ Some fault

-- A step of a loop changes a state and says which items are left: what is left from there on is what was left before.
abbrev pub GoesOn : {S A : Type 0} → (S → Trees → Read A) → Result (Bor (List Item)) ReadError → S → S → Trees → Type 0
GoesOn reads (Ok rest) old new trees = reads old trees ≡ reads new (trees_of rest.now)
GoesOn reads (Err e) old new trees = Fails e (reads old trees).faults

-- the rest of a list, by what was read of it; grouped_from is behind a dash
abbrev pub typed_from : TypedSoFar → Trees → Read (List Typed)
typed_from so_far trees = typed_of so_far.role so_far.done.items so_far.group.items trees

abbrev pub grouped_from : ℕ → TypedSoFar → Trees → Read (List Typed)
grouped_from dash so_far trees = grouped_of so_far.role so_far.done.items so_far.group.items dash trees

-- The kind behind a dash is read: what is left gives what there was.
abbrev pub GoesBehind : ℕ → Result (Bor (List Item)) ReadError → TypedSoFar → TypedSoFar → Trees → Type 0
GoesBehind dash (Ok rest) old new trees = grouped_from dash old trees ≡ typed_from new (trees_of rest.now)
GoesBehind dash (Err e) old new trees = Fails e (grouped_from dash old trees).faults

-- The group has these kinds.
pub record GivesKinds (kinds : List Name) (old new : TypedSoFar) : Type 0 where
  pub role : new.role ≡ old.role
  pub done : new.done.items ≡ old.done.items ++ with_kinds kinds old.group.items
  pub group : new.group.items ≡ []
