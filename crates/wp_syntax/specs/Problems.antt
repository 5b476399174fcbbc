-- Problems.
--
--   problem = ( define ( problem NAME ) item* )
--   item    = ( :domain NAME ) | ( :requirements WORD* ) | ( :objects typed-names ) | ( :init init* ) | ( :goal goal )
--
-- Items come in any order, once at most; :init and :goal must be there, which is asked after all else.
use Rattle.std.specs.Prelude.{ℕ, true, false, List, [], Some, None, is_some, is_none, unwrap_or, codes}
use Rattle.wp_lex.specs.Trees.{Tree, Trees, Leaf, Branch, End, Then}
use Rattle.wp_syntax.specs.declared.error.ReadKind.TheVariants.{Shape, Unsupported, Duplicate}
use Rattle.wp_syntax.specs.declared.records.Name.{Name}
use Rattle.wp_syntax.specs.declared.records.AtomText.{AtomText}
use Rattle.wp_syntax.specs.declared.records.Problem.{Problem}
use Rattle.wp_syntax.specs.declared.problem.Entries.{Entries}
use Rattle.wp_syntax.specs.declared.typing.Role.TheVariants as roles
use Rattle.wp_syntax.specs.declared.word.ItemHead.TheVariants as item_heads
use Rattle.wp_syntax.specs.Heads.{item_head_of}
use Rattle.wp_syntax.specs.Reading.{Read, fine, wrong, wrong_if, ◌>>=◌, ◌>>◌, each}
use Rattle.wp_syntax.specs.Grammar.{goal_of}
use Rattle.wp_syntax.specs.Items.{literals_in}
use Rattle.wp_syntax.specs.Effects.{fact_of}
use Rattle.wp_syntax.specs.Typing.{typed_of}
use Rattle.wp_syntax.specs.Outline.{outline_of, title_of, flags_of, only_name_of, end_of}

abbrev pub no_entries : Entries
no_entries = record { domain = false; requirements = false; objects = None; init = None; goal = None }

-- A missing item is a fault before a second one is.
abbrev pub domain_name_of : Entries → ℕ → Trees → Read Entries
domain_name_of so_far at End = wrong Shape at >> fine so_far
domain_name_of so_far at (Then tree rest) = wrong_if so_far.domain Duplicate at
    >> (only_name_of at (Then tree rest) >>= λ name. fine (record so_far { domain = true }))

-- one goal and nothing else
abbrev pub only_goal_of : Tree → Trees → Read (List AtomText)
only_goal_of tree rest = goal_of tree >>= λ goal. end_of rest >> fine goal

abbrev pub goal_entry_of : Entries → ℕ → Trees → Read Entries
goal_entry_of so_far at End = wrong Shape at >> fine so_far
goal_entry_of so_far at (Then tree rest) = wrong_if (is_some so_far.goal) Duplicate at
    >> (only_goal_of tree rest >>= λ goal. fine (record so_far { goal = Some goal }))

-- an item by its word, with the place of its list and that of its word
abbrev pub headed_entry_of : Entries → ℕ → List ℕ → ℕ → Trees → Read Entries
headed_entry_of so_far at head i rest = elim (item_head_of head) [
  | item_heads.Domain ↦ domain_name_of so_far at rest
  | item_heads.Requirements ↦ wrong_if so_far.requirements Duplicate at
      >> (flags_of rest >> fine (record so_far { requirements = true }))
  | item_heads.Objects ↦ wrong_if (is_some so_far.objects) Duplicate at
      >> (typed_of roles.Names [] [] rest >>= λ objects. fine (record so_far { objects = Some objects }))
  | item_heads.Init ↦ wrong_if (is_some so_far.init) Duplicate at
      >> (each fact_of rest >>= λ init. fine (record so_far { init = Some init }))
  | item_heads.Goal ↦ goal_entry_of so_far at rest
  | item_heads.Unsupported ↦ wrong (Unsupported head) i >> fine so_far
  | item_heads.Other ↦ wrong Shape at >> fine so_far
]

abbrev pub entry_of : Entries → Tree → Read Entries
entry_of so_far (Leaf text at) = wrong Shape at >> fine so_far
entry_of so_far (Branch at End) = wrong Shape at >> fine so_far
entry_of so_far (Branch at (Then (Branch i trees) rest)) = wrong Shape at >> fine so_far
entry_of so_far (Branch at (Then (Leaf head i) rest)) = headed_entry_of so_far at head i rest

abbrev pub entries_of : Entries → Trees → Read Entries
entries_of so_far End = fine so_far
entries_of so_far (Then tree rest) = entry_of so_far tree >>= λ new. entries_of new rest

-- what must be there, in the list at a place
abbrev pub complete_of : ℕ → Entries → Read (Unit {0})
complete_of at entries = wrong_if (is_none entries.init) Shape at >> wrong_if (is_none entries.goal) Shape at

-- all items of a problem, in the list at a place
abbrev pub complete_entries_of : ℕ → Trees → Read Entries
complete_entries_of at trees = entries_of no_entries trees >>= λ entries. complete_of at entries >> fine entries

-- a problem's name and its items
abbrev pub listed_of : Trees → Read (Name × Entries)
listed_of trees = outline_of trees >>= λ outline. title_of (codes "problem") outline.title >>= λ name.
    complete_entries_of outline.at outline.rest >>= λ entries. fine (name, entries)

abbrev pub problem_from : Name → Entries → Problem
problem_from name entries = record {
  name = name;
  objects = unwrap_or entries.objects [];
  init = literals_in (unwrap_or entries.init []);
  goal = unwrap_or entries.goal [];
}

abbrev pub problem_of : Trees → Read Problem
problem_of trees = listed_of trees >>= λ read. fine (problem_from read.0 read.1)
