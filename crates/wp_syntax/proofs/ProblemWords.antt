-- The objects that a problem declares are words, each with kinds that are words.
use Rattle.std.proofs.Common.{◌≡◌, ℕ, true, List, [], Some, subst}
use Rattle.std.specs.Prelude.{All, unwrap_or, is_some}
use Rattle.std.proofs.lemmas.List.Elements.{All-nil}
use Rattle.wp_lex.specs.Trees.{Tree, Trees, Leaf, Branch, End, Then}
use Rattle.wp_lex.specs.Leaves.{IsOfWords, AreOfWords}
use Rattle.wp_syntax.specs.declared.error.ReadKind.TheVariants.{Shape, Unsupported, Duplicate}
use Rattle.wp_syntax.specs.declared.records.Problem.{Problem}
use Rattle.wp_syntax.specs.declared.problem.Entries.{Entries}
use Rattle.wp_syntax.specs.declared.typing.Role.TheVariants as roles
use Rattle.wp_syntax.specs.declared.word.ItemHead.TheVariants as item_heads
use Rattle.wp_syntax.specs.Heads.{item_head_of}
use Rattle.wp_syntax.specs.Reading.{Read, fine, wrong, wrong_if, each, ◌>>=◌, ◌>>◌}
use Rattle.wp_syntax.specs.Typing.{typed_of}
use Rattle.wp_syntax.specs.Effects.{fact_of}
use Rattle.wp_syntax.specs.Outline.{outline_of, flags_of}
use Rattle.wp_syntax.specs.Problems.{no_entries, domain_name_of, goal_entry_of, headed_entry_of, entry_of, entries_of, problem_of}
use Rattle.wp_syntax.specs.Laws.{IsTypedByWords, IsNamedProblem}
use Rattle.wp_syntax.proofs.TypedWords.{list_words}
use Rattle.wp_syntax.proofs.DomainWords.{outline_words}

abbrev IsNamed : Entries → Type 0
IsNamed entries = All IsTypedByWords (unwrap_or entries.objects [])

domain_name_words : (so_far : Entries) (at : ℕ) (trees : Trees) → IsNamed so_far → IsNamed (domain_name_of so_far at trees).value
domain_name_words so_far at End named = named
domain_name_words so_far at (Then tree rest) named = named

goal_words : (so_far : Entries) (at : ℕ) (trees : Trees) → IsNamed so_far → IsNamed (goal_entry_of so_far at trees).value
goal_words so_far at End named = named
goal_words so_far at (Then tree rest) named = named

headed_entry_words : (so_far : Entries) (at : ℕ) (head : List ℕ) (i : ℕ) (rest : Trees) → IsNamed so_far → AreOfWords rest
    → IsNamed (headed_entry_of so_far at head i rest).value
headed_entry_words so_far at head i rest named words =
    elim (item_head_of head) as (λ k. let r : Read Entries = elim k [
      | item_heads.Domain ↦ domain_name_of so_far at rest
      | item_heads.Requirements ↦ wrong_if so_far.requirements Duplicate at
          >> (flags_of rest >> fine (record so_far { requirements = true }))
      | item_heads.Objects ↦ wrong_if (is_some so_far.objects) Duplicate at
          >> (typed_of roles.Names [] [] rest >>= λ objects. fine (record so_far { objects = Some objects }))
      | item_heads.Init ↦ wrong_if (is_some so_far.init) Duplicate at
          >> (each fact_of rest >>= λ init. fine (record so_far { init = Some init }))
      | item_heads.Goal ↦ goal_entry_of so_far at rest
      | item_heads.Unsupported ↦ wrong (Unsupported head) i >> fine so_far
      | item_heads.Other ↦ wrong Shape at >> fine so_far
    ] in IsNamed r.value) [
      | item_heads.Domain ↦ domain_name_words so_far at rest named
      | item_heads.Requirements ↦ named
      | item_heads.Objects ↦ list_words roles.Names rest words
      | item_heads.Init ↦ named
      | item_heads.Goal ↦ goal_words so_far at rest named
      | item_heads.Unsupported ↦ named
      | item_heads.Other ↦ named
    ]

entry_words : (so_far : Entries) (tree : Tree) → IsNamed so_far → IsOfWords tree → IsNamed (entry_of so_far tree).value
entry_words so_far (Leaf text at) named words = named
entry_words so_far (Branch at End) named words = named
entry_words so_far (Branch at (Then (Branch i trees) rest)) named words = named
entry_words so_far (Branch at (Then (Leaf head i) rest)) named (word, words) = headed_entry_words so_far at head i rest named words

entries_words : (so_far : Entries) (trees : Trees) → IsNamed so_far → AreOfWords trees → IsNamed (entries_of so_far trees).value
entries_words so_far End named words = named
entries_words so_far (Then tree rest) named (word, words) =
    entries_words (entry_of so_far tree).value rest (entry_words so_far tree named word) words

problem_words : (trees : Trees) → AreOfWords trees → IsNamedProblem (problem_of trees).value
problem_words trees words =
    entries_words no_entries (outline_of trees).value.rest (All-nil IsTypedByWords) (outline_words trees words)

pub problem_named : (trees : Trees) (problem : Problem) → AreOfWords trees → problem_of trees ≡ fine problem → IsNamedProblem problem
problem_named trees problem words e =
    subst (λ (r : Read Problem). IsNamedProblem r.value) e (problem_words trees words)
