-- What a typed list of words has: words, each with kinds that are words. This is so of what is faulty, too.
use Rattle.std.proofs.Common.{ℕ, true, false, List, [], ◌∷◌, ◌++◌}
use Rattle.std.specs.Prelude.{All}
use Rattle.std.proofs.lemmas.List.Elements.{All-nil, All-cons, All-push, All-append, All-map, All-weaker}
use Rattle.wp_lex.specs.Words.{IsWord}
use Rattle.wp_lex.specs.Trees.{Tree, Trees, Leaf, Branch, End, Then}
use Rattle.wp_lex.specs.Leaves.{IsOfWords, AreOfWords}
use Rattle.wp_syntax.specs.declared.error.ReadKind.TheVariants.{Shape}
use Rattle.wp_syntax.specs.declared.records.Name.{Name}
use Rattle.wp_syntax.specs.declared.records.Typed.{Typed}
use Rattle.wp_syntax.specs.declared.typing.Role.{Role}
use Rattle.wp_syntax.specs.Word.{is_dash}
use Rattle.wp_syntax.specs.Reading.{Read, wrong_if, each, ◌>>◌}
use Rattle.wp_syntax.specs.Grammar.{name_at}
use Rattle.wp_syntax.specs.Typing.{is_empty, with_kind, with_kinds, word_of, kind_of, either_of, typed_of, grouped_of}
use Rattle.wp_syntax.specs.Laws.{IsWorded, IsTypedByWords}

one_name : (text : List ℕ) (at : ℕ) → IsWord text → All IsWorded (name_at text at ∷ [])
one_name text at word = All-cons IsWorded (name_at text at) [] word (All-nil IsWorded)

kind_words : (tree : Tree) → IsOfWords tree → All IsWorded (kind_of tree).value
kind_words (Leaf text at) word = one_name text at word
kind_words (Branch at trees) words = All-nil IsWorded

each_kind_words : (trees : Trees) → AreOfWords trees → All IsWorded (each kind_of trees).value
each_kind_words End words = All-nil IsWorded
each_kind_words (Then tree rest) (word, words) =
    All-append IsWorded (kind_of tree).value (each kind_of rest).value (kind_words tree word) (each_kind_words rest words)

either_words : (at : ℕ) (trees : Trees) → AreOfWords trees → All IsWorded (either_of at trees).value
either_words at End words = All-nil IsWorded
either_words at (Then (Branch i trees) rest) words = All-nil IsWorded
either_words at (Then (Leaf word i) End) words = All-nil IsWorded
either_words at (Then (Leaf word i) (Then kind kinds)) (head, words) = each_kind_words (Then kind kinds) words

kinds_given : (kinds group : List Name) → All IsWorded kinds → All IsWorded group → All IsTypedByWords (with_kinds kinds group)
kinds_given kinds group given names =
    All-map IsTypedByWords (with_kind kinds) group
    (All-weaker IsWorded (λ (name : Name). IsTypedByWords (with_kind kinds name))
    (λ name word. record { name = word; kinds = given }) group names)

more_done : (done : List Typed) (kinds group : List Name) → All IsTypedByWords done → All IsWorded kinds → All IsWorded group
    → All IsTypedByWords (done ++ with_kinds kinds group)
more_done done kinds group before given names =
    All-append IsTypedByWords done (with_kinds kinds group) before (kinds_given kinds group given names)

mutual
  pub typed_words : (role : Role) (done : List Typed) (group : List Name) (trees : Trees) → All IsTypedByWords done
      → All IsWorded group → AreOfWords trees → All IsTypedByWords (typed_of role done group trees).value
  typed_words role done group End before names words = more_done done [] group before (All-nil IsWorded) names
  typed_words role done group (Then (Branch at trees) rest) before names (inner, words) =
      typed_words role done group rest before names words
  typed_words role done group (Then (Leaf text at) rest) before names (word, words) =
      elim (is_dash text) as (λ k. let r : Read (List Typed) = elim k [
        | true ↦ wrong_if (is_empty group) Shape at >> grouped_of role done group at rest
        | false ↦ word_of role done group text at >> typed_of role done (group ++ name_at text at ∷ []) rest
      ] in All IsTypedByWords r.value) [
        | true ↦ grouped_words role done group at rest before names words
        | false ↦ typed_words role done (group ++ name_at text at ∷ []) rest before
            (All-push IsWorded group (name_at text at) names word) words
      ]

  grouped_words : (role : Role) (done : List Typed) (group : List Name) (dash : ℕ) (trees : Trees) → All IsTypedByWords done
      → All IsWorded group → AreOfWords trees → All IsTypedByWords (grouped_of role done group dash trees).value
  grouped_words role done group dash End before names words = before
  grouped_words role done group dash (Then (Leaf text at) rest) before names (word, words) =
      typed_words role (done ++ with_kinds (name_at text at ∷ []) group) [] rest
      (more_done done (name_at text at ∷ []) group before (one_name text at word) names) (All-nil IsWorded) words
  grouped_words role done group dash (Then (Branch at trees) rest) before names (inner, words) =
      typed_words role (done ++ with_kinds (either_of at trees).value group) [] rest
      (more_done done (either_of at trees).value group before (either_words at trees inner) names) (All-nil IsWorded) words

-- a whole list
pub list_words : (role : Role) (trees : Trees) → AreOfWords trees → All IsTypedByWords (typed_of role [] [] trees).value
list_words role trees words = typed_words role [] [] trees (All-nil IsTypedByWords) (All-nil IsWorded) words
