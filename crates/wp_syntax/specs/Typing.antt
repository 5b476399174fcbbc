-- Lists of words with kinds.
--
--   typed = zero or more groups, each one or more words and then - kind; then zero or more words, whose kind is object
--   kind  = NAME | ( either NAME+ )
--
-- Names are words that are not checked further, parameters are variables. An action's parameters differ from each other,
-- and no more than 32 stand at one action or predicate.
use Rattle.std.specs.Prelude.{ℕ, ◌+◌, Bool, true, false, List, [], ◌∷◌, ◌++◌, ◌||◌, not, nat_le, map, length, codes}
use Rattle.std.specs.Str.{bytes_eq}
use Rattle.wp_lex.specs.Trees.{Tree, Trees, Leaf, Branch, End, Then}
use Rattle.wp_syntax.specs.declared.error.ReadKind.TheVariants.{Shape, Duplicate, TooMany}
use Rattle.wp_syntax.specs.declared.records.Name.{Name}
use Rattle.wp_syntax.specs.declared.records.Typed.{Typed}
use Rattle.wp_syntax.specs.declared.typing.Role.{Role}
use Rattle.wp_syntax.specs.declared.typing.Role.TheVariants as roles
use Rattle.wp_syntax.specs.Word.{is_dash, is_name, is_variable}
use Rattle.wp_syntax.specs.Reading.{Read, fine, wrong, wrong_if, ◌>>=◌, ◌>>◌, each}
use Rattle.wp_syntax.specs.Grammar.{name_at}
use Rattle.wp_syntax.specs.Named.{has_named, most_params}

abbrev pub is_empty : {A : Type 0} → List A → Bool
is_empty [] = true
is_empty (x ∷ xs) = false

-- a word with its types
abbrev pub with_kind : List Name → Name → Typed
with_kind kinds name = record { name = name; kinds = kinds }

-- the words of a group, each with the group's types
abbrev pub with_kinds : List Name → List Name → List Typed
with_kinds kinds names = map (with_kind kinds) names

-- a name stands among those that have their kind or those that wait for it
abbrev pub is_typed : List ℕ → List Typed → Bool
is_typed text done = has_named (λ (typed : Typed). typed.name) text done

abbrev pub is_named : List ℕ → List Name → Bool
is_named text names = has_named (λ (name : Name). name) text names

-- one more parameter is within the limit
abbrev pub limit_of : List Typed → List Name → ℕ → Read (Unit {0})
limit_of done group at = wrong_if (nat_le most_params (length done + length group)) (TooMany most_params) at

-- a word of the list, by what the list is
abbrev pub word_of : Role → List Typed → List Name → List ℕ → ℕ → Read (Unit {0})
word_of roles.Names done group text at = wrong_if (not (is_name text)) Shape at
word_of roles.Predicate done group text at =
    wrong_if (not (is_variable text)) Shape at >> limit_of done group at
word_of roles.Action done group text at =
    wrong_if (not (is_variable text)) Shape at
    >> (wrong_if (is_typed text done || is_named text group) Duplicate at
    >> limit_of done group at)

-- a type of an either
abbrev pub kind_of : Tree → Read (List Name)
kind_of (Leaf text at) = wrong_if (not (is_name text)) Shape at >> fine (name_at text at ∷ [])
kind_of (Branch at trees) = wrong Shape at >> fine []

abbrev pub kinds_of : Trees → Read (List Name)
kinds_of trees = each kind_of trees

-- ( either NAME+ ), in the list at a place
abbrev pub either_of : ℕ → Trees → Read (List Name)
either_of at End = wrong Shape at >> fine []
either_of at (Then (Branch i trees) rest) = wrong Shape at >> fine []
either_of at (Then (Leaf word i) End) = wrong Shape at >> fine []
either_of at (Then (Leaf word i) (Then kind kinds)) =
    wrong_if (not (bytes_eq word (codes "either"))) Shape at >> kinds_of (Then kind kinds)

-- The rest of a list, where `done` has its kinds and `group` waits for them; grouped_of is behind a dash.
abbrev mutual
  pub typed_of : Role → List Typed → List Name → Trees → Read (List Typed)
  typed_of role done group End = fine (done ++ with_kinds [] group)
  typed_of role done group (Then (Branch at trees) rest) = wrong Shape at >> typed_of role done group rest
  typed_of role done group (Then (Leaf text at) rest) = elim (is_dash text) [
    | true ↦ wrong_if (is_empty group) Shape at >> grouped_of role done group at rest
    | false ↦ word_of role done group text at >> typed_of role done (group ++ name_at text at ∷ []) rest
  ]

  pub grouped_of : Role → List Typed → List Name → ℕ → Trees → Read (List Typed)
  grouped_of role done group dash End = wrong Shape dash >> fine done
  grouped_of role done group dash (Then (Leaf text at) rest) =
      wrong_if (not (is_name text)) Shape dash >> typed_of role (done ++ with_kinds (name_at text at ∷ []) group) [] rest
  grouped_of role done group dash (Then (Branch at trees) rest) =
      either_of at trees >>= λ kinds. typed_of role (done ++ with_kinds kinds group) [] rest
