-- Conditions and goals.
--
--   cond = ( ) | ( and cond* ) | atom | ( = TERM TERM ) | ( not ( = TERM TERM ) )
--   goal = ( ) | ( and goal* ) | atom
--   atom = ( NAME TERM* )
use Rattle.std.specs.Prelude.{ℕ, Bool, true, false, List, [], ◌∷◌, ◌++◌, not, Option, Some, None, codes}
use Rattle.std.specs.Str.{bytes_eq}
use Rattle.wp_lex.specs.Trees.{Tree, Trees, Leaf, Branch, End, Then}
use Rattle.wp_syntax.specs.declared.error.ReadKind.TheVariants.{Shape, Unsupported}
use Rattle.wp_syntax.specs.declared.records.Name.{Name}
use Rattle.wp_syntax.specs.declared.records.AtomText.{AtomText}
use Rattle.wp_syntax.specs.declared.records.Cond.{Cond}
use Rattle.wp_syntax.specs.declared.records.Cond.TheVariants.{Atom, Same, Differ}
use Rattle.wp_syntax.specs.declared.word.Head.TheVariants as heads
use Rattle.wp_syntax.specs.Word.{is_term}
use Rattle.wp_syntax.specs.Heads.{head_of}
use Rattle.wp_syntax.specs.Reading.{Read, fine, wrong, wrong_if, ◌>>=◌, ◌>>◌, each}

abbrev pub name_at : List ℕ → ℕ → Name
name_at text at = record { text = text; at = at }

abbrev pub place_of : Tree → ℕ
place_of (Leaf text at) = at
place_of (Branch at trees) = at

-- X = ( ) | ( and X* ) | PLAIN, where PLAIN begins with another word: it has the place of its list, that word and its place, and what
-- stands behind it. Conjunctions within one are flattened.
abbrev mutual
  pub conjunction_of : {A : Type 0} → (ℕ → List ℕ → ℕ → Trees → Read (List A)) → Tree → Read (List A)
  conjunction_of plain (Leaf text at) = wrong Shape at >> fine []
  conjunction_of plain (Branch at End) = fine []
  conjunction_of plain (Branch at (Then (Branch i trees) rest)) = wrong Shape at >> fine []
  conjunction_of plain (Branch at (Then (Leaf head i) rest)) = elim (bytes_eq head (codes "and")) [
    | true ↦ conjuncts_of plain rest
    | false ↦ plain at head i rest
  ]

  pub conjuncts_of : {A : Type 0} → (ℕ → List ℕ → ℕ → Trees → Read (List A)) → Trees → Read (List A)
  conjuncts_of plain End = fine []
  conjuncts_of plain (Then tree rest) =
      conjunction_of plain tree >>= λ front. conjuncts_of plain rest >>= λ back. fine (front ++ back)

-- a name or a variable
abbrev pub term_of : Tree → Read (List Name)
term_of (Leaf text at) = wrong_if (not (is_term text)) Shape at >> fine (name_at text at ∷ [])
term_of (Branch at trees) = wrong Shape at >> fine []

-- the atom of a predicate's name and the terms behind it
abbrev pub atom_of : List ℕ → ℕ → Trees → Read AtomText
atom_of pred at terms = each term_of terms >>= λ args. fine (record { pred = name_at pred at; args = args })

abbrev pub atom_cond_of : List ℕ → ℕ → Trees → Read (List Cond)
atom_cond_of pred at terms = atom_of pred at terms >>= λ atom. fine (Atom atom ∷ [])

-- = or, under a not, its opposite
abbrev pub equation : Bool → Name → Name → ℕ → Cond
equation true a b at = Same a b at
equation false a b at = Differ a b at

-- one side of an equality
abbrev pub side_of : List ℕ → ℕ → Read Name
side_of text at = wrong_if (not (is_term text)) Shape at >> fine (name_at text at)

-- The two sides of an equality whose = stands at a place.
abbrev pub sides_of : Bool → List ℕ → ℕ → Tree → Tree → Read Cond
sides_of same word at (Leaf first i) (Leaf second j) =
    side_of first i >>= λ a. side_of second j >>= λ b. fine (equation same a b at)
sides_of same word at first second = wrong (Unsupported word) at >> fine (equation same (name_at [] at) (name_at [] at) at)

abbrev pub equality_of : Bool → List ℕ → ℕ → Trees → Read (List Cond)
equality_of same word at (Then first (Then second End)) =
    sides_of same word at first second >>= λ cond. fine (cond ∷ [])
equality_of same word at trees = wrong Shape at >> fine []

-- a list's first word, its place, and what stands behind it
pub record Headed : Type 0 where
  pub word : List ℕ
  pub at : ℕ
  pub rest : Trees

-- the one list that the trees are, where it begins with a word
abbrev pub lone_of : Trees → Option Headed
lone_of (Then (Branch i (Then (Leaf word at) rest)) End) = Some (record { word = word; at = at; rest = rest })
lone_of trees = None

-- what stands behind a not, where that is an equality and nothing else
abbrev pub negation_of : List ℕ → ℕ → Trees → Read (List Cond)
negation_of word at trees = elim (lone_of trees) [
  | Some lone ↦ elim (head_of lone.word) [
    | heads.Equal ↦ equality_of false lone.word lone.at lone.rest
    | _ ↦ wrong (Unsupported word) at >> fine []
  ]
  | None ↦ wrong (Unsupported word) at >> fine []
]

-- a condition that is no conjunction, with the place of its list, its first word and that word's place
abbrev pub plain_cond_of : ℕ → List ℕ → ℕ → Trees → Read (List Cond)
plain_cond_of at head i rest = elim (head_of head) [
  | heads.Not ↦ negation_of head i rest
  | heads.Equal ↦ equality_of true head i rest
  | heads.Name ↦ atom_cond_of head i rest
  | heads.Other ↦ wrong Shape at >> fine []
  | _ ↦ wrong (Unsupported head) i >> fine []
]

abbrev pub cond_of : Tree → Read (List Cond)
cond_of tree = conjunction_of plain_cond_of tree

-- a goal that is no conjunction
abbrev pub plain_goal_of : ℕ → List ℕ → ℕ → Trees → Read (List AtomText)
plain_goal_of at head i rest = elim (head_of head) [
  | heads.Name ↦ atom_of head i rest >>= λ atom. fine (atom ∷ [])
  | heads.Other ↦ wrong Shape at >> fine []
  | _ ↦ wrong (Unsupported head) i >> fine []
]

abbrev pub goal_of : Tree → Read (List AtomText)
goal_of tree = conjunction_of plain_goal_of tree
