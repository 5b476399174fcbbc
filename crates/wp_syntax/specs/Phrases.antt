-- The grammar as a relation of a tree and what it states, a constructor for each form. It says nothing of faults: laws say that a tree
-- has a record without one exactly where the relation holds. ( WORD .. ) is `Branch at (Then (Leaf WORD i) ..)`.
--
--   typed  = zero or more groups, each one or more words and then - kind; then zero or more words, whose kind is object
--   kind   = NAME | ( either NAME+ )
--   cond   = ( ) | ( and cond* ) | atom | ( = TERM TERM ) | ( not ( = TERM TERM ) )
--   goal   = ( ) | ( and goal* ) | atom
--   effect = ( ) | ( and effect* ) | atom | ( not atom )
--   init   = atom | ( not atom )
use Rattle.std.specs.Prelude.{◌≡◌, ◌≤◌, ℕ, Bool, true, false, List, [], ◌∷◌, ◌++◌, ◌&&◌, not, length, map, codes}
use Rattle.std.specs.List.{AllByRecursion, IsDistinct}
use Rattle.std.specs.Str.{bytes_eq}
use Rattle.wp_lex.specs.Trees.{Tree, Trees, Leaf, Branch, End, Then}
use Rattle.wp_syntax.specs.declared.records.Name.{Name}
use Rattle.wp_syntax.specs.declared.records.Typed.{Typed}
use Rattle.wp_syntax.specs.declared.records.AtomText.{AtomText}
use Rattle.wp_syntax.specs.declared.records.Cond.{Cond}
use Rattle.wp_syntax.specs.declared.records.Cond.TheVariants.{Atom, Same, Differ}
use Rattle.wp_syntax.specs.declared.items.EffectItem.{EffectItem}
use Rattle.wp_syntax.specs.declared.items.InitFact.{InitFact}
use Rattle.wp_syntax.specs.declared.typing.Role.{Role}
use Rattle.wp_syntax.specs.declared.typing.Role.TheVariants as roles
use Rattle.wp_syntax.specs.Word.{is_name, is_term, is_variable, is_reserved}
use Rattle.wp_syntax.specs.Named.{most_params}
use Rattle.wp_syntax.specs.Grammar.{name_at}
use Rattle.wp_syntax.specs.Items.{change, literal}
use Rattle.wp_syntax.specs.Effects.{is_timed}
use Rattle.wp_syntax.specs.Typing.{with_kinds}

-- X*
abbrev pub Each : {A : Type 0} → (Tree → A → Type 0) → Trees → List A → Type 0
Each IsX End [] = Unit {0}
Each IsX (Then tree rest) (x ∷ xs) = IsX tree x × Each IsX rest xs
Each IsX trees xs = ⊥

-- X = ( ) | ( and X* ) | PLAIN, with the items of inner conjunctions in the order of the text
mutual
  pub data IsConjunction {A : Type 0} (IsPlain : Tree → A → Type 0) : Tree → List A → Type 0 where
    nothing : (at : ℕ) → IsConjunction IsPlain (Branch at End) []
    conjunction : (at i : ℕ) (rest : Trees) (items : List A) → AreConjuncts IsPlain rest items
        → IsConjunction IsPlain (Branch at (Then (Leaf (codes "and") i) rest)) items
    alone : (tree : Tree) (item : A) → IsPlain tree item → IsConjunction IsPlain tree (item ∷ [])

  pub data AreConjuncts {A : Type 0} (IsPlain : Tree → A → Type 0) : Trees → List A → Type 0 where
    no_more : AreConjuncts IsPlain End []
    one_more : (tree : Tree) (rest : Trees) (front back : List A) → IsConjunction IsPlain tree front → AreConjuncts IsPlain rest back
        → AreConjuncts IsPlain (Then tree rest) (front ++ back)

-- a word of some kind, alone
abbrev pub IsWordThat : (List ℕ → Bool) → Tree → Name → Type 0
IsWordThat test (Leaf text at) name = (test text ≡ true) × (name ≡ name_at text at)
IsWordThat test (Branch at trees) name = ⊥

-- ( NAME TERM* ), where the name is no word of the language
abbrev pub IsAtom : Tree → AtomText → Type 0
IsAtom (Branch at (Then (Leaf pred i) terms)) atom =
    ((is_name pred && not (is_reserved pred)) ≡ true) × (atom.pred ≡ name_at pred i) × Each (IsWordThat is_term) terms atom.args
IsAtom tree atom = ⊥

-- ( = TERM TERM ), by the place of its =
abbrev pub IsEquality : Tree → Name → Name → ℕ → Type 0
IsEquality (Branch i (Then (Leaf word j) (Then first (Then second End)))) a b at =
    (word ≡ codes "=") × (at ≡ j) × IsWordThat is_term first a × IsWordThat is_term second b
IsEquality tree a b at = ⊥

pub data IsLiteral : Tree → Cond → Type 0 where
  of_atom : (tree : Tree) (atom : AtomText) → IsAtom tree atom → IsLiteral tree (Atom atom)
  of_same : (tree : Tree) (a b : Name) (at : ℕ) → IsEquality tree a b at → IsLiteral tree (Same a b at)
  of_differ : (tree : Tree) (a b : Name) (at i j : ℕ) → IsEquality tree a b at
      → IsLiteral (Branch i (Then (Leaf (codes "not") j) (Then tree End))) (Differ a b at)

abbrev pub IsCondition : Tree → List Cond → Type 0
IsCondition tree conds = IsConjunction IsLiteral tree conds

abbrev pub IsGoal : Tree → List AtomText → Type 0
IsGoal tree atoms = IsConjunction IsAtom tree atoms

-- an add effect, or a delete effect
pub data IsChange : Tree → EffectItem → Type 0 where
  of_add : (tree : Tree) (atom : AtomText) → IsAtom tree atom → IsChange tree (change true atom)
  of_delete : (tree : Tree) (atom : AtomText) (i j : ℕ) → IsAtom tree atom
      → IsChange (Branch i (Then (Leaf (codes "not") j) (Then tree End))) (change false atom)

abbrev pub IsEffect : Tree → List EffectItem → Type 0
IsEffect tree items = IsConjunction IsChange tree items

-- (at NUMBER (..)) is PDDL's timed literal, and no atom
abbrev pub is_timed_literal : Tree → Bool
is_timed_literal (Branch at (Then (Leaf head i) rest)) = is_timed head rest
is_timed_literal tree = false

pub data IsFact : Tree → InitFact → Type 0 where
  of_stated : (tree : Tree) (atom : AtomText) → is_timed_literal tree ≡ false → IsAtom tree atom
      → IsFact tree (literal true atom)
  of_denied : (tree : Tree) (atom : AtomText) (i j : ℕ) → IsAtom tree atom
      → IsFact (Branch i (Then (Leaf (codes "not") j) (Then tree End))) (literal false atom)

pub data IsKind : Tree → List Name → Type 0 where
  of_name : (tree : Tree) (name : Name) → IsWordThat is_name tree name → IsKind tree (name ∷ [])
  of_either : (at i : ℕ) (first : Tree) (rest : Trees) (names : List Name) → Each (IsWordThat is_name) (Then first rest) names
      → IsKind (Branch at (Then (Leaf (codes "either") i) (Then first rest))) names

-- words in front of other trees
abbrev pub in_front : List Name → Trees → Trees
in_front [] rest = rest
in_front (name ∷ names) rest = Then (Leaf name.text name.at) (in_front names rest)

abbrev pub AreWords : (List ℕ → Bool) → List Name → Type 0
AreWords test names = AllByRecursion (λ (name : Name). test name.text ≡ true) names

pub data IsTyped (test : List ℕ → Bool) : Trees → List Typed → Type 0 where
  of_rest : (names : List Name) → AreWords test names → IsTyped test (in_front names End) (with_kinds [] names)
  of_group : (first : Name) (names : List Name) (dash : ℕ) (kind : Tree) (kinds : List Name) (rest : Trees) (typed : List Typed)
      → AreWords test (first ∷ names) → IsKind kind kinds → IsTyped test rest typed
      → IsTyped test (in_front (first ∷ names) (Then (Leaf (codes "-") dash) (Then kind rest))) (with_kinds kinds (first ∷ names) ++ typed)

-- what the words of a list are
abbrev pub is_word_of : Role → List ℕ → Bool
is_word_of roles.Names = is_name
is_word_of roles.Predicate = is_variable
is_word_of roles.Action = is_variable

-- at most so many names, and no two of them the same
pub record AreDeclared (most : ℕ) (names : List (List ℕ)) : Type 0 where
  pub few : length names ≤ most
  pub distinct : IsDistinct bytes_eq names

-- parameters are few, and those of an action differ
abbrev pub AreAllowed : Role → List (List ℕ) → Type 0
AreAllowed roles.Names names = Unit {0}
AreAllowed roles.Predicate names = length names ≤ most_params
AreAllowed roles.Action names = AreDeclared most_params names

abbrev pub words_in : List Typed → List (List ℕ)
words_in typed = map (λ (one : Typed). one.name.text) typed

pub record IsTypedList (role : Role) (trees : Trees) (typed : List Typed) : Type 0 where
  pub list : IsTyped (is_word_of role) trees typed
  pub allowed : AreAllowed role (words_in typed)
