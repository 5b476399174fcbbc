-- Lists as they are written: a list begins with a word, and one separator stands before each thing behind that word.
use Rattle.std.specs.Prelude.{◌≡◌, ℕ, zero, suc, ◌+◌, true, None, List, [], ◌∷◌, ◌++◌, length}
use Rattle.wp_lex.specs.Words.{IsWord, is_separator}
use Rattle.wp_lex.specs.Trees.{Tree, Leaf, Branch, Trees, End, Then, trees_of}
use Rattle.wp_lex.specs.Faults.{fault_of}
use Rattle.wp_lex.specs.Items.{items_of}

-- a word alone, or a list of its first word and what is behind it
mutual
  pub data Form : Type 0 where
    Alone : (word : List ℕ) → Form
    Listed : (first : List ℕ) (rest : Forms) → Form

  pub data Forms : Type 0 where
    NoMore : Forms
    Behind : (separator : ℕ) (form : Form) (rest : Forms) → Forms

abbrev mutual
  pub form_text : Form → List ℕ
  form_text (Alone word) = word
  form_text (Listed first rest) = 40 ∷ (first ++ (forms_text rest ++ 41 ∷ []))

  pub forms_text : Forms → List ℕ
  forms_text NoMore = []
  forms_text (Behind separator form rest) = separator ∷ (form_text form ++ forms_text rest)

-- the tree of what is written from a place on
abbrev mutual
  pub tree_at : Form → ℕ → Tree
  tree_at (Alone word) at = Leaf word at
  tree_at (Listed first rest) at = Branch at (Then (Leaf first (at + 1)) (trees_at rest (at + 1 + length first)))

  pub trees_at : Forms → ℕ → Trees
  trees_at NoMore at = End
  trees_at (Behind separator form rest) at = Then (tree_at form (at + 1)) (trees_at rest (at + 1 + length (form_text form)))

-- its words are words as they are read, and no more lists than the number stand in one another
abbrev mutual
  pub IsForm : ℕ → Form → Type 0
  IsForm depth (Alone word) = IsWord word
  IsForm zero (Listed first rest) = ⊥
  IsForm (suc depth) (Listed first rest) = IsWord first × AreForms depth rest

  pub AreForms : ℕ → Forms → Type 0
  AreForms depth NoMore = Unit {0}
  AreForms depth (Behind separator form rest) = (is_separator separator ≡ true) × IsForm depth form × AreForms depth rest

-- a line that is a list has no fault, and is read as that list
pub record IsReadAs (form : Form) (line : List ℕ) : Type 0 where
  pub whole : fault_of line ≡ None
  pub tree : trees_of (items_of line) ≡ Then (tree_at form 0) End

abbrev pub WrittenListsAreRead : Type 0
WrittenListsAreRead =
    (first : List ℕ) (rest : Forms) → IsForm 64 (Listed first rest) → IsReadAs (Listed first rest) (form_text (Listed first rest) ++ 10 ∷ [])
