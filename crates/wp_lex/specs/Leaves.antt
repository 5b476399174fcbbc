-- The words of the trees of a text: each is a word as it is read.
use Rattle.std.specs.Prelude.{ℕ, List, length}
use Rattle.wp_lex.specs.declared.place.Source.{Source}
use Rattle.wp_lex.specs.Words.{IsWord}
use Rattle.wp_lex.specs.Trees.{Tree, Leaf, Branch, Trees, End, Then, trees_of}
use Rattle.wp_lex.specs.Items.{items_before}

abbrev mutual
  pub IsOfWords : Tree → Type 0
  IsOfWords (Leaf text at) = IsWord text
  IsOfWords (Branch at trees) = AreOfWords trees

  pub AreOfWords : Trees → Type 0
  AreOfWords End = Unit {0}
  AreOfWords (Then tree rest) = IsOfWords tree × AreOfWords rest

abbrev pub LeavesAreWords : Type 0
LeavesAreWords = (source : Source) (text : List ℕ) → AreOfWords (trees_of (items_before source text (length text)))
