-- The trees of a flat row of brackets and words: the usual reading of lists, by a fold from the right.
-- It is total. What is still open at the end is closed there, and what stands behind a bracket too many is not read.
use Rattle.std.specs.Prelude.{ℕ, List, [], ◌∷◌}
use Rattle.wp_lex.specs.declared.item.Item.{Item}
use Rattle.wp_lex.specs.declared.item.Item.TheVariants.{Word, Open, Close}

-- a word with its place, or a list with the place of its opening bracket
mutual
  pub data Tree : Type 0 where
    Leaf : (text : List ℕ) (at : ℕ) → Tree
    Branch : (at : ℕ) (trees : Trees) → Tree

  pub data Trees : Type 0 where
    End : Trees
    Then : (tree : Tree) (rest : Trees) → Trees

-- the trees up to the bracket that closes the list in which they stand, then those behind that bracket, and so on outward
pub record Levels : Type 0 where
  pub here : Trees
  pub behind : List Trees

abbrev pub first_or_end : List Trees → Trees
first_or_end [] = End
first_or_end (trees ∷ rest) = trees

abbrev pub all_but_first : List Trees → List Trees
all_but_first [] = []
all_but_first (trees ∷ rest) = rest

-- the levels with one more item in front
abbrev pub with_item : Item → Levels → Levels
with_item (Word text at) levels = record { here = Then (Leaf text at) levels.here; behind = levels.behind }
with_item (Open at) levels =
    record { here = Then (Branch at levels.here) (first_or_end levels.behind); behind = all_but_first levels.behind }
with_item Close levels = record { here = End; behind = levels.here ∷ levels.behind }

abbrev pub levels_of : List Item → Levels
levels_of [] = record { here = End; behind = [] }
levels_of (item ∷ items) = with_item item (levels_of items)

-- the trees of the items
abbrev pub trees_of : List Item → Trees
trees_of items = (levels_of items).here
