-- Trees spelled out as brackets and words, and what a text without a fault is: one list, or any number of lists in a row.
use Rattle.std.specs.Prelude.{◌≡◌, ℕ, List, [], ◌∷◌, None}
use Rattle.wp_lex.specs.declared.item.Item.{Item}
use Rattle.wp_lex.specs.declared.item.Item.TheVariants.{Word, Open, Close}
use Rattle.wp_lex.specs.Trees.{Tree, Leaf, Branch, Trees, End, Then, trees_of}
use Rattle.wp_lex.specs.Faults.{fault_of, plan_fault_of}
use Rattle.wp_lex.specs.Items.{items_of, plan_items_of}

-- the items of trees, with the items behind them
abbrev mutual
  pub spelled_tree : Tree → List Item → List Item
  spelled_tree (Leaf text at) behind = Word text at ∷ behind
  spelled_tree (Branch at trees) behind = Open at ∷ spelled trees (Close ∷ behind)

  pub spelled : Trees → List Item → List Item
  spelled End behind = behind
  spelled (Then tree rest) behind = spelled_tree tree (spelled rest behind)

-- the items are those of one list, from its opening bracket to its closing one
abbrev pub IsOneList : List Item → Type 0
IsOneList items = (at : ℕ) × (trees : Trees) × (items ≡ spelled_tree (Branch at trees) [])

-- none of the trees is a word
abbrev pub AllLists : Trees → Type 0
AllLists End = Unit {0}
AllLists (Then (Leaf text at) rest) = ⊥
AllLists (Then (Branch at trees) rest) = AllLists rest

-- the items are those of lists, one after another
abbrev pub AreLists : List Item → Type 0
AreLists items = (trees : Trees) × AllLists trees × (items ≡ spelled trees [])

-- a PDDL text without a fault is one list
abbrev pub TextsAreLists : Type 0
TextsAreLists = (text : List ℕ) → fault_of text ≡ None → IsOneList (items_of text)

-- a plan file without a fault is a row of lists
abbrev pub PlansAreLists : Type 0
PlansAreLists = (text : List ℕ) → plan_fault_of text ≡ None → AreLists (plan_items_of text)

-- trees that are spelled out are read back
abbrev pub ListsAreRead : Type 0
ListsAreRead = (trees : Trees) → trees_of (spelled trees []) ≡ trees
