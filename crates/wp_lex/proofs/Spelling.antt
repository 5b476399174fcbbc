-- Trees that are spelled out are read back.
use Rattle.std.proofs.Common.{◌≡◌, List, [], ◌∷◌, refl, ap, ◌∙◌}
use Rattle.wp_lex.specs.declared.item.Item.{Item}
use Rattle.wp_lex.specs.declared.item.Item.TheVariants.{Open, Close}
use Rattle.wp_lex.specs.Trees.{Tree, Leaf, Branch, Trees, End, Then, Levels, trees_of, levels_of, with_item}
use Rattle.wp_lex.specs.Lists.{spelled, spelled_tree}

-- the levels with one more tree, or more trees, in front
abbrev with_tree : Tree → Levels → Levels
with_tree tree levels = record { here = Then tree levels.here; behind = levels.behind }

abbrev with_trees : Trees → Levels → Levels
with_trees End levels = levels
with_trees (Then tree rest) levels = with_tree tree (with_trees rest levels)

with_trees-End : (trees : Trees) (behind : List Trees)
    → with_trees trees (record { here = End; behind = behind }) ≡ record { here = trees; behind = behind }
with_trees-End End behind = refl
with_trees-End (Then tree rest) behind = ap (with_tree tree) (with_trees-End rest behind)

mutual
  levels_of-spelled_tree : (tree : Tree) (items : List Item) → levels_of (spelled_tree tree items) ≡ with_tree tree (levels_of items)
  levels_of-spelled_tree (Leaf text at) items = refl
  levels_of-spelled_tree (Branch at trees) items =
      ap (with_item (Open at))
      (levels_of-spelled trees (Close ∷ items)
      ∙ with_trees-End trees ((levels_of items).here ∷ (levels_of items).behind))

  levels_of-spelled : (trees : Trees) (items : List Item) → levels_of (spelled trees items) ≡ with_trees trees (levels_of items)
  levels_of-spelled End items = refl
  levels_of-spelled (Then tree rest) items =
      levels_of-spelled_tree tree (spelled rest items) ∙ ap (with_tree tree) (levels_of-spelled rest items)

pub lists_are_read : (trees : Trees) → trees_of (spelled trees []) ≡ trees
lists_are_read trees = ap (λ (levels : Levels). levels.here) (levels_of-spelled trees [] ∙ with_trees-End trees [])
