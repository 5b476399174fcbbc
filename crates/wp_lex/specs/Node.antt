-- What a node that `next` splits off stands for: a tree, and how many items stand inside it.
use Rattle.std.specs.Prelude.{ℕ, length}
use Rattle.wp_lex.specs.declared.node.Node.{Node}
use Rattle.wp_lex.specs.declared.node.Node.TheVariants.{Word, List}
use Rattle.wp_lex.specs.Trees.{Tree, Leaf, Branch, trees_of}

abbrev pub tree_of : Node → Tree
tree_of (Word text at) = Leaf text.now at
tree_of (List at inner) = Branch at (trees_of inner.now)

abbrev pub size_of : Node → ℕ
size_of (Word text at) = 0
size_of (List at inner) = length inner.now
