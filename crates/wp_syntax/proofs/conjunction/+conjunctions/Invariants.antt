-- What was read, and what is left, give the whole. A call goes to what stands inside.
use Rattle.std.proofs.Common.{◌≡◌, ◌≤◌, length}
use Rattle.wp_lex.specs.Node.{size_of}
use Rattle.wp_lex.specs.Trees.{trees_of}
use Rattle.wp_syntax.specs.Reading.{behind}
use Rattle.wp_syntax.specs.Grammar.{conjuncts_of}
use Rattle.wp_syntax.proofs.conjunction.+conjunctions.Given as goal

abbrev pub invariant-conjuncts-loop-node : goal.invariant-conjuncts-loop-node
invariant-conjuncts-loop-node g l =
    (behind l.out.items (conjuncts_of g.C.Conjunct.plain_of (trees_of l.rest)) ≡ behind l.fn.out.items (conjuncts_of g.C.Conjunct.plain_of (trees_of l.fn.items)))
    × (length l.rest ≤ length l.fn.items)

abbrev pub decreases-conjuncts-loop-node : goal.decreases-conjuncts-loop-node
decreases-conjuncts-loop-node g l = length l.rest

abbrev pub decreases-conjunction : goal.decreases-conjunction
decreases-conjunction g l = size_of l.node

abbrev pub decreases-conjuncts : goal.decreases-conjuncts
decreases-conjuncts g l = length l.items.now
