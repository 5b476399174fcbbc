-- What was read, and what is left, give the whole.
use Rattle.std.proofs.Common.{◌≡◌, length}
use Rattle.wp_lex.specs.Trees.{trees_of}
use Rattle.wp_syntax.specs.Actions.{no_parts, parts_of}
use Rattle.wp_syntax.proofs.action.all_parts.Given as goal

abbrev pub invariant-loop-node : goal.invariant-loop-node
invariant-loop-node l = parts_of l.so_far (trees_of l.rest) ≡ parts_of no_parts (trees_of l.fn.items)

abbrev pub decreases-loop-node : goal.decreases-loop-node
decreases-loop-node l = length l.rest
