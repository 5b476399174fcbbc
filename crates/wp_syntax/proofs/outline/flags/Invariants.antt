-- What is left is as wrong as the whole.
use Rattle.std.proofs.Common.{◌≡◌, length}
use Rattle.wp_lex.specs.Trees.{trees_of}
use Rattle.wp_syntax.specs.Outline.{flags_of}
use Rattle.wp_syntax.proofs.outline.flags.Given as goal

abbrev pub invariant-loop-node : goal.invariant-loop-node
invariant-loop-node l = flags_of (trees_of l.rest) ≡ flags_of (trees_of l.fn.items)

abbrev pub decreases-loop-node : goal.decreases-loop-node
decreases-loop-node l = length l.rest
