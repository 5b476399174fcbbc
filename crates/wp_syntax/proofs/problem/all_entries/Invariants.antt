-- What was read, and what is left, give the whole.
use Rattle.std.proofs.Common.{◌≡◌, length}
use Rattle.wp_lex.specs.Trees.{trees_of}
use Rattle.wp_syntax.specs.Problems.{no_entries, entries_of}
use Rattle.wp_syntax.proofs.problem.all_entries.Given as goal

abbrev pub invariant-loop-node : goal.invariant-loop-node
invariant-loop-node l = entries_of l.so_far (trees_of l.rest) ≡ entries_of no_entries (trees_of l.fn.items)

abbrev pub decreases-loop-node : goal.decreases-loop-node
decreases-loop-node l = length l.rest
