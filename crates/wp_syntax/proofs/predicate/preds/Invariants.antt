-- What was read, and what is left, give the whole.
use Rattle.std.proofs.Common.{◌≡◌, length, []}
use Rattle.wp_lex.specs.Trees.{trees_of}
use Rattle.wp_syntax.specs.Predicates.{preds_of}
use Rattle.wp_syntax.proofs.predicate.preds.Given as goal

abbrev pub invariant-loop-node : goal.invariant-loop-node
invariant-loop-node l = preds_of l.preds.items (trees_of l.rest) ≡ preds_of [] (trees_of l.fn.items)

abbrev pub decreases-loop-node : goal.decreases-loop-node
decreases-loop-node l = length l.rest
