-- What was read, and what is left, give the whole.
use Rattle.std.proofs.Common.{◌≡◌, length, []}
use Rattle.wp_lex.specs.Trees.{trees_of}
use Rattle.wp_syntax.specs.Steps.{typed_from}
use Rattle.wp_syntax.specs.Typing.{typed_of}
use Rattle.wp_syntax.proofs.typing.typed_list.Given as goal

abbrev pub invariant-loop-node : goal.invariant-loop-node
invariant-loop-node l = typed_from l.so_far (trees_of l.rest) ≡ typed_of l.fn.role [] [] (trees_of l.fn.items)

abbrev pub decreases-loop-node : goal.decreases-loop-node
decreases-loop-node l = length l.rest
