-- What was read, and what is left, give the whole.
use Rattle.std.proofs.Common.{◌≡◌, length}
use Rattle.wp_lex.specs.Trees.{trees_of}
use Rattle.wp_syntax.specs.Reading.{behind}
use Rattle.wp_syntax.specs.Typing.{kinds_of}
use Rattle.wp_syntax.proofs.typing.kinds.Given as goal

abbrev pub invariant-loop-node : goal.invariant-loop-node
invariant-loop-node l = behind l.names.items (kinds_of (trees_of l.rest)) ≡ kinds_of (trees_of l.fn.items)

abbrev pub decreases-loop-node : goal.decreases-loop-node
decreases-loop-node l = length l.rest
