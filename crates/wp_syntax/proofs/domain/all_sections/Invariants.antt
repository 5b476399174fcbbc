-- What was read, and what is left, give the whole.
use Rattle.std.proofs.Common.{◌≡◌, length}
use Rattle.wp_lex.specs.Trees.{trees_of}
use Rattle.wp_syntax.specs.Domains.{no_sections, sections_of}
use Rattle.wp_syntax.proofs.domain.all_sections.Given as goal

abbrev pub invariant-loop-node : goal.invariant-loop-node
invariant-loop-node l = sections_of l.so_far (trees_of l.rest) ≡ sections_of no_sections (trees_of l.fn.items)

abbrev pub decreases-loop-node : goal.decreases-loop-node
decreases-loop-node l = length l.rest
