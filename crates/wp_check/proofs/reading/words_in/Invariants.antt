use Rattle.std.proofs.Common.{◌≡◌, length}
use Rattle.wp_lex.specs.Trees.{trees_of}
use Rattle.wp_check.specs.PlanFile.{words_of}
use Rattle.wp_check.proofs.Fronts.{with_all}
use Rattle.wp_check.proofs.reading.words_in.Given as goal

abbrev pub invariant-loop-node : goal.invariant-loop-node
invariant-loop-node l = with_all l.words.items (words_of (trees_of l.rest)) ≡ words_of (trees_of l.fn.items)

abbrev pub decreases-loop-node : goal.decreases-loop-node
decreases-loop-node l = length l.rest
