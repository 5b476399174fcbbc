use Rattle.std.proofs.Common.{◌≡◌, ◌++◌, ◌≤◌, length}
use Rattle.wp_succ.specs.Tree.{among, reached_by_count}
use Rattle.wp_succ.proofs.tree.reached.Given as goal

abbrev pub invariant-loop-left : goal.invariant-loop-left
invariant-loop-left l = record {
  within : l.left ≤ length l.nodes;
  found : l.found.items ++ among (reached_by_count l.s l.nodes) l.left
      ≡ l.fn.always ++ among (reached_by_count l.s l.nodes) (length l.nodes);
}

abbrev pub decreases-loop-left : goal.decreases-loop-left
decreases-loop-left l = l.left
