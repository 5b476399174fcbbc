use Rattle.std.proofs.Common.{◌≡◌, ◌++◌, map}
use Rattle.std.specs.Vec.Iter.{into_iter_items}
use Rattle.wp_commit.specs.MadeChildren.{child_as}
use Rattle.wp_commit.proofs.made.children_as.Given as goal

abbrev pub invariant-loop-next : goal.invariant-loop-next
invariant-loop-next l = l.children.items ++ map child_as (into_iter_items l.next-iterator) ≡ map child_as l.fn.reached.items
