use Rattle.std.proofs.Common.{◌≡◌}
use Rattle.std.specs.Vec.Iter.{into_iter_items}
use Rattle.wp_plain.specs.Explored.{lists_of, with_children}
use Rattle.wp_plain.proofs.explored.add_all.Given as goal

abbrev pub invariant-loop-child : goal.invariant-loop-child
invariant-loop-child l = record {
  lists : with_children l.settings l.parent l.track (lists_of l.explored) (into_iter_items l.child-iterator) ≡ with_children l.settings l.parent l.track (lists_of l.fn.explored) l.fn.children.items;
  pairs : l.explored.pairs ≡ l.fn.explored.pairs;
  expanded : l.explored.expanded ≡ l.fn.explored.expanded;
  repeats : l.explored.repeats ≡ l.fn.explored.repeats;
}
