use Rattle.std.proofs.Common.{◌≡◌, ◌+◌, ◌++◌, length, map}
use Rattle.std.specs.List.{All}
use Rattle.std.specs.Vec.Iter.{into_iter_items}
use Rattle.wp_novel.specs.Births.{nodes_of}
use Rattle.wp_plain.specs.Explored.{all_numbered}
use Rattle.wp_commit.specs.Newborns.{rest_of}
use Rattle.wp_commit.specs.Entering.{IsFresh}
use Rattle.wp_commit.proofs.births.births_of.Given as goal

abbrev pub invariant-loop-child : goal.invariant-loop-child
invariant-loop-child l = record {
  births : nodes_of l.births.items ++ all_numbered (l.searched.numbered + length l.births.items) (into_iter_items l.child-iterator)
      ≡ all_numbered l.searched.numbered l.fn.children.items;
  fresh : All (IsFresh l.searched l.parent) l.births.items;
  rests : l.rests.items ++ map rest_of (into_iter_items l.child-iterator) ≡ map rest_of l.fn.children.items;
}
