use Rattle.std.proofs.Common.{◌≡◌, ◌++◌, map, length}
use Rattle.std.specs.List.{All}
use Rattle.std.specs.Vec.Iter.{into_iter_items}
use Rattle.wp_relax.specs.Workspace.{room_for}
use Rattle.wp_count.specs.Broods.{child_of}
use Rattle.wp_commit.proofs.evaluation.children_of.Given as goal

abbrev pub invariant-loop-next : goal.invariant-loop-next
invariant-loop-next l = record {
  room : l.workspace ≡ room_for l.task;
  sizes : All (λ x. length x.state ≡ l.task.atoms) (into_iter_items l.next-iterator);
  children : l.children.items ++ map (λ x. child_of l.task l.mark l.track x.rest x.state) (into_iter_items l.next-iterator)
      ≡ map (λ x. child_of l.task l.mark l.track x.rest x.state) l.fn.reached.items;
}
