use Rattle.std.proofs.Common.{◌≡◌, ◌≤◌, ◌-◌, filter, length}
use Rattle.std.specs.List.{range_with_len}
use Rattle.wp_task.specs.Set.{has}
use Rattle.wp_cert.proofs.LineLemmas.{AreBelow}
use Rattle.wp_cert.proofs.closing.atoms_of.Given as goal

abbrev pub invariant-loop-p : goal.invariant-loop-p
invariant-loop-p l = record {
  so_far : l.atoms.items ≡ filter (has l.state) (range_with_len 0 l.from);
  below : AreBelow l.from l.atoms.items;
  inside : l.from ≤ length l.state;
}

abbrev pub decreases-loop-p : goal.decreases-loop-p
decreases-loop-p l = length l.state - l.from
