use Rattle.std.proofs.Common.{◌≡◌}
use Rattle.std.specs.List.{filter, range_with_len}
use Rattle.wp_task.specs.Set.{has}
use Rattle.wp_plain.proofs.novelty.atoms_of.Given as goal

abbrev pub invariant-loop-p : goal.invariant-loop-p
invariant-loop-p l = l.atoms.items ≡ filter (has l.state) (range_with_len 0 l.p)
