use Rattle.std.proofs.Common.{◌≡◌, ◌++◌}
use Rattle.std.specs.List.{flat_map, range_with_len}
use Rattle.wp_report.specs.Tasks.{atom_line}
use Rattle.wp_report.proofs.tasks.put_atoms.Given as goal

abbrev pub invariant-loop-p : goal.invariant-loop-p
invariant-loop-p l = l.out.items ≡ l.fn.out.items ++ flat_map (atom_line l.names) (range_with_len 0 l.p)
