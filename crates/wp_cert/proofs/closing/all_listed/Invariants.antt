use Rattle.std.proofs.Common.{◌≡◌, map, take}
use Rattle.std.specs.List.{All}
use Rattle.wp_task.specs.Set.{atoms_in, AreAtoms}
use Rattle.wp_cert.proofs.closing.all_listed.Given as goal

abbrev pub invariant-loop-place : goal.invariant-loop-place
invariant-loop-place l = record {
  so_far : l.states.items ≡ map atoms_in (take l.place l.sets);
  fits : All (AreAtoms 65536) l.states.items;
}
