use Rattle.std.proofs.Common.{◌≡◌, take}
use Rattle.wp_succ.specs.Growing.{atoms_on}
use Rattle.wp_succ.proofs.growing.Growing.shared.Given as goal

abbrev pub invariant-loop-count : goal.invariant-loop-count
invariant-loop-count l = take l.count (atoms_on l.self.way.items) ≡ take l.count l.atoms
