use Rattle.std.proofs.Common.{◌≡◌, take}
use Rattle.std.specs.List.{filter_map}
use Rattle.wp_ground.specs.Numbering.{number_in}
use Rattle.wp_ground.proofs.numbering.TaskAtoms.numbers.Given as goal

abbrev pub invariant-loop-atom : goal.invariant-loop-atom
invariant-loop-atom l = l.numbers.items ≡ filter_map (number_in l.self) (take l.atom-index l.wanted)
