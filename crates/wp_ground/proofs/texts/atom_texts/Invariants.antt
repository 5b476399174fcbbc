use Rattle.std.proofs.Common.{◌≡◌, map, take}
use Rattle.wp_ground.specs.Texts.{atom_text}
use Rattle.wp_ground.proofs.texts.atom_texts.Given as goal

abbrev pub invariant-loop-number : goal.invariant-loop-number
invariant-loop-number l = l.texts.items ≡ map (atom_text l.lifted) (take l.number l.atoms)
