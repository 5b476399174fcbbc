use Rattle.std.proofs.Common.{◌≡◌, take, fold, []}
use Rattle.wp_lift.specs.Worlds.{noted}
use Rattle.wp_lift.proofs.world.World.of_atoms.Given as goal

abbrev pub invariant-loop-atom : goal.invariant-loop-atom
invariant-loop-atom l = l.world ≡ fold noted [] (take l.atom-index l.atoms)
