use Rattle.std.proofs.Common.{[]}
use Rattle.std.proofs.lemmas.List.{take_all}
use Rattle.wp_lift.proofs.SameLemmas.{among-noted_all}
use Rattle.wp_lift.proofs.world.World.of_atoms.Goals as goal

pub returns : goal.returns
returns c = rw (c.loop-atom.invariant, take_all c.loop-atom.atom-index c.args.atoms.now c.loop-atom-test.false) (λ i other. among-noted_all [] c.args.atoms.now other i)
