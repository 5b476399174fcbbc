-- What is left gives the whole.
use Rattle.std.proofs.Common.{◌≡◌, drop, fold}
use Rattle.wp_lift.specs.Worlds.{noted}
use Rattle.wp_lift.specs.Effects.{atoms_added}
use Rattle.wp_lift.proofs.meaning.add_all.Given as goal

abbrev pub invariant-loop-effect : goal.invariant-loop-effect
invariant-loop-effect l =
    fold noted l.world (atoms_added l.args (drop l.effect-index l.effects)) ≡ fold noted l.initial.world (atoms_added l.args l.effects)
