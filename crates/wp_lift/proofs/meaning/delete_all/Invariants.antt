-- What is left gives the whole.
use Rattle.std.proofs.Common.{◌≡◌, drop, fold}
use Rattle.wp_lift.specs.declared.atoms.GroundAtom.{GroundAtom}
use Rattle.wp_lift.specs.Worlds.{among}
use Rattle.wp_lift.specs.Effects.{deleted_by}
use Rattle.wp_lift.proofs.meaning.delete_all.Given as goal

abbrev pub invariant-loop-effect : goal.invariant-loop-effect
invariant-loop-effect l = (other : GroundAtom)
    → fold (deleted_by l.args other) (among l.world other) (drop l.effect-index l.effects) ≡ fold (deleted_by l.args other) (among l.initial.world other) l.effects
