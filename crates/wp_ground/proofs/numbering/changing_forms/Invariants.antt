use Rattle.std.proofs.Common.{◌≡◌, filter, take}
use Rattle.wp_lift.specs.declared.atoms.GroundAtom.{GroundAtom}
use Rattle.wp_ground.specs.Numbering.{has_flag}
use Rattle.wp_ground.proofs.numbering.changing_forms.Given as goal

abbrev pub invariant-loop-place : goal.invariant-loop-place
invariant-loop-place l = l.atoms.items ≡ filter (λ (a : GroundAtom). has_flag l.changing.items a.pred) (take l.place l.reached)
