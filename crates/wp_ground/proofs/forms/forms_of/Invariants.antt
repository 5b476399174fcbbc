use Rattle.std.proofs.Common.{◌≡◌, take}
use Rattle.wp_ground.proofs.forms.forms_of.Given as goal

abbrev pub invariant-loop-place : goal.invariant-loop-place
invariant-loop-place l = l.forms.items ≡ take l.place l.atoms
