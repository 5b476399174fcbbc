use Rattle.std.proofs.Common.{◌≡◌, take}
use Rattle.wp_ground.proofs.numbering.table_of.Given as goal

abbrev pub invariant-loop-form : goal.invariant-loop-form
invariant-loop-form l = l.atoms ≡ take l.form-index l.forms
