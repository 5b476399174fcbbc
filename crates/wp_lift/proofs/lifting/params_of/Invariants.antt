use Rattle.std.proofs.Common.{◌≡◌, take}
use Rattle.wp_lift.specs.Lifting.{names_of}
use Rattle.wp_lift.proofs.lifting.params_of.Given as goal

abbrev pub invariant-loop-param : goal.invariant-loop-param
invariant-loop-param l = l.names ≡ names_of (take l.param-index l.params)
