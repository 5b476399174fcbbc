use Rattle.std.proofs.Common.{◌≡◌, drop}
use Rattle.wp_relax.specs.RelaxedPlan.{in_reach}
use Rattle.wp_relax.proofs.plans.in_reach.Given as goal

abbrev pub invariant-loop-p : goal.invariant-loop-p
invariant-loop-p l = in_reach (drop l.p-index l.p-items) l.costs ≡ in_reach l.goals l.costs
