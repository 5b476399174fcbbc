use Rattle.std.proofs.Common.{◌≡◌, map, take}
use Rattle.wp_lift.specs.declared.schemas.Pred.{Pred}
use Rattle.wp_lift.proofs.preds.names_of.Given as goal

abbrev pub invariant-loop-pred : goal.invariant-loop-pred
invariant-loop-pred l = l.names ≡ map (λ (pred : Pred). pred.name) (take l.pred-index l.preds)
