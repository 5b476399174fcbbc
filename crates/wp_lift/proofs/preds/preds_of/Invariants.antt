use Rattle.std.proofs.Common.{◌≡◌, map, take}
use Rattle.wp_lift.specs.Lifting.{pred_of}
use Rattle.wp_lift.proofs.preds.preds_of.Given as goal

abbrev pub invariant-loop-text : goal.invariant-loop-text
invariant-loop-text l = l.preds.items ≡ map pred_of (take l.text-index l.texts)
