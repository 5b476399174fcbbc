use Rattle.std.proofs.Common.{◌≡◌, drop}
use Rattle.wp_lift.specs.Walk.{each, behind}
use Rattle.wp_lift.specs.Lifting.{schema_of}
use Rattle.wp_lift.proofs.lifting.schemas_of.Given as goal

abbrev pub invariant-loop-action : goal.invariant-loop-action
invariant-loop-action l = behind l.items.items (each (schema_of l.types l.preds l.objects) (drop l.action-index l.actions)) ≡ each (schema_of l.types l.preds l.objects) l.actions
