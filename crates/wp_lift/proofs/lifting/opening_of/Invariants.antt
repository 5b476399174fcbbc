use Rattle.std.proofs.Common.{◌≡◌, drop, []}
use Rattle.wp_lift.specs.Walk.{each_after}
use Rattle.wp_lift.specs.Lifting.{stated_after, naming_of}
use Rattle.wp_lift.proofs.lifting.opening_of.Given as goal

abbrev pub invariant-loop-item : goal.invariant-loop-item
invariant-loop-item l = each_after (stated_after (naming_of l.scope)) l.atoms (drop l.item-index l.items) ≡ each_after (stated_after (naming_of l.scope)) [] l.items
