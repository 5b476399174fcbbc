use Rattle.std.proofs.Common.{◌≡◌, drop}
use Rattle.wp_lift.specs.Walk.{each, behind}
use Rattle.wp_lift.specs.Lifting.{effect_of, naming_of}
use Rattle.wp_lift.proofs.lifting.effects_of.Given as goal

abbrev pub invariant-loop-text : goal.invariant-loop-text
invariant-loop-text l = behind l.effects.items (each (effect_of (naming_of l.scope)) (drop l.text-index l.texts)) ≡ each (effect_of (naming_of l.scope)) l.texts
