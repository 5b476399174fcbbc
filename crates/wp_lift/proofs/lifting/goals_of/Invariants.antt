use Rattle.std.proofs.Common.{◌≡◌, drop}
use Rattle.wp_lift.specs.Walk.{each, behind}
use Rattle.wp_lift.specs.Lifting.{ground_atom_of, naming_of}
use Rattle.wp_lift.proofs.lifting.goals_of.Given as goal

abbrev pub invariant-loop-text : goal.invariant-loop-text
invariant-loop-text l = behind l.goals.items (each (ground_atom_of (naming_of l.scope)) (drop l.text-index l.texts)) ≡ each (ground_atom_of (naming_of l.scope)) l.texts
