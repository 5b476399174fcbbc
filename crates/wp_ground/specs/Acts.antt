-- What an instance adds, or what it deletes, as one list with a flag.
use Rattle.std.specs.Prelude.{ℕ, Bool, List, map, filter}
use Rattle.std.specs.Bool.{beq}
use Rattle.wp_lift.specs.declared.atoms.GroundAtom.{GroundAtom}
use Rattle.wp_lift.specs.declared.schemas.SlotEffect.{SlotEffect}
use Rattle.wp_lift.specs.Worlds.{grounded}

abbrev pub changed_atoms : Bool → List ℕ → List SlotEffect → List GroundAtom
changed_atoms add args effects =
    map (λ (effect : SlotEffect). grounded args effect.atom) (filter (λ (effect : SlotEffect). beq effect.add add) effects)
