-- What the effects of an instance do, one after another: deletes come first, then adds.
use Rattle.std.specs.Prelude.{ℕ, ◌&&◌, not, Bool, cond, List, map, filter}
use Rattle.wp_lift.specs.declared.atoms.GroundAtom.{GroundAtom}
use Rattle.wp_lift.specs.declared.schemas.SlotEffect.{SlotEffect}
use Rattle.wp_lift.specs.Worlds.{is_same_atom, grounded}

-- what one effect makes of the truth of an atom, where it deletes
abbrev pub deleted_by : List ℕ → GroundAtom → Bool → SlotEffect → Bool
deleted_by args atom is effect = cond effect.add is (is && not (is_same_atom (grounded args effect.atom) atom))

-- the atoms that the effects add, in their order
abbrev pub atoms_added : List ℕ → List SlotEffect → List GroundAtom
atoms_added args effects =
    map (λ (effect : SlotEffect). grounded args effect.atom) (filter (λ (effect : SlotEffect). effect.add) effects)
