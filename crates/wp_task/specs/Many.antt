-- The sets that are kept of lists of atoms.
use Rattle.std.specs.Prelude.{◌≡◌, ℕ, ◌<◌, Bool, List, Option, None, length, slice_index_or, IfSome}
use Rattle.std.specs.Global.{Box}
use Rattle.wp_task.specs.declared.acts.Act.{Act}
use Rattle.wp_task.specs.Set.{atoms_in}
use Rattle.wp_task.specs.Task.{act_at}

-- a set that is kept for a list of atoms has just these
abbrev pub IsSetOf : Option (Box (List Bool)) → List ℕ → Type 0
IsSetOf set atoms = IfSome set (λ kept. atoms_in kept.value ≡ atoms)

-- for each action there is the set of its preconditions, or none is kept
pub record AreNeedSets (sets : List (Option (Box (List Bool)))) (acts : List Act) : Type 0 where
  pub each : length sets ≡ length acts
  pub are : (a : ℕ) → a < length acts → IsSetOf (slice_index_or sets a None) (act_at acts a).pre
