-- Ground atoms and the steps of plans as texts: a bracket, a name, each argument after one space, and a bracket.
use Rattle.std.specs.Prelude.{ℕ, List, [], ◌∷◌, ◌++◌, map, slice_index_or}
use Rattle.std.specs.List.{flat_map}
use Rattle.wp_lift.specs.declared.atoms.GroundAtom.{GroundAtom}
use Rattle.wp_lift.specs.Problem.{Lifting, Instance, schema_at, pred_at}

abbrev pub form_text : List ℕ → List (List ℕ) → List ℕ
form_text name args = 40 ∷ name ++ flat_map (λ (arg : List ℕ). 32 ∷ arg) args ++ 41 ∷ []

abbrev pub object_text : Lifting → ℕ → List ℕ
object_text lifted number = slice_index_or lifted.objects number []

abbrev pub atom_text : Lifting → GroundAtom → List ℕ
atom_text lifted atom = form_text (pred_at lifted atom.pred).name (map (object_text lifted) atom.args)

abbrev pub step_text : Lifting → Instance → List ℕ
step_text lifted step = form_text (schema_at lifted step.schema).name (map (object_text lifted) step.args)
