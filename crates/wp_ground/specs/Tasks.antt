-- The task of a lifted problem. Its atoms are the reached atoms of the predicates that some effect names, and its actions are
-- the instances whose conditions are reached; conditions, deletes and goals of other predicates, which never change, are left out.
use Rattle.std.specs.Prelude.{ℕ, ◌==◌, ◌&&◌, not, Bool, List, [], ◌∷◌, length, map, filter, replicate, slice_index_or}
use Rattle.std.specs.List.{flat_map, list_any, range_with_len}
use Rattle.wp_lift.specs.declared.atoms.GroundAtom.{GroundAtom}
use Rattle.wp_lift.specs.declared.schemas.Schema.{Schema}
use Rattle.wp_lift.specs.declared.schemas.SlotCond.{SlotCond}
use Rattle.wp_lift.specs.declared.schemas.SlotCond.TheVariants.{Atom, Same, Differ}
use Rattle.wp_lift.specs.declared.schemas.SlotEffect.{SlotEffect}
use Rattle.wp_lift.specs.Problem.{Lifting, Instance, schema_at, pred_at, tuples_of, instances}
use Rattle.wp_lift.specs.Worlds.{among, grounded, all_hold, adds_of, dels_of}
use Rattle.wp_task.specs.declared.acts.Act.{Act}
use Rattle.wp_task.specs.Task.{PlanningTask}
use Rattle.wp_ground.specs.Reached.{reached}

-- an effect of some schema names the predicate, whether or not the schema has an instance
abbrev pub changes : Lifting → ℕ → Bool
changes lifted pred =
    list_any (λ (schema : Schema). list_any (λ (effect : SlotEffect). effect.atom.pred == pred) schema.effects) lifted.schemas

-- all atoms of a predicate, by argument tuple
abbrev pub atoms_with : Lifting → ℕ → List GroundAtom
atoms_with lifted pred =
    map (λ (args : List ℕ). let atom : GroundAtom = record { pred = pred; args = args } in atom)
    (tuples_of (replicate (pred_at lifted pred).arity (range_with_len 0 (length lifted.objects))))

-- the atoms of the task by number: by predicate and then by argument tuple
abbrev pub atoms_of : Lifting → (GroundAtom → Bool) → List GroundAtom
atoms_of lifted is_reached =
    filter is_reached (flat_map (atoms_with lifted) (filter (changes lifted) (range_with_len 0 (length lifted.preds))))

-- the instances that are its actions by number: by schema and then by argument tuple
abbrev pub steps_of : Lifting → (GroundAtom → Bool) → List Instance
steps_of lifted is_reached = filter (λ (step : Instance). all_hold lifted step is_reached) (instances lifted)

abbrev pub atom_at : List GroundAtom → ℕ → GroundAtom
atom_at atoms p = slice_index_or atoms p (let none : GroundAtom = record { pred = 0; args = [] } in none)

-- the numbers of a set of atoms, in order; an atom without a number is left out
abbrev pub numbers_of : List GroundAtom → (GroundAtom → Bool) → List ℕ
numbers_of atoms test = filter (λ (p : ℕ). test (atom_at atoms p)) (range_with_len 0 (length atoms))

-- the atom of a condition that has one
abbrev pub needs_in : List ℕ → List SlotCond → List GroundAtom
needs_in args [] = []
needs_in args (Atom atom ∷ conds) = grounded args atom ∷ needs_in args conds
needs_in args (Same a b ∷ conds) = needs_in args conds
needs_in args (Differ a b ∷ conds) = needs_in args conds

-- the atoms that the instance needs
abbrev pub needs_of : Lifting → Instance → List GroundAtom
needs_of lifted step = needs_in step.args (schema_at lifted step.schema).conds

-- what an action adds it does not delete
abbrev pub act_of : Lifting → List GroundAtom → Instance → Act
act_of lifted atoms step = record {
  pre = numbers_of atoms (among (needs_of lifted step));
  add = numbers_of atoms (among (adds_of lifted step));
  del = numbers_of atoms (λ (a : GroundAtom). among (dels_of lifted step) a && not (among (adds_of lifted step) a));
}

abbrev pub task_with : Lifting → List GroundAtom → List Instance → PlanningTask
task_with lifted atoms steps = record {
  atoms = length atoms;
  init = map (among lifted.opening) atoms;
  goals = numbers_of atoms (among lifted.goals);
  acts = map (act_of lifted atoms) steps;
}

-- the task over a set of reached atoms
abbrev pub task_by : Lifting → (GroundAtom → Bool) → PlanningTask
task_by lifted is_reached = task_with lifted (atoms_of lifted is_reached) (steps_of lifted is_reached)

abbrev pub task_of : Lifting → PlanningTask
task_of lifted = task_by lifted (among (reached lifted))

-- the instance that an action's number names
abbrev pub instance_at : Lifting → ℕ → Instance
instance_at lifted a =
    slice_index_or (steps_of lifted (among (reached lifted))) a (let none : Instance = record { schema = 0; args = [] } in none)
