-- What `ground` answers: the task with its names, or the first cause to refuse it, in the order actions, atoms, goals.
use Rattle.std.specs.Prelude.{ℕ, ◌≡◌, nat_lt, Bool, true, false, Option, None, Some, Result, Ok, Err, length, map}
use Rattle.wp_lift.specs.declared.atoms.GroundAtom.{GroundAtom}
use Rattle.wp_lift.specs.Problem.{Lifting}
use Rattle.wp_lift.specs.Worlds.{among, unmet_goal}
use Rattle.wp_ground.specs.declared.grounding.Grounded.{Grounded}
use Rattle.wp_ground.specs.declared.grounding.GroundError.{GroundError}
use Rattle.wp_ground.specs.declared.grounding.GroundError.TheVariants.{TooManyActs, TooManyAtoms, GoalOutOfReach, Memory}
use Rattle.wp_ground.specs.Reached.{reached}
use Rattle.wp_ground.specs.Tasks.{task_by, atoms_of, steps_of, atom_at}
use Rattle.wp_ground.specs.Texts.{atom_text, step_text}

-- the task over a set of reached atoms, with names
abbrev pub grounded_by : Lifting → (GroundAtom → Bool) → Grounded
grounded_by lifted is_reached = record {
  task = task_by lifted is_reached;
  atom_names = map (atom_text lifted) (atoms_of lifted is_reached);
  act_names = map (step_text lifted) (steps_of lifted is_reached);
}

abbrev pub grounded_of : Lifting → Grounded
grounded_of lifted = grounded_by lifted (among (reached lifted))

-- the first goal atom, in text order, that is not reached
abbrev pub goal_refusal : Lifting → Option ℕ → Option GroundError
goal_refusal lifted None = None
goal_refusal lifted (Some goal) = Some (GoalOutOfReach goal (atom_text lifted (atom_at lifted.goals goal)))

abbrev pub refusal_by : Lifting → (GroundAtom → Bool) → Option GroundError
refusal_by lifted is_reached = elim (nat_lt 1048576 (length (steps_of lifted is_reached))) [
  | true ↦ Some TooManyActs
  | false ↦ elim (nat_lt 65536 (length (atoms_of lifted is_reached))) [
    | true ↦ Some TooManyAtoms
    | false ↦ goal_refusal lifted (unmet_goal lifted is_reached)
  ]
]

abbrev pub refusal_of : Lifting → Option GroundError
refusal_of lifted = refusal_by lifted (among (reached lifted))

-- what is returned over a set of reached atoms: the task where nothing refuses it, or the first cause; want of memory says nothing
abbrev pub GivesBy : Result Grounded GroundError → Lifting → (GroundAtom → Bool) → Type 0
GivesBy (Ok grounded) lifted is_reached = (refusal_by lifted is_reached ≡ None) × (grounded ≡ grounded_by lifted is_reached)
GivesBy (Err Memory) lifted is_reached = Unit {0}
GivesBy (Err error) lifted is_reached = refusal_by lifted is_reached ≡ Some error

abbrev pub Gives : Result Grounded GroundError → Lifting → Type 0
Gives result lifted = GivesBy result lifted (among (reached lifted))
