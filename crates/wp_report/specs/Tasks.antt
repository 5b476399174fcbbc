-- The text of a numbered task: how many atoms and actions there are, a line for each atom and for each action, the opening state,
-- and the goals. Numbers stand in increasing order, each after one space. Where there is no task, the line that says why.
use Rattle.std.specs.Prelude.{ℕ, ◌≡◌, List, [], ◌∷◌, ◌++◌, length, codes, decimal, slice_index_or}
use Rattle.std.specs.List.{flat_map, range_with_len}
use Rattle.wp_task.specs.declared.acts.Act.{Act}
use Rattle.wp_task.specs.Set.{atoms_in}
use Rattle.wp_task.specs.Task.{PlanningTask, act_at}
use Rattle.wp_ground.specs.declared.grounding.Grounded.{Grounded}
use Rattle.wp_ground.specs.declared.grounding.GroundError.{GroundError}
use Rattle.wp_ground.specs.declared.grounding.GroundError.TheVariants as refusals
use Rattle.wp_check.specs.PlanText.{line}

-- one name per atom and per action
pub record IsNamed (grounded : Grounded) : Type 0 where
  pub atoms : length grounded.atom_names ≡ grounded.task.atoms
  pub acts : length grounded.act_names ≡ length grounded.task.acts

-- the name of a number
abbrev pub name_at : List (List ℕ) → ℕ → List ℕ
name_at names number = slice_index_or names number []

abbrev pub numbers_text : List ℕ → List ℕ
numbers_text numbers = flat_map (λ (n : ℕ). 32 ∷ decimal n) numbers

-- a number behind its word
abbrev pub count_line : List ℕ → ℕ → List ℕ
count_line word count = line (word ++ decimal count)

-- numbers behind their word
abbrev pub numbers_line : List ℕ → List ℕ → List ℕ
numbers_line word numbers = line (word ++ numbers_text numbers)

unfoldable pub atom_line : List (List ℕ) → ℕ → List ℕ
atom_line names p = line (codes "atom " ++ decimal p ++ codes " " ++ name_at names p)

unfoldable pub act_line : List (List ℕ) → ℕ → Act → List ℕ
act_line names a act =
    line (codes "act " ++ decimal a ++ codes " " ++ name_at names a
    ++ codes " pre" ++ numbers_text act.pre ++ codes " add" ++ numbers_text act.add ++ codes " del" ++ numbers_text act.del)

abbrev pub atom_lines : PlanningTask → List (List ℕ) → List ℕ
atom_lines task names = flat_map (atom_line names) (range_with_len 0 task.atoms)

abbrev pub act_lines : PlanningTask → List (List ℕ) → List ℕ
act_lines task names = flat_map (λ (a : ℕ). act_line names a (act_at task.acts a)) (range_with_len 0 (length task.acts))

unfoldable pub ground_text : Grounded → List ℕ
ground_text grounded =
    count_line (codes "atoms ") grounded.task.atoms
    ++ count_line (codes "acts ") (length grounded.task.acts)
    ++ atom_lines grounded.task grounded.atom_names
    ++ act_lines grounded.task grounded.act_names
    ++ numbers_line (codes "init") (atoms_in grounded.task.init)
    ++ numbers_line (codes "goal") grounded.task.goals

-- want of memory is no cause against a task, and nothing is said of it
unfoldable pub ground_error_text : GroundError → List ℕ
ground_error_text refusals.TooManyActs = line (codes "; limit: more than 1048576 actions")
ground_error_text refusals.TooManyAtoms = line (codes "; limit: more than 65536 atoms")
ground_error_text (refusals.GoalOutOfReach goal atom) = line (codes "; goal out of reach " ++ atom)
ground_error_text refusals.Memory = []
