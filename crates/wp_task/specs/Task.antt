-- Planning tasks over numbered atoms and ground actions: STRIPS, after Fikes and Nilsson (1971).
-- Ours: deletes go first, so an action that deletes and adds an atom leaves it true.
use Rattle.std.specs.Prelude.{◌≡◌, ◌&&◌, ◌||◌, not, ℕ, ◌≤◌, nat_lt, Bool, true, false, List, [], ◌∷◌, length, map, filter, count_by, All, slice_index_or, Option, Some, None}
use Rattle.std.specs.List.{list_all, range_with_len}
use Rattle.wp_task.specs.Set.{has, lists, AreAtoms}
use Rattle.wp_task.specs.declared.acts.Act.{Act}

-- a task: the number of its atoms, its opening state, its goals, and its actions by number
pub record PlanningTask : Type 0 where
  pub atoms : ℕ
  pub init : List Bool
  pub goals : List ℕ
  pub acts : List Act

-- the action of a number; past the end one that needs and does nothing
abbrev pub act_at : List Act → ℕ → Act
act_at acts a = slice_index_or acts a (record { pre = []; add = []; del = [] })

-- whether all preconditions are in the state
abbrev pub applies : Act → List Bool → Bool
applies act state = list_all (has state) act.pre

-- the state less the deletes, with the adds
abbrev pub result_of : Act → List Bool → List Bool
result_of act state =
    map (λ p. (has state p && not (lists act.del p)) || lists act.add p) (range_with_len 0 (length state))

-- #g: how many goals are not in the state
abbrev pub goal_counter : List ℕ → List Bool → ℕ
goal_counter goals state = count_by (λ p. not (has state p)) goals

-- the actions that add an atom, in number order
abbrev pub adders_of : List Act → ℕ → List ℕ
adders_of acts p = filter (λ a. lists (act_at acts a).add p) (range_with_len 0 (length acts))

-- the actions that need an atom, in number order
abbrev pub needers_of : List Act → ℕ → List ℕ
needers_of acts p = filter (λ a. lists (act_at acts a).pre p) (range_with_len 0 (length acts))

-- the actions that apply in a state, in number order
abbrev pub applicable_in : List Act → List Bool → List ℕ
applicable_in acts state = filter (λ a. applies (act_at acts a) state) (range_with_len 0 (length acts))

-- the state that the actions lead to, if each of them is one and applies in its turn
abbrev pub leads_to : List Act → List Bool → List ℕ → Option (List Bool)
leads_to acts state [] = Some state
leads_to acts state (a ∷ plan) = elim (nat_lt a (length acts) && applies (act_at acts a) state) [
  | true ↦ leads_to acts (result_of (act_at acts a) state) plan
  | false ↦ None
]

abbrev pub has_goals : List ℕ → Option (List Bool) → Bool
has_goals goals None = false
has_goals goals (Some state) = list_all (has state) goals

-- whether the actions lead from the opening state to one with all goals
abbrev pub is_plan : PlanningTask → List ℕ → Bool
is_plan task plan = has_goals task.goals (leads_to task.acts task.init plan)

-- some actions, each applying in its turn, lead to the state
pub record IsReachable (task : PlanningTask) (state : List Bool) : Type 0 where
  pub actions : List ℕ
  pub leads : leads_to task.acts task.init actions ≡ Some state

-- the action speaks of the atoms below `size`, and deletes none that it adds
pub record IsAct (size : ℕ) (act : Act) : Type 0 where
  pub needs : AreAtoms size act.pre
  pub adds : AreAtoms size act.add
  pub deletes : AreAtoms size act.del
  pub apart : (p : ℕ) → lists act.add p ≡ true → lists act.del p ≡ false

-- the parts fit together and are within the limits
pub record IsTask (task : PlanningTask) : Type 0 where
  pub few_atoms : task.atoms ≤ 65536
  pub few_acts : length task.acts ≤ 1048576
  pub init_size : length task.init ≡ task.atoms
  pub goal_atoms : AreAtoms task.atoms task.goals
  pub act_atoms : All (IsAct task.atoms) task.acts
