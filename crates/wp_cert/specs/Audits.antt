-- The audit of a certificate: whether its states are closed under the actions of a task, and where they fail first. Closed
-- states show that the task has no plan, whoever made them: what Eriksson, Röger and Helmert (ICAPS 2017) call an
-- inductive set.
use Rattle.std.specs.Prelude.{◌≡◌, not, ℕ, ◌+◌, ◌<◌, nat_lt, Bool, List, [], ◌∷◌, map, Option, Some, None, if◌then◌else◌}
use Rattle.std.specs.List.{find, list_all, list_any}
use Rattle.std.specs.Bool.{beq}
use Rattle.std.specs.Cmp.Lexicographic.{pointwise}
use Rattle.wp_task.specs.declared.acts.Act.{Act}
use Rattle.wp_task.specs.Set.{has, set_of}
use Rattle.wp_task.specs.Task.{PlanningTask, act_at, applicable_in, result_of}
use Rattle.wp_cert.specs.declared.answer.Audit.{Audit}
use Rattle.wp_cert.specs.declared.answer.Audit.TheVariants.{Yes, Foreign, NoStart, Goal, Open}

abbrev pub is_among : List (List Bool) → List Bool → Bool
is_among states s = list_any (pointwise beq s) states

-- the first of some actions that leads to a state that is not known, and the first that applies
abbrev pub first_leaving : List Act → (List Bool → Bool) → List Bool → List ℕ → Option ℕ
first_leaving acts known s numbers = find (λ (a : ℕ). not (known (result_of (act_at acts a) s))) numbers

abbrev pub leaving : List Act → (List Bool → Bool) → List Bool → Option ℕ
leaving acts known s = first_leaving acts known s (applicable_in acts s)

abbrev pub open_at : ℕ → Option ℕ → Option Audit
open_at k None = None
open_at k (Some a) = Some (Open k a)

-- what fails at the state of this number
abbrev pub fault_at : PlanningTask → (List Bool → Bool) → ℕ → List Bool → Option Audit
fault_at task known k s = if list_all (has s) task.goals then Some (Goal k) else open_at k (leaving task.acts known s)

abbrev pub first_of : Option Audit → Audit → Audit
first_of None rest = rest
first_of (Some fault) rest = fault

-- what fails first, of the states from this number on
abbrev pub faults_from : PlanningTask → (List Bool → Bool) → ℕ → List (List Bool) → Audit
faults_from task known k [] = Yes
faults_from task known k (s ∷ rest) = first_of (fault_at task known k s) (faults_from task known (k + 1) rest)

abbrev pub audit_states : PlanningTask → List (List Bool) → Audit
audit_states task states = if is_among states task.init then faults_from task (is_among states) 0 states else NoStart

abbrev pub is_foreign : ℕ → List ℕ → Bool
is_foreign atoms listed = list_any (λ (p : ℕ). not (nat_lt p atoms)) listed

-- the first state, from this number on, with a number that is no atom
abbrev pub foreign_from : ℕ → ℕ → List (List ℕ) → Option ℕ
foreign_from atoms k [] = None
foreign_from atoms k (listed ∷ rest) = if is_foreign atoms listed then Some k else foreign_from atoms (k + 1) rest

abbrev pub states_of : ℕ → List (List ℕ) → List (List Bool)
states_of atoms cert = map (λ (listed : List ℕ). set_of listed atoms) cert

abbrev pub or_audit : Option ℕ → Audit → Audit
or_audit None audit = audit
or_audit (Some k) audit = Foreign k

abbrev pub audit_of : PlanningTask → List (List ℕ) → Audit
audit_of task cert = or_audit (foreign_from task.atoms 0 cert) (audit_states task (states_of task.atoms cert))

-- the action that an answer names is one of so many
abbrev pub NamesAct : ℕ → Audit → Type 0
NamesAct count (Open k a) = a < count
NamesAct count Yes = Unit {0}
NamesAct count (Foreign k) = Unit {0}
NamesAct count NoStart = Unit {0}
NamesAct count (Goal k) = Unit {0}
