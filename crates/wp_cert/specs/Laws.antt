-- What an audit's yes means, and what the reachable states are. Nothing is said of how a certificate came about: whoever
-- made it, a yes is enough.
use Rattle.std.specs.Prelude.{◌≡◌, ◌≢◌, ◌↔◌, ◌++◌, ◌≤◌, ◌<◌, ℕ, Bool, true, false, List, length, map, All, Contains, Some, None, Ok}
use Rattle.std.specs.List.{AllPairs, flat_map}
use Rattle.wp_task.specs.Set.{atoms_in}
use Rattle.wp_task.specs.Task.{PlanningTask, IsTask, IsReachable, is_plan}
use Rattle.wp_lift.specs.Problem.{Lifting, Instance}
use Rattle.wp_lift.specs.Worlds.{is_valid}
use Rattle.wp_lift.specs.Formed.{IsFormed}
use Rattle.wp_ground.specs.Tasks.{task_of}
use Rattle.wp_plain.specs.declared.settings.Search.TheVariants.{F5}
use Rattle.wp_plain.specs.declared.settings.Settings.{Settings}
use Rattle.wp_plain.specs.declared.ending.Ending.{Ending}
use Rattle.wp_plain.specs.declared.ending.How.TheVariants.{Emptied}
use Rattle.wp_plain.specs.Laws.{IsClosed, AreStatesKept}
use Rattle.wp_plain.specs.Pairs.{all_tuples}
use Rattle.wp_plain.specs.Ranges.{AreInRange}
use Rattle.wp_plain.specs.Run.{ending_of}
use Rattle.wp_cert.specs.declared.answer.Audit.TheVariants.{Yes}
use Rattle.wp_cert.specs.Audits.{audit_of, audit_states}
use Rattle.wp_cert.specs.Certificate.{AreStates}
use Rattle.wp_cert.specs.Closing.{closed_cert, closed_states}
use Rattle.wp_cert.specs.Format.{IsLine, cert_of, is_comment, line, text_of}

-- ---- audits
-- nothing fails exactly where the states are closed
abbrev pub YesIsClosed : Type 0
YesIsClosed = (task : PlanningTask) (states : List (List Bool)) → (audit_states task states ≡ Yes) ↔ IsClosed task states

-- so the task has no plan
abbrev pub YesHasNoPlan : Type 0
YesHasNoPlan = (task : PlanningTask) (cert : List (List ℕ)) → audit_of task cert ≡ Yes → (plan : List ℕ) → is_plan task plan ≡ false

-- and no plan of the lifted problem is valid
abbrev pub YesHasNoValidPlan : Type 0
YesHasNoValidPlan = (lifted : Lifting) (cert : List (List ℕ)) → IsFormed lifted → audit_of (task_of lifted) cert ≡ Yes →
    (steps : List Instance) → is_valid lifted steps ≡ false

-- ---- reachable states
-- each reachable state once, and no others
pub record AreReachable (task : PlanningTask) (states : List (List Bool)) : Type 0 where
  pub each : (s : List Bool) → Contains states s ↔ IsReachable task s
  pub apart : AllPairs (λ s t. s ≢ t) states

abbrev pub ClosedStatesAreReachable : Type 0
ClosedStatesAreReachable = (task : PlanningTask) (limit : ℕ) (states : List (List Bool)) → closed_states task limit ≡ Some states →
    AreReachable task states × (length states ≤ limit)

-- there are none exactly where there are more reachable states than the limit
abbrev pub NoneAreMany : Type 0
NoneAreMany = (task : PlanningTask) (limit : ℕ) (states : List (List Bool)) → closed_states task limit ≡ None →
    ((s : List Bool) → IsReachable task s → Contains states s) → limit < length states

-- ---- BFWS(f5)
-- where it is left with no node that waits, the reachable states are those that it kept, and they are closed
abbrev pub KeptStatesAreCertified : Type 0
KeptStatesAreCertified = (task : PlanningTask) (ending : Ending) (kept : List (List Bool)) → IsTask task →
    AreStatesKept task ending kept → ending.how ≡ Emptied →
    (states : List (List Bool)) × (closed_states task ending.counts.kept ≡ Some states)
    × ((s : List Bool) → Contains states s ↔ Contains kept s) × (audit_of task (map atoms_in states) ≡ Yes)

-- where a search is left with no node that waits, it has kept at most as many nodes as its budget allows expansions
abbrev pub EmptiedKeepsFew : Type 0
EmptiedKeepsFew = (task : PlanningTask) (settings : Settings) (tuples : ℕ) → (ending_of task settings tuples).how ≡ Emptied →
    (ending_of task settings tuples).counts.kept ≤ settings.budget

-- so what BFWS(f5) prints then, lines of comments with the text of the reachable states behind them, is read as a certificate, and an audit of
-- it says yes
abbrev pub EmptiedOutputIsCertified : Type 0
EmptiedOutputIsCertified = (task : PlanningTask) (settings : Settings) (comments : List (List ℕ)) → IsTask task → AreInRange settings →
    settings.search ≡ F5 → (ending_of task settings (all_tuples task settings)).how ≡ Emptied →
    All IsLine comments → All (λ (l : List ℕ). is_comment l ≡ true) comments →
    (cert : List (List ℕ)) × (closed_cert task (ending_of task settings (all_tuples task settings)).counts.kept ≡ Some cert)
    × AreStates cert × (cert_of (flat_map line comments ++ text_of cert) ≡ Ok cert) × (audit_of task cert ≡ Yes)
