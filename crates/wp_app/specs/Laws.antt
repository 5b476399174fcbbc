-- What the answers to `plan` mean, whatever the files: the text of a plan that is found is read as a valid plan, there is no valid
-- plan where the answer says so, k-BFWS stays within its bound, and limits that are large enough end no search.
use Rattle.std.specs.Prelude.{◌≡◌, ◌≢◌, ◌++◌, ◌+◌, ◌*◌, ◌≤◌, ◌⊎◌, ℕ, Bool, true, false, Some, Ok, List, length, map, Contains}
use Rattle.wp_edge.specs.Fetch.{Contents}
use Rattle.wp_lift.specs.Problem.{Lifting, Instance}
use Rattle.wp_lift.specs.Worlds.{is_valid}
use Rattle.wp_task.specs.Task.{IsReachable}
use Rattle.wp_check.specs.declared.cause.Verdict.TheVariants.{Valid}
use Rattle.wp_check.specs.PlanFile.{plan_of}
use Rattle.wp_check.specs.PlanText.{AreComments, steps_text}
use Rattle.wp_check.specs.Printed.{naming_steps}
use Rattle.wp_check.specs.Verdicts.{verdict_of}
use Rattle.wp_ground.specs.declared.grounding.Grounded.{Grounded}
use Rattle.wp_ground.specs.declared.grounding.GroundError.TheVariants.{GoalOutOfReach}
use Rattle.wp_ground.specs.Refusals.{refusal_of}
use Rattle.wp_ground.specs.Tasks.{task_of, instance_at}
use Rattle.wp_plain.specs.declared.settings.Search.TheVariants.{KBfws, F5}
use Rattle.wp_cert.specs.declared.answer.Audit.TheVariants.{Yes}
use Rattle.wp_cert.specs.Audits.{audit_of}
use Rattle.wp_cert.specs.Format.{cert_of}
use Rattle.wp_plain.specs.declared.settings.Settings.{Settings}
use Rattle.wp_plain.specs.declared.ending.Ending.{Ending}
use Rattle.wp_plain.specs.declared.ending.How.TheVariants.{Found, Emptied}
use Rattle.wp_plain.specs.Pairs.{all_tuples, tuple_count}
use Rattle.wp_plain.specs.Ranges.{AreInRange}
use Rattle.wp_plain.specs.Run.{ending_of}
use Rattle.wp_app.specs.declared.reply.Reply.{Reply}
use Rattle.wp_app.specs.declared.reply.Status.TheVariants as statuses
use Rattle.wp_app.specs.declared.inputs.Texts.{Texts}
use Rattle.wp_watch.specs.declared.watch.WatchKind.{WatchKind}
use Rattle.wp_words.specs.declared.commands.Command.TheVariants.{Plan}
use Rattle.wp_words.specs.Words.{command_of}
use Rattle.wp_app.specs.Steps.{goes}
use Rattle.wp_app.specs.Requests.{Asked}
use Rattle.wp_app.specs.Output.{lifted_step, grounded_step}
use Rattle.wp_app.specs.Table.{answer_of, texts_step}

-- the words are those of `plan` with these settings, and its files are lifted without a fault
pub record IsLifted (asked : Asked) (files : Contents) (settings : Settings) (lifted : Lifting) : Type 0 where
  pub domain : List ℕ
  pub problem : List ℕ
  pub watch : List WatchKind
  pub plain : Bool
  pub closed : Bool
  pub texts : Texts
  pub command : command_of asked.words ≡ Some (Plan domain problem settings watch plain closed)
  pub read : texts_step domain problem files ≡ goes texts
  pub lifts : lifted_step texts.domain texts.problem ≡ goes lifted

-- and no cause is against the task, whose search ends so
pub record IsSearched (asked : Asked) (files : Contents) (settings : Settings) (lifted : Lifting) (ending : Ending) : Type 0 where
  pub lifts : IsLifted asked files settings lifted
  pub grounded : Grounded
  pub grounds : grounded_step lifted ≡ goes grounded
  pub ends : ending_of grounded.task settings (all_tuples grounded.task settings) ≡ ending

-- the text is a line for each step that names one of these instances, and behind them lines of comments; it is read as these steps, and
-- they are valid
pub record IsReadAs (lifted : Lifting) (plan : List Instance) (text : List ℕ) : Type 0 where
  pub comments : List ℕ
  pub commented : AreComments comments
  pub shown : text ≡ steps_text (naming_steps lifted plan) ++ comments
  pub read : plan_of text ≡ Ok (naming_steps lifted plan)
  pub valid : verdict_of lifted (naming_steps lifted plan) ≡ Valid

-- where a plan is found, the answer is done, and its whole text is the lines of the plan's steps, which are valid, and comments behind them
abbrev pub FoundPlansAreReadBack : Type 0
FoundPlansAreReadBack =
    (asked : Asked) (files : Contents) (settings : Settings) (lifted : Lifting) (ending : Ending) (plan : List ℕ)
    → IsSearched asked files settings lifted ending → ending.how ≡ Found plan
    → (reply : Reply) × (answer_of asked files ≡ Some reply) × (reply.status ≡ statuses.Done)
    × IsReadAs lifted (map (instance_at lifted) plan) reply.text

-- where a goal atom is out of reach, no plan is valid
abbrev pub GoalsOutOfReachHaveNoPlan : Type 0
GoalsOutOfReachHaveNoPlan =
    (asked : Asked) (files : Contents) (settings : Settings) (lifted : Lifting) (goal : ℕ) (atom : List ℕ)
    → IsLifted asked files settings lifted → refusal_of lifted ≡ Some (GoalOutOfReach goal atom)
    → (plan : List Instance) → is_valid lifted plan ≡ false

-- where BFWS(f5) is left with no node that waits, no plan is valid
abbrev pub EmptiedSearchesHaveNoPlan : Type 0
EmptiedSearchesHaveNoPlan =
    (asked : Asked) (files : Contents) (settings : Settings) (lifted : Lifting) (ending : Ending)
    → IsSearched asked files settings lifted ending → settings.search ≡ F5 → ending.how ≡ Emptied
    → (plan : List Instance) → is_valid lifted plan ≡ false

-- k-BFWS expands at most one node more than the pairs of counters times the tuples
abbrev pub SearchesAreBounded : Type 0
SearchesAreBounded =
    (asked : Asked) (files : Contents) (settings : Settings) (lifted : Lifting) (ending : Ending)
    → IsSearched asked files settings lifted ending → settings.search ≡ KBfws
    → ending.counts.expanded ≤ 1 + ending.counts.pairs * tuple_count settings.width (task_of lifted).atoms

-- k-BFWS with a budget above that bound is not answered that the budget is spent
abbrev pub LargeBudgetsAreNotSpent : Type 0
LargeBudgetsAreNotSpent =
    (asked : Asked) (files : Contents) (settings : Settings) (lifted : Lifting) (ending : Ending)
    → IsSearched asked files settings lifted ending → settings.search ≡ KBfws
    → 1 + ending.counts.pairs * tuple_count settings.width (task_of lifted).atoms ≤ settings.budget
    → (reply : Reply) × (answer_of asked files ≡ Some reply) × (reply.status ≢ statuses.Budget)

-- BFWS(f5) with a budget for all reachable states and words for all pairs is answered with a plan, or that there is none
abbrev pub LargeLimitsAreNotReached : Type 0
LargeLimitsAreNotReached =
    (asked : Asked) (files : Contents) (settings : Settings) (lifted : Lifting) (ending : Ending) (states : List (List Bool))
    → IsSearched asked files settings lifted ending → settings.search ≡ F5
    → ((state : List Bool) → IsReachable (task_of lifted) state → Contains states state) → length states ≤ settings.budget
    → (length (task_of lifted).goals + 1) * ((task_of lifted).atoms + 1) * tuple_count settings.width (task_of lifted).atoms ≤ settings.words
    → (reply : Reply) × (answer_of asked files ≡ Some reply) × ((reply.status ≡ statuses.Done) ⊎ (reply.status ≡ statuses.NoPlan))

-- ---- by the status
-- the words are those of `plan` with these settings, and this is their answer
pub record IsPlanned (asked : Asked) (files : Contents) (settings : Settings) (reply : Reply) : Type 0 where
  pub domain : List ℕ
  pub problem : List ℕ
  pub watch : List WatchKind
  pub plain : Bool
  pub closed : Bool
  pub command : command_of asked.words ≡ Some (Plan domain problem settings watch plain closed)
  pub answer : answer_of asked files ≡ Some reply

-- where the answer is done, its whole text is read as the steps of a valid plan of its files
abbrev pub DoneAnswersAreValidPlans : Type 0
DoneAnswersAreValidPlans =
    (asked : Asked) (files : Contents) (settings : Settings) (reply : Reply)
    → IsPlanned asked files settings reply → reply.status ≡ statuses.Done
    → (lifted : Lifting) × IsLifted asked files settings lifted × (plan : List Instance) × IsReadAs lifted plan reply.text

abbrev pub HasNoPlan : Asked → Contents → Settings → Type 0
HasNoPlan asked files settings =
    (lifted : Lifting) × IsLifted asked files settings lifted × ((plan : List Instance) → is_valid lifted plan ≡ false)

-- where it is that there is no plan, or that a goal is out of reach, its files have no valid plan
abbrev pub AnswersOfNoPlanAreTrue : Type 0
AnswersOfNoPlanAreTrue =
    (asked : Asked) (files : Contents) (settings : Settings) (reply : Reply)
    → IsPlanned asked files settings reply → (reply.status ≡ statuses.NoPlan) ⊎ (reply.status ≡ statuses.OutOfReach)
    → HasNoPlan asked files settings

-- where `plan --closed` answers that there is no plan, its whole text is read as a certificate, and an audit of it in the task of its files
-- says yes
abbrev pub ClosedAnswersAreCertified : Type 0
ClosedAnswersAreCertified =
    (asked : Asked) (files : Contents) (settings : Settings) (reply : Reply) (is : IsPlanned asked files settings reply) → AreInRange settings
    → is.closed ≡ true → reply.status ≡ statuses.NoPlan
    → (lifted : Lifting) × IsLifted asked files settings lifted
    × (cert : List (List ℕ)) × (cert_of reply.text ≡ Ok cert) × (audit_of (task_of lifted) cert ≡ Yes)
