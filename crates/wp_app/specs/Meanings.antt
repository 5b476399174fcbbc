-- What the status of an answer means, for each command and whatever the files.
use Rattle.std.specs.Prelude.{◌≡◌, ◌≢◌, ◌↔◌, ◌⊎◌, ℕ, Bool, true, false, Option, None, Some, List}
use Rattle.std.specs.List.{AllZip}
use Rattle.wp_edge.specs.Fetch.{Contents}
use Rattle.wp_lift.specs.Problem.{Lifting, Instance}
use Rattle.wp_lift.specs.Worlds.{is_valid}
use Rattle.wp_check.specs.declared.step.Step.{Step as PlanStep}
use Rattle.wp_check.specs.declared.cause.Verdict.TheVariants.{Valid}
use Rattle.wp_check.specs.Laws.{Names}
use Rattle.wp_check.specs.Verdicts.{verdict_of}
use Rattle.wp_ground.specs.declared.grounding.Grounded.{Grounded}
use Rattle.wp_ground.specs.declared.grounding.GroundError.TheVariants.{GoalOutOfReach}
use Rattle.wp_ground.specs.Refusals.{refusal_of}
use Rattle.wp_ground.specs.Tasks.{task_of}
use Rattle.wp_cert.specs.declared.answer.Audit.TheVariants.{Yes}
use Rattle.wp_cert.specs.Audits.{audit_of}
use Rattle.wp_plain.specs.declared.settings.Search.{Search}
use Rattle.wp_plain.specs.declared.settings.Search.TheVariants.{KBfws, F5}
use Rattle.wp_plain.specs.declared.settings.Settings.{Settings}
use Rattle.wp_plain.specs.declared.ending.Ending.{Ending}
use Rattle.wp_plain.specs.Pairs.{all_tuples}
use Rattle.wp_plain.specs.Run.{ending_of}
use Rattle.wp_app.specs.declared.reply.Reply.{Reply}
use Rattle.wp_app.specs.declared.reply.Status.{Status}
use Rattle.wp_app.specs.declared.reply.Status.TheVariants as statuses
use Rattle.wp_app.specs.declared.inputs.Texts.{Texts}
use Rattle.wp_words.specs.declared.commands.Command.{Command}
use Rattle.wp_words.specs.declared.commands.Command.TheVariants.{Audit, Check, Gen, Ground, Plan}
use Rattle.wp_words.specs.Words.{command_of}
use Rattle.wp_app.specs.Requests.{Asked}
use Rattle.wp_app.specs.Steps.{Step, goes, ◌>>=◌}
use Rattle.wp_app.specs.Output.{ending_status, grounded_step, lifted_step}
use Rattle.wp_app.specs.Table.{answer_of, cert_in, made_step, steps_in, texts_step}

-- the words are those of the command, and this is their answer
pub record IsAnswered (asked : Asked) (files : Contents) (command : Command) (reply : Reply) : Type 0 where
  pub named : command_of asked.words ≡ Some command
  pub answer : answer_of asked files ≡ Some reply

-- ---- which statuses
-- of a search: BFWS(f5) says that there is no plan, k-BFWS that no node is left
abbrev pub is_of_search : Search → Status → Bool
is_of_search search statuses.Done = true
is_of_search search statuses.Refused = true
is_of_search search statuses.Limit = true
is_of_search F5 statuses.NoPlan = true
is_of_search KBfws statuses.QueueEmpty = true
is_of_search search statuses.Budget = true
is_of_search search statuses.Words = true
is_of_search search statuses.OutOfReach = true
is_of_search search status = false

abbrev pub is_of_check : Status → Bool
is_of_check statuses.Done = true
is_of_check statuses.InvalidPlan = true
is_of_check statuses.Refused = true
is_of_check statuses.Limit = true
is_of_check status = false

abbrev pub is_of_ground : Status → Bool
is_of_ground statuses.Done = true
is_of_ground statuses.Refused = true
is_of_ground statuses.Limit = true
is_of_ground statuses.OutOfReach = true
is_of_ground status = false

abbrev pub is_of_audit : Status → Bool
is_of_audit statuses.Done = true
is_of_audit statuses.InvalidCert = true
is_of_audit statuses.Refused = true
is_of_audit statuses.Limit = true
is_of_audit statuses.OutOfReach = true
is_of_audit status = false

abbrev pub is_of : Command → Status → Bool
is_of (Check domain problem plan) status = is_of_check status
is_of (Ground domain problem) status = is_of_ground status
is_of (Plan domain problem settings watch plain closed) status = is_of_search settings.search status
is_of (Gen number size settings watch plain) status = is_of_search settings.search status
is_of (Audit domain problem certificate) status = is_of_audit status

-- a command has no other status than these
abbrev pub AnswersAreOfTheirCommands : Type 0
AnswersAreOfTheirCommands =
    (asked : Asked) (files : Contents) (command : Command) (reply : Reply) → IsAnswered asked files command reply
    → is_of command reply.status ≡ true

-- ---- what is read
-- the domain and the problem of a command: those of its files, or those that are made
abbrev pub texts_of : Command → Contents → Step Texts
texts_of (Check domain problem plan) files = texts_step domain problem files
texts_of (Ground domain problem) files = texts_step domain problem files
texts_of (Plan domain problem settings watch plain closed) files = texts_step domain problem files
texts_of (Gen number size settings watch plain) files = made_step number size
texts_of (Audit domain problem certificate) files = texts_step domain problem files

-- the same where a certificate that the command names is read, too
abbrev pub inputs_of : Command → Contents → Step Texts
inputs_of (Audit domain problem certificate) files = do
  texts ← texts_step domain problem files
  cert ← cert_in certificate files
  goes texts
inputs_of (Check domain problem plan) files = texts_step domain problem files
inputs_of (Ground domain problem) files = texts_step domain problem files
inputs_of (Plan domain problem settings watch plain closed) files = texts_step domain problem files
inputs_of (Gen number size settings watch plain) files = made_step number size

-- they are lifted without a fault
pub record AreLifted (files : Contents) (command : Command) (lifted : Lifting) : Type 0 where
  pub texts : Texts
  pub read : inputs_of command files ≡ goes texts
  pub lifts : lifted_step texts.domain texts.problem ≡ goes lifted

-- ---- `check`
-- the domain and the problem are lifted, and the plan file is read as these steps
pub record IsJudged (files : Contents) (domain problem plan : List ℕ) (lifted : Lifting) (steps : List PlanStep) : Type 0 where
  pub lifts : AreLifted files (Check domain problem plan) lifted
  pub steps_read : steps_in plan files ≡ goes steps

-- and the steps name the instances of a valid plan
pub record HasValidPlan (files : Contents) (domain problem plan : List ℕ) : Type 0 where
  pub lifted : Lifting
  pub steps : List PlanStep
  pub judged : IsJudged files domain problem plan lifted steps
  pub instances : List Instance
  pub names : AllZip (Names lifted) steps instances
  pub valid : is_valid lifted instances ≡ true

-- or they are not valid
pub record HasInvalidPlan (files : Contents) (domain problem plan : List ℕ) : Type 0 where
  pub lifted : Lifting
  pub steps : List PlanStep
  pub judged : IsJudged files domain problem plan lifted steps
  pub invalid : verdict_of lifted steps ≢ Valid

-- `check` is done exactly where the plan file's steps name a valid plan, and says that a plan is invalid exactly where they do not
abbrev pub DoneChecksHaveValidPlans : Type 0
DoneChecksHaveValidPlans =
    (asked : Asked) (files : Contents) (domain problem plan : List ℕ) (reply : Reply)
    → IsAnswered asked files (Check domain problem plan) reply
    → (reply.status ≡ statuses.Done) ↔ HasValidPlan files domain problem plan

abbrev pub InvalidChecksHaveInvalidPlans : Type 0
InvalidChecksHaveInvalidPlans =
    (asked : Asked) (files : Contents) (domain problem plan : List ℕ) (reply : Reply)
    → IsAnswered asked files (Check domain problem plan) reply
    → (reply.status ≡ statuses.InvalidPlan) ↔ HasInvalidPlan files domain problem plan

-- ---- `audit`
-- all three files are read, and no cause is against the task
pub record IsAudited (files : Contents) (domain problem certificate : List ℕ) (lifted : Lifting) (cert : List (List ℕ)) : Type 0 where
  pub lifts : AreLifted files (Audit domain problem certificate) lifted
  pub cert_read : cert_in certificate files ≡ goes cert
  pub admitted : refusal_of lifted ≡ None

-- and the states of the certificate are closed in it
pub record HasClosedStates (files : Contents) (domain problem certificate : List ℕ) : Type 0 where
  pub lifted : Lifting
  pub cert : List (List ℕ)
  pub audited : IsAudited files domain problem certificate lifted cert
  pub closed : audit_of (task_of lifted) cert ≡ Yes

-- or they are not
pub record HasOpenStates (files : Contents) (domain problem certificate : List ℕ) : Type 0 where
  pub lifted : Lifting
  pub cert : List (List ℕ)
  pub audited : IsAudited files domain problem certificate lifted cert
  pub open_somewhere : audit_of (task_of lifted) cert ≢ Yes

-- `audit` is done exactly where the states are closed, and says that the certificate is invalid exactly where they are not
abbrev pub DoneAuditsHaveClosedStates : Type 0
DoneAuditsHaveClosedStates =
    (asked : Asked) (files : Contents) (domain problem certificate : List ℕ) (reply : Reply)
    → IsAnswered asked files (Audit domain problem certificate) reply
    → (reply.status ≡ statuses.Done) ↔ HasClosedStates files domain problem certificate

abbrev pub InvalidAuditsHaveOpenStates : Type 0
InvalidAuditsHaveOpenStates =
    (asked : Asked) (files : Contents) (domain problem certificate : List ℕ) (reply : Reply)
    → IsAnswered asked files (Audit domain problem certificate) reply
    → (reply.status ≡ statuses.InvalidCert) ↔ HasOpenStates files domain problem certificate

-- ---- searches
abbrev pub settings_of : Command → Option Settings
settings_of (Check domain problem plan) = None
settings_of (Ground domain problem) = None
settings_of (Plan domain problem settings watch plain closed) = Some settings
settings_of (Gen number size settings watch plain) = Some settings
settings_of (Audit domain problem certificate) = None

-- the command searches with these settings, no cause is against its task, and the search ends so
pub record EndsSo (files : Contents) (command : Command) (settings : Settings) (ending : Ending) : Type 0 where
  pub asks : settings_of command ≡ Some settings
  pub lifted : Lifting
  pub lifts : AreLifted files command lifted
  pub grounded : Grounded
  pub grounds : grounded_step lifted ≡ goes grounded
  pub ends : ending_of grounded.task settings (all_tuples grounded.task settings) ≡ ending

-- the statuses of endings
abbrev pub is_of_ending : Status → Bool
is_of_ending statuses.Done = true
is_of_ending statuses.NoPlan = true
is_of_ending statuses.QueueEmpty = true
is_of_ending statuses.Budget = true
is_of_ending statuses.Words = true
is_of_ending status = false

-- such a status comes of the ending that has it, and an ending has its status
abbrev pub EndingsHaveTheirStatuses : Type 0
EndingsHaveTheirStatuses =
    (asked : Asked) (files : Contents) (command : Command) (settings : Settings) (reply : Reply)
    → IsAnswered asked files command reply → settings_of command ≡ Some settings
    → ((is_of_ending reply.status ≡ true) → (ending : Ending) × EndsSo files command settings ending × (ending_status settings.search ending.how ≡ reply.status))
    × ((ending : Ending) → EndsSo files command settings ending → reply.status ≡ ending_status settings.search ending.how)

-- ---- no plan
-- no plan of what the command's texts mean is valid
abbrev pub HaveNoPlan : Contents → Command → Type 0
HaveNoPlan files command = (lifted : Lifting) × AreLifted files command lifted × ((plan : List Instance) → is_valid lifted plan ≡ false)

-- a goal atom is out of reach
abbrev pub IsOutOfReach : Contents → Command → Type 0
IsOutOfReach files command =
    (lifted : Lifting) × AreLifted files command lifted × (goal : ℕ) × (atom : List ℕ) × (refusal_of lifted ≡ Some (GoalOutOfReach goal atom))

-- of `ground`, `plan`, `gen` and `audit`, that a goal is out of reach is answered exactly where it is
abbrev pub grounds_task : Command → Bool
grounds_task (Check domain problem plan) = false
grounds_task command = true

abbrev pub UnreachedGoalsAreAnswered : Type 0
UnreachedGoalsAreAnswered =
    (asked : Asked) (files : Contents) (command : Command) (reply : Reply) → IsAnswered asked files command reply
    → grounds_task command ≡ true → (reply.status ≡ statuses.OutOfReach) ↔ IsOutOfReach files command

-- where `audit` is done no plan is valid, whoever made the certificate
abbrev pub DoneAuditsHaveNoPlan : Type 0
DoneAuditsHaveNoPlan =
    (asked : Asked) (files : Contents) (domain problem certificate : List ℕ) (reply : Reply)
    → IsAnswered asked files (Audit domain problem certificate) reply → reply.status ≡ statuses.Done
    → HaveNoPlan files (Audit domain problem certificate)

-- where any command answers that there is no plan, or that a goal is out of reach, no plan is valid
abbrev pub NoPlanIsTrue : Type 0
NoPlanIsTrue =
    (asked : Asked) (files : Contents) (command : Command) (reply : Reply) → IsAnswered asked files command reply
    → (reply.status ≡ statuses.NoPlan) ⊎ (reply.status ≡ statuses.OutOfReach) → HaveNoPlan files command
