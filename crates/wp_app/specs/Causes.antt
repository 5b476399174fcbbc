-- When the usage is told, why files are refused, why a limit is passed, when there is no answer, and when a task is printed: the causes,
-- whatever the files.
use Rattle.std.specs.Prelude.{◌≡◌, ◌≢◌, ◌↔◌, ◌⊎◌, ◌<◌, ⊤, ℕ, Bool, true, false, None, Some, Err, List, [], length}
use Rattle.std.specs.FinMap.{get}
use Rattle.wp_edge.specs.Fetch.{Contents}
use Rattle.wp_lex.specs.Trees.{trees_of}
use Rattle.wp_lex.specs.Faults.{fault_of}
use Rattle.wp_lex.specs.Items.{items_of}
use Rattle.wp_syntax.specs.declared.error.Part.{Part}
use Rattle.wp_syntax.specs.declared.error.Part.TheVariants as parts
use Rattle.wp_syntax.specs.declared.records.Domain.{Domain}
use Rattle.wp_syntax.specs.Domains.{domain_of}
use Rattle.wp_syntax.specs.Problems.{problem_of}
use Rattle.wp_lift.specs.Problem.{Lifting}
use Rattle.wp_lift.specs.Lifting.{lifting_of}
use Rattle.wp_check.specs.declared.step.Step.{Step as PlanStep}
use Rattle.wp_check.specs.declared.step.PlanError.{PlanError}
use Rattle.wp_check.specs.PlanFile.{plan_of}
use Rattle.wp_cert.specs.Format.{cert_of}
use Rattle.wp_ground.specs.declared.grounding.GroundError.TheVariants.{TooManyActs, TooManyAtoms}
use Rattle.wp_ground.specs.Refusals.{refusal_of}
use Rattle.wp_app.specs.declared.reply.Reply.{Reply}
use Rattle.wp_app.specs.declared.reply.Status.TheVariants as statuses
use Rattle.wp_app.specs.declared.inputs.Texts.{Texts}
use Rattle.wp_words.specs.declared.commands.Command.{Command}
use Rattle.wp_words.specs.declared.commands.Command.TheVariants.{Audit, Check, Gen, Ground, Plan}
use Rattle.wp_words.specs.Words.{command_of}
use Rattle.wp_app.specs.Requests.{Asked, file_of}
use Rattle.wp_app.specs.Steps.{goes, ◌>>=◌}
use Rattle.wp_app.specs.Output.{domain_step, limit_of, part_of}
use Rattle.wp_app.specs.Table.{answer_of, steps_in}
use Rattle.wp_app.specs.Meanings.{AreLifted, IsAnswered, grounds_task, inputs_of, texts_of}

-- the usage is told exactly where the words have no command
abbrev pub UsageIsOfNoCommand : Type 0
UsageIsOfNoCommand =
    (asked : Asked) (files : Contents) (reply : Reply) → answer_of asked files ≡ Some reply
    → (reply.status ≡ statuses.Usage) ↔ (command_of asked.words ≡ None)

-- the same command, with and without the search by scanning lists
abbrev pub with_plain : Bool → Command → Command
with_plain scans (Check domain problem plan) = Check domain problem plan
with_plain scans (Ground domain problem) = Ground domain problem
with_plain scans (Plan domain problem settings watch plain closed) = Plan domain problem settings watch scans closed
with_plain scans (Gen number size settings watch plain) = Gen number size settings watch scans
with_plain scans (Audit domain problem certificate) = Audit domain problem certificate

-- `--plain` plays no part in an answer
abbrev pub PlainPlaysNoPart : Type 0
PlainPlaysNoPart =
    (asked other : Asked) (files : Contents) (command : Command) (scans : Bool) → command_of asked.words ≡ Some command
    → command_of other.words ≡ Some (with_plain scans command) → other.watchers ≡ asked.watchers
    → answer_of other files ≡ answer_of asked files

-- the same command, with other numbers of workers and of nodes whose children are evaluated ahead
abbrev pub with_workers : ℕ → ℕ → Command → Command
with_workers workers ahead (Check domain problem plan) = Check domain problem plan
with_workers workers ahead (Ground domain problem) = Ground domain problem
with_workers workers ahead (Plan domain problem settings watch plain closed) =
    Plan domain problem (record settings { workers = workers; ahead = ahead }) watch plain closed
with_workers workers ahead (Gen number size settings watch plain) =
    Gen number size (record settings { workers = workers; ahead = ahead }) watch plain
with_workers workers ahead (Audit domain problem certificate) = Audit domain problem certificate

-- `--workers` and `--ahead` play no part in an answer
abbrev pub WorkersChangeNoAnswer : Type 0
WorkersChangeNoAnswer =
    (asked other : Asked) (files : Contents) (command : Command) (workers ahead : ℕ) → command_of asked.words ≡ Some command
    → command_of other.words ≡ Some (with_workers workers ahead command) → other.watchers ≡ asked.watchers
    → answer_of other files ≡ answer_of asked files

-- the command reads its texts from files; those of `gen` are made
abbrev pub reads_files : Command → Bool
reads_files (Gen number size settings watch plain) = false
reads_files command = true

-- a text has a fault of its letters and parentheses, or else of its grammar
abbrev pub IsFaulty : Part → List ℕ → Type 0
IsFaulty parts.Domain text = (fault_of text ≢ None) ⊎ ((domain_of (trees_of (items_of text))).faults ≢ [])
IsFaulty parts.Problem text = (fault_of text ≢ None) ⊎ ((problem_of (trees_of (items_of text))).faults ≢ [])
IsFaulty parts.Plan text = (error : PlanError) × (plan_of text ≡ Err error)
IsFaulty parts.Certificate text = (line : ℕ) × (cert_of text ≡ Err line)

-- all that is read before the file of a part is there, within its limit and without a fault
abbrev pub IsReadBefore : Contents → Command → Part → Type 0
IsReadBefore files command parts.Domain = ⊤
IsReadBefore files command parts.Problem =
    (name : List ℕ) × (domain : Domain) × (file_of command parts.Domain ≡ Some name) × ((part_of parts.Domain name files >>= domain_step) ≡ goes domain)
IsReadBefore files command parts.Plan = (texts : Texts) × (texts_of command files ≡ goes texts)
IsReadBefore files command parts.Certificate = (texts : Texts) × (texts_of command files ≡ goes texts)

-- the first file that cannot be read has a fault
pub record HasFaultyFile (files : Contents) (command : Command) : Type 0 where
  pub part : Part
  pub name : List ℕ
  pub named : file_of command part ≡ Some name
  pub before : IsReadBefore files command part
  pub text : List ℕ
  pub fetched : part_of part name files ≡ goes text
  pub fault : IsFaulty part text

-- the first file that cannot be read is longer than it may be
pub record HasLongFile (files : Contents) (command : Command) : Type 0 where
  pub part : Part
  pub name : List ℕ
  pub named : file_of command part ≡ Some name
  pub before : IsReadBefore files command part
  pub bytes : List ℕ
  pub there : get files name ≡ Some bytes
  pub long : limit_of part < length bytes

-- the first file that cannot be read is not there
pub record HasNoFile (files : Contents) (command : Command) : Type 0 where
  pub part : Part
  pub name : List ℕ
  pub named : file_of command part ≡ Some name
  pub before : IsReadBefore files command part
  pub gone : get files name ≡ None

-- all files are read, and a name of theirs is at fault: it is not known, or stands where it may not
pub record HasFaultyNames (files : Contents) (command : Command) : Type 0 where
  pub texts : Texts
  pub read : inputs_of command files ≡ goes texts
  pub plan : (name : List ℕ) → file_of command parts.Plan ≡ Some name → (steps : List PlanStep) × (steps_in name files ≡ goes steps)
  pub fault : (lifting_of texts.domain texts.problem).faults ≢ []

-- a task of what the files mean has too many actions or too many atoms
pub record HasTooMany (files : Contents) (command : Command) : Type 0 where
  pub grounds : grounds_task command ≡ true
  pub lifted : Lifting
  pub lifts : AreLifted files command lifted
  pub many : (refusal_of lifted ≡ Some TooManyActs) ⊎ (refusal_of lifted ≡ Some TooManyAtoms)

abbrev pub RefusalsHaveTheirCauses : Type 0
RefusalsHaveTheirCauses =
    (asked : Asked) (files : Contents) (command : Command) (reply : Reply) → IsAnswered asked files command reply → reads_files command ≡ true
    → (reply.status ≡ statuses.Refused) ↔ (HasFaultyFile files command ⊎ HasFaultyNames files command)

-- of `gen` a limit is passed by its task alone, since it names no file
abbrev pub LimitsHaveTheirCauses : Type 0
LimitsHaveTheirCauses =
    (asked : Asked) (files : Contents) (command : Command) (reply : Reply) → IsAnswered asked files command reply
    → (reply.status ≡ statuses.Limit) ↔ (HasLongFile files command ⊎ HasTooMany files command)

-- there is no answer exactly where the first file that cannot be read is not there
abbrev pub MissingFilesHaveNoAnswer : Type 0
MissingFilesHaveNoAnswer =
    (asked : Asked) (files : Contents) (command : Command) → command_of asked.words ≡ Some command
    → (answer_of asked files ≡ None) ↔ HasNoFile files command

-- the two files are read and lifted, and no cause is against the task
pub record IsGrounded (files : Contents) (domain problem : List ℕ) : Type 0 where
  pub lifted : Lifting
  pub lifts : AreLifted files (Ground domain problem) lifted
  pub admitted : refusal_of lifted ≡ None

-- `ground` prints a task exactly where there is one
abbrev pub TasksAreGrounded : Type 0
TasksAreGrounded =
    (asked : Asked) (files : Contents) (domain problem : List ℕ) (reply : Reply) → IsAnswered asked files (Ground domain problem) reply
    → (reply.status ≡ statuses.Done) ↔ IsGrounded files domain problem
