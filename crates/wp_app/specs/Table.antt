-- The output of words and files: one text and one status, or none where it comes to a file that is not there. Of each command stands here
-- the list of the steps in which its answer is sought. A step goes on with a value, or it is the last: the answer is that of the first
-- step that does not go on, and a file that is not there has none.
use Rattle.std.specs.Prelude.{ℕ, Bool, Option, List}
use Rattle.wp_edge.specs.Fetch.{Contents}
use Rattle.wp_syntax.specs.declared.error.Part.TheVariants as parts
use Rattle.wp_check.specs.declared.step.Step.{Step as PlanStep}
use Rattle.wp_plain.specs.declared.settings.Settings.{Settings}
use Rattle.wp_gen.specs.Depot.{domain_text, problem_text}
use Rattle.wp_watch.specs.declared.watch.WatchKind.{WatchKind}
use Rattle.wp_words.specs.declared.commands.Command.{Command}
use Rattle.wp_words.specs.declared.commands.Command.TheVariants.{Audit, Check, Gen, Ground, Plan}
use Rattle.wp_app.specs.declared.inputs.Texts.{Texts}
use Rattle.wp_app.specs.declared.reply.Reply.{Reply}
use Rattle.wp_app.specs.Requests.{Asked, Request}
use Rattle.wp_app.specs.Steps.{Step, goes, reply_of, ◌>>=◌}
use Rattle.wp_app.specs.Output.{audited_reply, cert_step, domain_step, ground_reply, grounded_step, lifted_step, named, part_of, plan_step, problem_step, request_step, searched_reply, verdict_reply, whole}

-- the two texts of a task: the domain is read before the problem is fetched, and a file that is too long comes before its fault
unfoldable pub texts_step : List ℕ → List ℕ → Contents → Step Texts
texts_step domain problem files = do
  domain_text ← part_of parts.Domain domain files
  read_domain ← domain_step domain_text
  problem_text ← part_of parts.Problem problem files
  read_problem ← problem_step problem_text
  goes (record { domain = read_domain; problem = read_problem })

-- the same of the texts that are made of a number and a size
unfoldable pub made_step : ℕ → ℕ → Step Texts
made_step number size = do
  read_domain ← domain_step domain_text
  read_problem ← problem_step (problem_text number size)
  goes (record { domain = read_domain; problem = read_problem })

-- the steps of a plan file
abbrev pub steps_in : List ℕ → Contents → Step (List PlanStep)
steps_in plan files = do
  plan_text ← part_of parts.Plan plan files
  plan_step plan_text

-- `check`: the plan comes behind the domain and the problem, and faults of names before the verdict
unfoldable pub answer_to_check : List ℕ → List ℕ → List ℕ → Contents → Step Reply
answer_to_check domain problem plan files = do
  texts ← texts_step domain problem files
  steps ← steps_in plan files
  lifted ← lifted_step texts.domain texts.problem
  goes (verdict_reply lifted steps)

-- `ground`: behind the faults of names stands the cause against a task
unfoldable pub answer_to_ground : List ℕ → List ℕ → Contents → Step Reply
answer_to_ground domain problem files = do
  texts ← texts_step domain problem files
  lifted ← lifted_step texts.domain texts.problem
  grounded ← grounded_step lifted
  goes (ground_reply grounded)

-- `plan`: the same, and then how the search of the task ends, with what the watchers say of it and perhaps a certificate
unfoldable pub answer_to_plan : List ℕ → List ℕ → Settings → Bool → List (WatchKind × Option ℕ) → Contents → Step Reply
answer_to_plan domain problem settings closed watchers files = do
  texts ← texts_step domain problem files
  lifted ← lifted_step texts.domain texts.problem
  grounded ← grounded_step lifted
  goes (searched_reply (whole closed) settings watchers grounded)

-- `gen`: the texts are those that are made, and a line that names the number and the size stands in place of a plan's steps
unfoldable pub answer_to_gen : ℕ → ℕ → Settings → List (WatchKind × Option ℕ) → Step Reply
answer_to_gen number size settings watchers = do
  texts ← made_step number size
  lifted ← lifted_step texts.domain texts.problem
  grounded ← grounded_step lifted
  goes (searched_reply (named number size) settings watchers grounded)

-- the states of a certificate
abbrev pub cert_in : List ℕ → Contents → Step (List (List ℕ))
cert_in certificate files = do
  cert_text ← part_of parts.Certificate certificate files
  cert_step cert_text

-- `audit`: the certificate comes behind the domain and the problem, and the cause against a task before what fails of it
unfoldable pub answer_to_audit : List ℕ → List ℕ → List ℕ → Contents → Step Reply
answer_to_audit domain problem certificate files = do
  texts ← texts_step domain problem files
  cert ← cert_in certificate files
  lifted ← lifted_step texts.domain texts.problem
  grounded ← grounded_step lifted
  goes (audited_reply grounded cert)

abbrev pub answer_to : List (WatchKind × Option ℕ) → Command → Contents → Step Reply
answer_to watchers (Check domain problem plan) files = answer_to_check domain problem plan files
answer_to watchers (Ground domain problem) files = answer_to_ground domain problem files
answer_to watchers (Plan domain problem settings watch plain closed) files = answer_to_plan domain problem settings closed watchers files
answer_to watchers (Gen number size settings watch plain) files = answer_to_gen number size settings watchers
answer_to watchers (Audit domain problem certificate) files = answer_to_audit domain problem certificate files

unfoldable pub answer_to_request : Request → Contents → Step Reply
answer_to_request request files = answer_to request.watchers request.command files

-- words without a command come before all
unfoldable pub answer_sought : Asked → Contents → Step Reply
answer_sought asked files = do
  request ← request_step asked
  answer_to_request request files

abbrev pub answer_of : Asked → Contents → Option Reply
answer_of asked files = reply_of (answer_sought asked files)
