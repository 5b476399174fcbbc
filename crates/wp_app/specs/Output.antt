-- The steps in which an answer is sought: what each of them goes on with, and the answer where it does not. Which steps each command has,
-- and in which order, stands in Table.
use Rattle.std.specs.Prelude.{◌&&◌, ℕ, nat_lt, Bool, true, false, Option, None, Some, Result, Ok, Err, List, [], ◌∷◌, ◌++◌, length, if◌then◌else◌}
use Rattle.std.specs.List.{flat_map}
use Rattle.std.specs.FinMap.{get}
use Rattle.wp_edge.specs.Fetch.{Contents}
use Rattle.wp_lex.specs.declared.error.LexError.{LexError}
use Rattle.wp_lex.specs.declared.item.Item.{Item}
use Rattle.wp_lex.specs.Trees.{trees_of}
use Rattle.wp_lex.specs.Faults.{fault_of}
use Rattle.wp_lex.specs.Items.{items_of}
use Rattle.wp_syntax.specs.declared.error.Part.{Part}
use Rattle.wp_syntax.specs.declared.error.Part.TheVariants as parts
use Rattle.wp_syntax.specs.declared.error.PddlError.TheVariants as errors
use Rattle.wp_syntax.specs.declared.records.Domain.{Domain}
use Rattle.wp_syntax.specs.declared.records.Problem.{Problem}
use Rattle.wp_syntax.specs.Reading.{Wrong, refusal_at}
use Rattle.wp_syntax.specs.Domains.{domain_of}
use Rattle.wp_syntax.specs.Problems.{problem_of}
use Rattle.wp_lift.specs.Problem.{Lifting}
use Rattle.wp_lift.specs.declared.fault.Fault.{Fault}
use Rattle.wp_lift.specs.Lifting.{lifting_of}
use Rattle.wp_check.specs.declared.step.Step.{Step as PlanStep}
use Rattle.wp_check.specs.declared.step.PlanError.{PlanError}
use Rattle.wp_check.specs.declared.cause.Verdict.{Verdict}
use Rattle.wp_check.specs.declared.cause.Verdict.TheVariants.{Valid, Bad, GoalUnmet}
use Rattle.wp_check.specs.PlanFile.{plan_of}
use Rattle.wp_check.specs.Verdicts.{verdict_of}
use Rattle.wp_ground.specs.declared.grounding.Grounded.{Grounded}
use Rattle.wp_ground.specs.declared.grounding.GroundError.{GroundError}
use Rattle.wp_ground.specs.declared.grounding.GroundError.TheVariants as grounds
use Rattle.wp_ground.specs.Refusals.{grounded_of, refusal_of}
use Rattle.wp_app.specs.declared.reply.Reply.{Reply}
use Rattle.wp_app.specs.declared.reply.Status.{Status}
use Rattle.wp_app.specs.declared.reply.Status.TheVariants as statuses
use Rattle.wp_app.specs.Requests.{Asked, Request, request_of}
use Rattle.wp_app.specs.Steps.{Step, missing, ends, goes, ◌>>=◌}
use Rattle.wp_plain.specs.declared.settings.Search.{Search}
use Rattle.wp_plain.specs.declared.settings.Search.TheVariants.{KBfws, F5}
use Rattle.wp_plain.specs.declared.settings.Settings.{Settings}
use Rattle.wp_plain.specs.declared.ending.Ending.{Ending}
use Rattle.wp_plain.specs.declared.ending.How.{How}
use Rattle.wp_plain.specs.declared.ending.How.TheVariants as hows
use Rattle.wp_plain.specs.Pairs.{all_tuples, tuple_count}
use Rattle.wp_plain.specs.Run.{run, ending_of}
use Rattle.wp_watch.specs.declared.watch.WatchKind.{WatchKind}
use Rattle.wp_watch.specs.Places.{texts_after}
use Rattle.wp_report.specs.Inputs.{gen_text, usage_text, too_long_text}
use Rattle.wp_report.specs.Refusals.{lex_text, pddl_text, plan_error_text}
use Rattle.wp_report.specs.Verdicts.{verdict_text}
use Rattle.wp_report.specs.Tasks.{ground_text, ground_error_text}
use Rattle.wp_report.specs.Endings.{ending_text}
use Rattle.wp_task.specs.Task.{PlanningTask}
use Rattle.wp_cert.specs.declared.answer.Audit.{Audit as Audited}
use Rattle.wp_cert.specs.declared.answer.Audit.TheVariants as audits
use Rattle.wp_cert.specs.declared.errors.CertError.TheVariants as certs
use Rattle.wp_cert.specs.Format.{cert_of, text_of}
use Rattle.wp_cert.specs.Audits.{audit_of}
use Rattle.wp_cert.specs.Closing.{closed_cert}
use Rattle.wp_cert.specs.Texts.{audit_text, cert_error_text}
use Rattle.wp_app.specs.declared.shown.Shown.{Shown}

-- the most bytes that the file of a part may have
abbrev pub limit_of : Part → ℕ
limit_of parts.Domain = 4194304
limit_of parts.Problem = 16777216
limit_of parts.Plan = 16777216
limit_of parts.Certificate = 268435456

abbrev pub answered : {A : Type 0} → Status → List ℕ → Step A
answered status text = ends (record { text = text; status = status })

-- the line of a fault
abbrev pub refused : {A : Type 0} → List ℕ → Step A
refused text = answered statuses.Refused text

unfoldable pub request_step : Asked → Step Request
request_step asked = elim (request_of asked) [ Some request ↦ goes request | None ↦ answered statuses.Usage usage_text ]

-- the bytes of a part's file, where they are within its limit
abbrev pub within : Part → Option (List ℕ) → Step (List ℕ)
within part None = missing
within part (Some bytes) = elim (nat_lt (limit_of part) (length bytes)) [
  | true ↦ answered statuses.Limit (too_long_text part (limit_of part))
  | false ↦ goes bytes
]

unfoldable pub part_of : Part → List ℕ → Contents → Step (List ℕ)
part_of part name files = within part (get files name)

-- the record of a list, where it has one
abbrev pub record_by : {A : Type 0} → Part → List Wrong → A → Step A
record_by part (fault ∷ faults) value = refused (pddl_text (refusal_at part fault))
record_by part [] value = goes value

-- the items of a text without a lexical fault
abbrev pub items_by : Part → Option LexError → List Item → Step (List Item)
items_by part (Some fault) items = refused (lex_text part fault)
items_by part None items = goes items

unfoldable pub items_step : Part → List ℕ → Step (List Item)
items_step part text = items_by part (fault_of text) (items_of text)

unfoldable pub domain_in : List Item → Step Domain
domain_in items = let read = domain_of (trees_of items) in record_by parts.Domain read.faults read.value

unfoldable pub problem_in : List Item → Step Problem
problem_in items = let read = problem_of (trees_of items) in record_by parts.Problem read.faults read.value

unfoldable pub domain_step : List ℕ → Step Domain
domain_step text = do
  items ← items_step parts.Domain text
  domain_in items

unfoldable pub problem_step : List ℕ → Step Problem
problem_step text = do
  items ← items_step parts.Problem text
  problem_in items

abbrev pub steps_by : Result (List PlanStep) PlanError → Step (List PlanStep)
steps_by (Ok steps) = goes steps
steps_by (Err error) = refused (plan_error_text error)

unfoldable pub plan_step : List ℕ → Step (List PlanStep)
plan_step text = steps_by (plan_of text)

abbrev pub cert_by : Result (List (List ℕ)) ℕ → Step (List (List ℕ))
cert_by (Ok cert) = goes cert
cert_by (Err line) = refused (cert_error_text (certs.Line line))

unfoldable pub cert_step : List ℕ → Step (List (List ℕ))
cert_step text = cert_by (cert_of text)

-- the first fault of names is in the text of its part
abbrev pub lifted_by : List Fault → Lifting → Step Lifting
lifted_by [] value = goes value
lifted_by (fault ∷ faults) value = refused (pddl_text (errors.Bad fault.part fault.kind fault.at))

unfoldable pub lifted_step : Domain → Problem → Step Lifting
lifted_step domain problem = let walk = lifting_of domain problem in lifted_by walk.faults walk.value

abbrev pub verdict_status : Verdict → Status
verdict_status Valid = statuses.Done
verdict_status (Bad step why) = statuses.InvalidPlan
verdict_status (GoalUnmet place) = statuses.InvalidPlan

unfoldable pub verdict_reply : Lifting → List PlanStep → Reply
verdict_reply lifted steps =
    let verdict = verdict_of lifted steps in record { text = verdict_text lifted steps verdict; status = verdict_status verdict }

abbrev pub ground_error_status : GroundError → Status
ground_error_status grounds.TooManyActs = statuses.Limit
ground_error_status grounds.TooManyAtoms = statuses.Limit
ground_error_status (grounds.GoalOutOfReach goal atom) = statuses.OutOfReach
ground_error_status grounds.Memory = statuses.Memory

-- the task, where there is no cause against it
abbrev pub task_by : Option GroundError → Grounded → Step Grounded
task_by (Some error) grounded = answered (ground_error_status error) (ground_error_text error)
task_by None grounded = goes grounded

unfoldable pub grounded_step : Lifting → Step Grounded
grounded_step lifted = task_by (refusal_of lifted) (grounded_of lifted)

unfoldable pub ground_reply : Grounded → Reply
ground_reply grounded = record { text = ground_text grounded; status = statuses.Done }

abbrev pub ending_status : Search → How → Status
ending_status search (hows.Found plan) = statuses.Done
ending_status F5 hows.Emptied = statuses.NoPlan
ending_status KBfws hows.Emptied = statuses.QueueEmpty
ending_status search hows.Budget = statuses.Budget
ending_status search (hows.Words pairs) = statuses.Words

-- a plan is shown with its steps and nothing before them, and that there is none perhaps with a certificate; a task that is made by its
-- line, without the steps of its plan
abbrev pub whole : Bool → Shown
whole closed = record { front = []; with_plan = true; closed = closed }

abbrev pub named : ℕ → ℕ → Shown
named number size = record { front = gen_text number size; with_plan = false; closed = false }

unfoldable pub ending_reply : Shown → Settings → Grounded → Ending → Reply
ending_reply shown settings grounded ending = record {
  text = shown.front ++ ending_text grounded settings (tuple_count settings.width grounded.task.atoms) ending shown.with_plan;
  status = ending_status settings.search ending.how;
}

-- a reply with more text behind its own
abbrev pub with_texts : Reply → List (List ℕ) → Reply
with_texts reply texts = record reply { text = reply.text ++ flat_map (λ text. text) texts }

-- the text of a certificate, where there is one
abbrev pub cert_text : Option (List (List ℕ)) → List ℕ
cert_text None = []
cert_text (Some cert) = text_of cert

-- a certificate lists at most so many states
abbrev pub most_listed : ℕ → ℕ
most_listed kept = if nat_lt 100000000 kept then 100000000 else kept

-- the certificate of the reachable states of a task, of which a search has kept so many
unfoldable pub closed_text : PlanningTask → ℕ → List ℕ
closed_text task kept = cert_text (closed_cert task (most_listed kept))

abbrev pub is_no_plan : Status → Bool
is_no_plan statuses.NoPlan = true
is_no_plan status = false

-- a reply that there is no plan, with more text behind its own where that is asked for; every other stays
abbrev pub certified : Bool → List ℕ → Reply → Reply
certified closed text reply = record reply { text = reply.text ++ (if is_no_plan reply.status && closed then text else []) }

-- the ending of the search of the task, behind it what the watchers say of its events, in their order, and behind that a certificate
unfoldable pub searched_reply : Shown → Settings → List (WatchKind × Option ℕ) → Grounded → Reply
searched_reply shown settings watchers grounded =
    certified shown.closed (closed_text grounded.task (ending_of grounded.task settings (all_tuples grounded.task settings)).counts.kept)
    (with_texts (ending_reply shown settings grounded (ending_of grounded.task settings (all_tuples grounded.task settings)))
    (texts_after watchers (run grounded.task settings (all_tuples grounded.task settings)).1.events))

abbrev pub audit_status : Audited → Status
audit_status audits.Yes = statuses.Done
audit_status (audits.Foreign state) = statuses.InvalidCert
audit_status audits.NoStart = statuses.InvalidCert
audit_status (audits.Goal state) = statuses.InvalidCert
audit_status (audits.Open state act) = statuses.InvalidCert

unfoldable pub audited_reply : Grounded → List (List ℕ) → Reply
audited_reply grounded cert =
    let audit = audit_of grounded.task cert in record { text = audit_text grounded.act_names cert audit; status = audit_status audit }
