-- Why files are refused and why a limit is passed: the first step of a command's row that ends, and what its ending says of the files.
use Rattle.std.proofs.Common.{◌≡◌, ◌≢◌, ◌<◌, ℕ, Bool, true, false, List, [], ◌∷◌, length, refl, sym, ap, ◌∙◌, subst, inl, inr}
use Rattle.std.specs.Prelude.{◌⊎◌, nat_lt, Option, None, Some, Result, Ok, Err}
use Rattle.std.specs.FinMap.{get}
use Rattle.std.proofs.lemmas.Bool.{ltb-true, lt-ltb}
use Rattle.wp_edge.specs.Fetch.{Contents}
use Rattle.wp_lex.specs.declared.error.LexError.{LexError}
use Rattle.wp_lex.specs.declared.item.Item.{Item}
use Rattle.wp_lex.specs.Trees.{trees_of}
use Rattle.wp_lex.specs.Faults.{fault_of}
use Rattle.wp_lex.specs.Items.{items_of}
use Rattle.wp_syntax.specs.declared.error.Part.{Part}
use Rattle.wp_syntax.specs.declared.error.Part.TheVariants as parts
use Rattle.wp_syntax.specs.declared.records.Domain.{Domain}
use Rattle.wp_syntax.specs.declared.records.Problem.{Problem}
use Rattle.wp_syntax.specs.Reading.{Wrong}
use Rattle.wp_syntax.specs.Domains.{domain_of}
use Rattle.wp_syntax.specs.Problems.{problem_of}
use Rattle.wp_lift.specs.Problem.{Lifting}
use Rattle.wp_lift.specs.declared.fault.Fault.{Fault}
use Rattle.wp_lift.specs.Lifting.{lifting_of}
use Rattle.wp_check.specs.declared.step.Step.{Step as PlanStep}
use Rattle.wp_check.specs.declared.step.PlanError.{PlanError}
use Rattle.wp_check.specs.PlanFile.{plan_of}
use Rattle.wp_cert.specs.declared.answer.Audit.{Audit as Audited}
use Rattle.wp_cert.specs.declared.answer.Audit.TheVariants.{Yes, Foreign, NoStart, Goal, Open}
use Rattle.wp_cert.specs.declared.errors.CertError.TheVariants as certs
use Rattle.wp_cert.specs.Audits.{audit_of}
use Rattle.wp_cert.specs.Format.{cert_of}
use Rattle.wp_cert.specs.Texts.{cert_error_text}
use Rattle.wp_app.specs.declared.reply.Reply.{Reply}
use Rattle.wp_app.specs.declared.reply.Status.{Status}
use Rattle.wp_app.specs.declared.reply.Status.TheVariants as statuses
use Rattle.wp_app.specs.declared.inputs.Texts.{Texts}
use Rattle.wp_syntax.specs.declared.error.PddlError.TheVariants as errors
use Rattle.wp_syntax.specs.Reading.{refusal_at}
use Rattle.wp_report.specs.Inputs.{too_long_text}
use Rattle.wp_report.specs.Refusals.{lex_text, pddl_text, plan_error_text}
use Rattle.wp_watch.specs.declared.watch.WatchKind.{WatchKind}
use Rattle.wp_words.specs.declared.commands.Command.{Command}
use Rattle.wp_words.specs.declared.commands.Command.TheVariants.{Audit, Check, Gen, Ground, Plan}
use Rattle.wp_check.specs.declared.cause.Verdict.{Verdict}
use Rattle.wp_check.specs.declared.cause.Verdict.TheVariants.{Valid, Bad, GoalUnmet}
use Rattle.wp_check.specs.Verdicts.{verdict_of}
use Rattle.wp_ground.specs.declared.grounding.Grounded.{Grounded}
use Rattle.wp_ground.specs.declared.grounding.GroundError.{GroundError}
use Rattle.wp_ground.specs.declared.grounding.GroundError.TheVariants.{TooManyActs, TooManyAtoms, GoalOutOfReach, Memory}
use Rattle.wp_ground.specs.Refusals.{grounded_of, refusal_of}
use Rattle.wp_plain.specs.declared.settings.Search.{Search}
use Rattle.wp_plain.specs.declared.settings.Search.TheVariants.{KBfws, F5}
use Rattle.wp_plain.specs.declared.settings.Settings.{Settings}
use Rattle.wp_plain.specs.declared.ending.How.{How}
use Rattle.wp_plain.specs.declared.ending.How.TheVariants.{Found, Emptied, Budget, Words}
use Rattle.wp_plain.specs.Pairs.{all_tuples}
use Rattle.wp_plain.specs.Run.{ending_of}
use Rattle.wp_report.specs.Tasks.{ground_error_text}
use Rattle.wp_gen.specs.Depot.{domain_text, problem_text}
use Rattle.wp_app.specs.Requests.{Asked, file_of, kept_of}
use Rattle.wp_app.specs.Steps.{Step, missing, ends, goes, reply_of, ◌>>=◌}
use Rattle.wp_app.specs.Output.{answered, audit_status, audited_reply, cert_by, cert_step, ending_reply, ending_status, ground_reply, grounded_step, searched_reply, task_by, verdict_reply, verdict_status, domain_in, domain_step, items_by, items_step, lifted_by, lifted_step, limit_of, part_of, plan_step, problem_in, problem_step, record_by, steps_by, within}
use Rattle.wp_app.specs.Table.{answer_to_request, cert_in, made_step, texts_step}
use Rattle.wp_app.specs.Causes.{HasFaultyFile, HasFaultyNames, HasLongFile, HasTooMany, IsFaulty, IsGrounded, IsReadBefore, LimitsHaveTheirCauses, RefusalsHaveTheirCauses, TasksAreGrounded, reads_files}
use Rattle.wp_app.specs.Meanings.{AreLifted, IsAnswered, grounds_task, inputs_of, texts_of}
use Rattle.wp_app.proofs.ChainLemmas.{both, from_problem, itemized, task_goes}
use Rattle.wp_app.proofs.EndLemmas.{AllowsRefusals, goes_past}
use Rattle.wp_app.proofs.ReplyLemmas.{request_with}
use Rattle.wp_app.proofs.MeaningLaws.{Watching, after_cert, after_lifting, after_steps, after_texts, final, found_cert, grounded_ends, grounding, judged, lifted_replies, replied, replied_checking, replied_grounding, reply_is, run_certified, run_checking, run_grounding}

-- ---- rows
-- a row that ends does so at its first step, or behind it
pub stops : {A B : Type 0} (first : Step A) (next : A → Step B) (reply : Reply) → (first >>= next) ≡ ends reply
    → (first ≡ ends reply) ⊎ ((value : A) × (first ≡ goes value) × (next value ≡ ends reply))
stops missing next reply e = cc
stops (ends other) next reply e = let same : other ≡ reply = cc in inl (ap ends same)
stops (goes value) next reply e = inr (value, refl, e)

-- the reply of a row is that of its first step, or of what is behind it
pub splits : {A : Type 0} (first : Step A) (next : A → Step Reply) (reply : Reply) → reply_of (first >>= next) ≡ Some reply
    → (first ≡ ends reply) ⊎ ((value : A) × (first ≡ goes value) × (reply_of (next value) ≡ Some reply))
splits missing next reply e = cc
splits (ends other) next reply e = let same : other ≡ reply = cc in inl (ap ends same)
splits (goes value) next reply e = inr (value, refl, e)

-- a step that ends with a reply of a status
pub record Stops {A : Type 0} (step : Step A) (status : Status) : Type 0 where
  pub reply : Reply
  pub ended : step ≡ ends reply
  pub so : reply.status ≡ status

pub stops_first : {A B : Type 0} (first : Step A) (next : A → Step B) (status : Status) → Stops first status → Stops (first >>= next) status
stops_first first next status stop = record { reply = stop.reply; ended = ap (λ step. step >>= next) stop.ended; so = stop.so }

pub stops_behind : {A B : Type 0} (first : Step A) (next : A → Step B) (status : Status) (value : A) → first ≡ goes value → Stops (next value) status
    → Stops (first >>= next) status
stops_behind first next status value goes_on stop =
    record { reply = stop.reply; ended = ap (λ step. step >>= next) goes_on ∙ stop.ended; so = stop.so }

-- the reply of a row that stops has that status
pub stopped : (step : Step Reply) (status : Status) (reply : Reply) → Stops step status → reply_of step ≡ Some reply → reply.status ≡ status
stopped step status reply stop e =
    let other : Reply = stop.reply in
    let told : Some other ≡ Some reply = sym (ap reply_of stop.ended) ∙ e in
    let same : other ≡ reply = cc in
    sym (ap (λ (one : Reply). one.status) same) ∙ stop.so

-- the status of a step that answers
own_status : {A : Type 0} (status : Status) (text : List ℕ) (reply : Reply) → answered {A = A} status text ≡ ends reply → reply.status ≡ status
own_status status text reply e =
    let own : Reply = record { text = text; status = status } in
    let same : own ≡ reply = cc in
    sym (ap (λ (one : Reply). one.status) same)

-- ---- a file
abbrev by_length : Part → List ℕ → Bool → Step (List ℕ)
by_length part bytes long = elim long [ true ↦ answered statuses.Limit (too_long_text part (limit_of part)) | false ↦ goes bytes ]

long_by : (part : Part) (bytes : List ℕ) (reply : Reply) (long : Bool) → nat_lt (limit_of part) (length bytes) ≡ long → by_length part bytes long ≡ ends reply
    → (limit_of part < length bytes) × (reply.status ≡ statuses.Limit)
long_by part bytes reply true is e = (ltb-true (limit_of part) (length bytes) is, own_status statuses.Limit (too_long_text part (limit_of part)) reply e)
long_by part bytes reply false is e = cc

found_long : (part : Part) (found : Option (List ℕ)) (reply : Reply) → within part found ≡ ends reply
    → (bytes : List ℕ) × (found ≡ Some bytes) × (limit_of part < length bytes) × (reply.status ≡ statuses.Limit)
found_long part None reply e = cc
found_long part (Some bytes) reply e = let long = long_by part bytes reply (nat_lt (limit_of part) (length bytes)) refl e in (bytes, refl, long.0, long.1)

file_stops : (part : Part) (name : List ℕ) (files : Contents) (reply : Reply) → part_of part name files ≡ ends reply
    → (bytes : List ℕ) × (get files name ≡ Some bytes) × (limit_of part < length bytes) × (reply.status ≡ statuses.Limit)
unfolding part_of
file_stops part name files reply e = found_long part (get files name) reply e

long_stops : (part : Part) (name : List ℕ) (files : Contents) (bytes : List ℕ) → get files name ≡ Some bytes → limit_of part < length bytes
    → Stops (part_of part name files) statuses.Limit
unfolding part_of
long_stops part name files bytes there long = record {
  reply = record { text = too_long_text part (limit_of part); status = statuses.Limit };
  ended = ap (within part) there ∙ ap (by_length part bytes) (lt-ltb (limit_of part) (length bytes) long);
  so = refl;
}

-- ---- a text
items_stop : (part : Part) (fault : Option LexError) (items : List Item) (reply : Reply) → items_by part fault items ≡ ends reply
    → (fault ≢ None) × (reply.status ≡ statuses.Refused)
items_stop part None items reply e = cc
items_stop part (Some fault) items reply e = ((λ none. cc), own_status statuses.Refused (lex_text part fault) reply e)

stop_items : (part : Part) (fault : Option LexError) (items : List Item) → fault ≢ None → Stops (items_by part fault items) statuses.Refused
stop_items part None items some = absurd (some refl)
stop_items part (Some fault) items some = record { reply = record { text = lex_text part fault; status = statuses.Refused }; ended = refl; so = refl }

record_stop : {A : Type 0} (part : Part) (faults : List Wrong) (value : A) (reply : Reply) → record_by part faults value ≡ ends reply
    → (faults ≢ []) × (reply.status ≡ statuses.Refused)
record_stop part [] value reply e = cc
record_stop part (fault ∷ faults) value reply e = ((λ none. cc), own_status statuses.Refused (pddl_text (refusal_at part fault)) reply e)

stop_record : {A : Type 0} (part : Part) (faults : List Wrong) (value : A) → faults ≢ [] → Stops (record_by part faults value) statuses.Refused
stop_record part [] value some = absurd (some refl)
stop_record part (fault ∷ faults) value some = record { reply = record { text = pddl_text (refusal_at part fault); status = statuses.Refused }; ended = refl; so = refl }

domain_stops : (text : List ℕ) (reply : Reply) → domain_step text ≡ ends reply → IsFaulty parts.Domain text × (reply.status ≡ statuses.Refused)
unfolding domain_step items_step domain_in
domain_stops text reply e = elim (stops (items_by parts.Domain (fault_of text) (items_of text)) domain_in reply e) [
  | inl first ↦ let is = items_stop parts.Domain (fault_of text) (items_of text) reply first in (inl is.0, is.1)
  | inr rest ↦
      let read = domain_of (trees_of rest.0) in
      let is = record_stop parts.Domain read.faults read.value reply rest.2 in
      let same = itemized parts.Domain (fault_of text) (items_of text) rest.0 rest.1 in
      (inr (subst (λ (items : List Item). (domain_of (trees_of items)).faults ≢ []) (sym same) is.0), is.1)
]

problem_stops : (text : List ℕ) (reply : Reply) → problem_step text ≡ ends reply → IsFaulty parts.Problem text × (reply.status ≡ statuses.Refused)
unfolding problem_step items_step problem_in
problem_stops text reply e = elim (stops (items_by parts.Problem (fault_of text) (items_of text)) problem_in reply e) [
  | inl first ↦ let is = items_stop parts.Problem (fault_of text) (items_of text) reply first in (inl is.0, is.1)
  | inr rest ↦
      let read = problem_of (trees_of rest.0) in
      let is = record_stop parts.Problem read.faults read.value reply rest.2 in
      let same = itemized parts.Problem (fault_of text) (items_of text) rest.0 rest.1 in
      (inr (subst (λ (items : List Item). (problem_of (trees_of items)).faults ≢ []) (sym same) is.0), is.1)
]

-- a text without a fault of its letters is read on
read_on : {A : Type 0} (part : Part) (fault : Option LexError) (items : List Item) (next : List Item → Step A) → Stops (next items) statuses.Refused
    → Stops (items_by part fault items >>= next) statuses.Refused
read_on part None items next stop = stop
read_on part (Some fault) items next stop = record { reply = record { text = lex_text part fault; status = statuses.Refused }; ended = refl; so = refl }

stop_domain : (text : List ℕ) → IsFaulty parts.Domain text → Stops (domain_step text) statuses.Refused
unfolding domain_step items_step domain_in
stop_domain text (inl letters) = stops_first (items_by parts.Domain (fault_of text) (items_of text)) domain_in statuses.Refused (stop_items parts.Domain (fault_of text) (items_of text) letters)
stop_domain text (inr grammar) =
    let read = domain_of (trees_of (items_of text)) in
    read_on parts.Domain (fault_of text) (items_of text) domain_in (stop_record parts.Domain read.faults read.value grammar)

stop_problem : (text : List ℕ) → IsFaulty parts.Problem text → Stops (problem_step text) statuses.Refused
unfolding problem_step items_step problem_in
stop_problem text (inl letters) = stops_first (items_by parts.Problem (fault_of text) (items_of text)) problem_in statuses.Refused (stop_items parts.Problem (fault_of text) (items_of text) letters)
stop_problem text (inr grammar) =
    let read = problem_of (trees_of (items_of text)) in
    read_on parts.Problem (fault_of text) (items_of text) problem_in (stop_record parts.Problem read.faults read.value grammar)

steps_stop : (read : Result (List PlanStep) PlanError) (reply : Reply) → steps_by read ≡ ends reply
    → (error : PlanError) × (read ≡ Err error) × (reply.status ≡ statuses.Refused)
steps_stop (Ok steps) reply e = cc
steps_stop (Err error) reply e = (error, refl, own_status statuses.Refused (plan_error_text error) reply e)

plan_stops : (text : List ℕ) (reply : Reply) → plan_step text ≡ ends reply → IsFaulty parts.Plan text × (reply.status ≡ statuses.Refused)
unfolding plan_step
plan_stops text reply e = let is = steps_stop (plan_of text) reply e in ((is.0, is.1), is.2)

stop_plan : (text : List ℕ) → IsFaulty parts.Plan text → Stops (plan_step text) statuses.Refused
unfolding plan_step
stop_plan text (error, is) = record { reply = record { text = plan_error_text error; status = statuses.Refused }; ended = ap steps_by is; so = refl }

cert_stop : (read : Result (List (List ℕ)) ℕ) (reply : Reply) → cert_by read ≡ ends reply
    → (line : ℕ) × (read ≡ Err line) × (reply.status ≡ statuses.Refused)
cert_stop (Ok cert) reply e = cc
cert_stop (Err line) reply e = (line, refl, own_status statuses.Refused (cert_error_text (certs.Line line)) reply e)

cert_stops : (text : List ℕ) (reply : Reply) → cert_step text ≡ ends reply → IsFaulty parts.Certificate text × (reply.status ≡ statuses.Refused)
unfolding cert_step
cert_stops text reply e = let is = cert_stop (cert_of text) reply e in ((is.0, is.1), is.2)

stop_cert : (text : List ℕ) → IsFaulty parts.Certificate text → Stops (cert_step text) statuses.Refused
unfolding cert_step
stop_cert text (line, is) = record { reply = record { text = cert_error_text (certs.Line line); status = statuses.Refused }; ended = ap cert_by is; so = refl }

names_stop : (faults : List Fault) (value : Lifting) (reply : Reply) → lifted_by faults value ≡ ends reply → (faults ≢ []) × (reply.status ≡ statuses.Refused)
names_stop [] value reply e = cc
names_stop (fault ∷ faults) value reply e = ((λ none. cc), own_status statuses.Refused (pddl_text (errors.Bad fault.part fault.kind fault.at)) reply e)

stop_names : (faults : List Fault) (value : Lifting) → faults ≢ [] → Stops (lifted_by faults value) statuses.Refused
stop_names [] value some = absurd (some refl)
stop_names (fault ∷ faults) value some =
    record { reply = record { text = pddl_text (errors.Bad fault.part fault.kind fault.at); status = statuses.Refused }; ended = refl; so = refl }

lifted_stops : (domain : Domain) (problem : Problem) (reply : Reply) → lifted_step domain problem ≡ ends reply
    → ((lifting_of domain problem).faults ≢ []) × (reply.status ≡ statuses.Refused)
unfolding lifted_step
lifted_stops domain problem reply e = let walk = lifting_of domain problem in names_stop walk.faults walk.value reply e

stop_lifted : (domain : Domain) (problem : Problem) → (lifting_of domain problem).faults ≢ [] → Stops (lifted_step domain problem) statuses.Refused
unfolding lifted_step
stop_lifted domain problem some = let walk = lifting_of domain problem in stop_names walk.faults walk.value some

-- ---- the domain and the problem of a command
-- why the two files are not read: the status of the reply, and its cause
data Unread (files : Contents) (command : Command) (reply : Reply) : Type 0 where
  of_fault : HasFaultyFile files command → reply.status ≡ statuses.Refused → Unread files command reply
  overlong : HasLongFile files command → reply.status ≡ statuses.Limit → Unread files command reply

-- the command reads a domain and a problem of these names
pub record Reads (command : Command) (domain problem : List ℕ) : Type 0 where
  pub is_domain : file_of command parts.Domain ≡ Some domain
  pub is_problem : file_of command parts.Problem ≡ Some problem
  pub texts : (files : Contents) → texts_of command files ≡ texts_step domain problem files

-- a file of the command, behind all that is read before it
file_unread : (files : Contents) (command : Command) (part : Part) (name : List ℕ) (reply : Reply) → file_of command part ≡ Some name → IsReadBefore files command part
    → part_of part name files ≡ ends reply → Unread files command reply
file_unread files command part name reply named before e =
    let is = file_stops part name files reply e in
    overlong (record { part = part; name = name; named = named; before = before; bytes = is.0; there = is.1; long = is.2 }) is.3

problem_unread : (files : Contents) (command : Command) (domain problem : List ℕ) → Reads command domain problem → (reply : Reply) (one : Domain)
    → (part_of parts.Domain domain files >>= domain_step) ≡ goes one → from_problem problem files one ≡ ends reply → Unread files command reply
problem_unread files command domain problem reads reply one read e =
    let before : IsReadBefore files command parts.Problem = (domain, one, reads.is_domain, read) in
    elim (stops (part_of parts.Problem problem files) (λ (text : List ℕ). problem_step text >>= λ (two : Problem). both one two) reply e) [
      | inl first ↦ file_unread files command parts.Problem problem reply reads.is_problem before first
      | inr text ↦ elim (stops (problem_step text.0) (λ (two : Problem). both one two) reply text.2) [
        | inl first ↦
            let is = problem_stops text.0 reply first in
            of_fault (record { part = parts.Problem; name = problem; named = reads.is_problem; before = before; text = text.0; fetched = text.1; fault = is.0 }) is.1
        | inr two ↦ let never = two.2 in cc
      ]
    ]

texts_unread : (files : Contents) (command : Command) (domain problem : List ℕ) → Reads command domain problem → (reply : Reply)
    → texts_step domain problem files ≡ ends reply → Unread files command reply
unfolding texts_step
texts_unread files command domain problem reads reply e =
    elim (stops (part_of parts.Domain domain files) (λ (text : List ℕ). domain_step text >>= λ (one : Domain). from_problem problem files one) reply e) [
      | inl first ↦ file_unread files command parts.Domain domain reply reads.is_domain tt first
      | inr text ↦ elim (stops (domain_step text.0) (λ (one : Domain). from_problem problem files one) reply text.2) [
        | inl first ↦
            let is = domain_stops text.0 reply first in
            of_fault (record { part = parts.Domain; name = domain; named = reads.is_domain; before = tt; text = text.0; fetched = text.1; fault = is.0 }) is.1
        | inr one ↦
            problem_unread files command domain problem reads reply one.0
            (ap (λ (step : Step (List ℕ)). step >>= domain_step) text.1 ∙ one.1) one.2
      ]
    ]

pub reads_check : (domain problem plan : List ℕ) → Reads (Check domain problem plan) domain problem
reads_check domain problem plan = record { is_domain = refl; is_problem = refl; texts = λ files. refl }

pub reads_ground : (domain problem : List ℕ) → Reads (Ground domain problem) domain problem
reads_ground domain problem = record { is_domain = refl; is_problem = refl; texts = λ files. refl }

pub reads_plan : (domain problem : List ℕ) (settings : Settings) (watch : List WatchKind) (plain closed : Bool)
    → Reads (Plan domain problem settings watch plain closed) domain problem
reads_plan domain problem settings watch plain closed = record { is_domain = refl; is_problem = refl; texts = λ files. refl }

pub reads_audit : (domain problem certificate : List ℕ) → Reads (Audit domain problem certificate) domain problem
reads_audit domain problem certificate = record { is_domain = refl; is_problem = refl; texts = λ files. refl }

-- a command that reads files reads these two first
pub reading : (command : Command) → reads_files command ≡ true → (domain : List ℕ) × (problem : List ℕ) × Reads command domain problem
reading (Check domain problem plan) e = (domain, problem, reads_check domain problem plan)
reading (Ground domain problem) e = (domain, problem, reads_ground domain problem)
reading (Plan domain problem settings watch plain closed) e = (domain, problem, reads_plan domain problem settings watch plain closed)
reading (Gen number size settings watch plain) e = cc
reading (Audit domain problem certificate) e = (domain, problem, reads_audit domain problem certificate)

-- ---- from an answer to its cause
-- why a command answers as it does, where that is a refusal or a limit
data Cause (files : Contents) (command : Command) (reply : Reply) : Type 0 where
  of_file : Unread files command reply → Cause files command reply
  of_made : reads_files command ≡ false → reply.status ≡ statuses.Refused → Cause files command reply
  of_names : HasFaultyNames files command → reply.status ≡ statuses.Refused → Cause files command reply
  of_many : HasTooMany files command → reply.status ≡ statuses.Limit → Cause files command reply
  neither : reply.status ≢ statuses.Refused → reply.status ≢ statuses.Limit → Cause files command reply

ending_other : (search : Search) (how : How) → (ending_status search how ≢ statuses.Refused) × (ending_status search how ≢ statuses.Limit)
ending_other search (Found plan) = ((λ e. cc), (λ e. cc))
ending_other F5 Emptied = ((λ e. cc), (λ e. cc))
ending_other KBfws Emptied = ((λ e. cc), (λ e. cc))
ending_other search Budget = ((λ e. cc), (λ e. cc))
ending_other search (Words pairs) = ((λ e. cc), (λ e. cc))

audit_other : (audit : Audited) → (audit_status audit ≢ statuses.Refused) × (audit_status audit ≢ statuses.Limit)
audit_other Yes = ((λ e. cc), (λ e. cc))
audit_other (Foreign state) = ((λ e. cc), (λ e. cc))
audit_other NoStart = ((λ e. cc), (λ e. cc))
audit_other (Goal state) = ((λ e. cc), (λ e. cc))
audit_other (Open state act) = ((λ e. cc), (λ e. cc))

final_other : (watchers : Watching) (files : Contents) (command : Command) (grounded : Grounded)
    → ((final watchers files command grounded).status ≢ statuses.Refused) × ((final watchers files command grounded).status ≢ statuses.Limit)
unfolding ground_reply searched_reply ending_reply audited_reply
final_other watchers files (Check domain problem plan) grounded = ((λ e. cc), (λ e. cc))
final_other watchers files (Ground domain problem) grounded = ((λ e. cc), (λ e. cc))
final_other watchers files (Plan domain problem settings watch plain closed) grounded =
    ending_other settings.search (ending_of grounded.task settings (all_tuples grounded.task settings)).how
final_other watchers files (Gen number size settings watch plain) grounded =
    ending_other settings.search (ending_of grounded.task settings (all_tuples grounded.task settings)).how
final_other watchers files (Audit domain problem certificate) grounded = audit_other (audit_of grounded.task (found_cert (cert_in certificate files)))

-- a reply of one of these statuses is none of a refusal and none of a limit
other_by : (files : Contents) (command : Command) (reply : Reply) (status : Status) → status ≡ reply.status
    → (status ≢ statuses.Refused) × (status ≢ statuses.Limit) → Cause files command reply
other_by files command reply status is not_these = neither (λ e. not_these.0 (is ∙ e)) (λ e. not_these.1 (is ∙ e))

task_cause : (files : Contents) (command : Command) (lifted : Lifting) → grounds_task command ≡ true → AreLifted files command lifted
    → (refusal : Option GroundError) → refusal_of lifted ≡ refusal → (made : Grounded) (reply : Reply) → task_by refusal made ≡ ends reply → Cause files command reply
task_cause files command lifted does lifts None is made reply e = cc
task_cause files command lifted does lifts (Some TooManyActs) is made reply e =
    of_many (record { grounds = does; lifted = lifted; lifts = lifts; many = inl is }) (own_status statuses.Limit (ground_error_text TooManyActs) reply e)
task_cause files command lifted does lifts (Some TooManyAtoms) is made reply e =
    of_many (record { grounds = does; lifted = lifted; lifts = lifts; many = inr is }) (own_status statuses.Limit (ground_error_text TooManyAtoms) reply e)
task_cause files command lifted does lifts (Some (GoalOutOfReach goal atom)) is made reply e =
    other_by files command reply statuses.OutOfReach (sym (own_status statuses.OutOfReach (ground_error_text (GoalOutOfReach goal atom)) reply e)) ((λ e. cc), (λ e. cc))
task_cause files command lifted does lifts (Some Memory) is made reply e =
    other_by files command reply statuses.Memory (sym (own_status statuses.Memory (ground_error_text Memory) reply e)) ((λ e. cc), (λ e. cc))

grounded_cause : (watchers : Watching) (files : Contents) (command : Command) (lifted : Lifting) → grounds_task command ≡ true → AreLifted files command lifted
    → (reply : Reply) → reply_of (after_lifting watchers files command lifted) ≡ Some reply → Cause files command reply
unfolding grounded_step
grounded_cause watchers files command lifted does lifts reply e =
    elim (splits (grounded_step lifted) (λ (grounded : Grounded). goes (final watchers files command grounded)) reply e) [
      | inl first ↦ task_cause files command lifted does lifts (refusal_of lifted) refl (grounded_of lifted) reply first
      | inr rest ↦
          other_by files command reply (final watchers files command rest.0).status
          (ap (λ (one : Reply). one.status) (reply_is (final watchers files command rest.0) reply rest.2)) (final_other watchers files command rest.0)
    ]

no_plan_file : (files : Contents) (command : Command) → grounds_task command ≡ true → (name : List ℕ) → file_of command parts.Plan ≡ Some name
    → (steps : List PlanStep) × ((part_of parts.Plan name files >>= plan_step) ≡ goes steps)
no_plan_file files (Check domain problem plan) does name e = cc
no_plan_file files (Ground domain problem) does name e = cc
no_plan_file files (Plan domain problem settings watch plain closed) does name e = cc
no_plan_file files (Gen number size settings watch plain) does name e = cc
no_plan_file files (Audit domain problem certificate) does name e = cc

-- a text that is made can be refused alone
made_stops : (number size : ℕ) (reply : Reply) → made_step number size ≡ ends reply → reply.status ≡ statuses.Refused
unfolding made_step
made_stops number size reply e =
    elim (stops (domain_step domain_text) (λ (one : Domain). problem_step (problem_text number size) >>= λ (two : Problem). both one two) reply e) [
      | inl first ↦ (domain_stops domain_text reply first).1
      | inr rest ↦ elim (stops (problem_step (problem_text number size)) (λ (two : Problem). both rest.0 two) reply rest.2) [
        | inl first ↦ (problem_stops (problem_text number size) reply first).1
        | inr last ↦ let never = last.2 in cc
      ]
    ]

-- why a certificate is not read, behind the two other files
cert_cause : (files : Contents) (domain problem certificate : List ℕ) (texts : Texts) → texts_step domain problem files ≡ goes texts → (reply : Reply)
    → cert_in certificate files ≡ ends reply → Cause files (Audit domain problem certificate) reply
cert_cause files domain problem certificate texts read reply e =
    let command = Audit domain problem certificate in
    let before : IsReadBefore files command parts.Certificate = (texts, read) in
    elim (stops (part_of parts.Certificate certificate files) cert_step reply e) [
      | inl first ↦ of_file (file_unread files command parts.Certificate certificate reply refl before first)
      | inr rest ↦
          let is = cert_stops rest.0 reply rest.2 in
          of_file (of_fault (record { part = parts.Certificate; name = certificate; named = refl; before = before; text = rest.0; fetched = rest.1; fault = is.0 }) is.1)
    ]

audit_cause : (files : Contents) (domain problem certificate : List ℕ) (reply : Reply)
    → inputs_of (Audit domain problem certificate) files ≡ ends reply → Cause files (Audit domain problem certificate) reply
audit_cause files domain problem certificate reply e =
    elim (stops (texts_step domain problem files) (λ (texts : Texts). cert_in certificate files >>= λ (cert : List (List ℕ)). goes texts) reply e) [
      | inl first ↦ of_file (texts_unread files _ domain problem (reads_audit domain problem certificate) reply first)
      | inr texts ↦ elim (stops (cert_in certificate files) (λ (cert : List (List ℕ)). goes texts.0) reply texts.2) [
        | inl first ↦ cert_cause files domain problem certificate texts.0 texts.1 reply first
        | inr cert ↦ let never = cert.2 in cc
      ]
    ]

texts_cause : (files : Contents) (command : Command) (reply : Reply) → inputs_of command files ≡ ends reply → Cause files command reply
texts_cause files (Check domain problem plan) reply e = of_file (texts_unread files _ domain problem (reads_check domain problem plan) reply e)
texts_cause files (Ground domain problem) reply e = of_file (texts_unread files _ domain problem (reads_ground domain problem) reply e)
texts_cause files (Plan domain problem settings watch plain closed) reply e =
    of_file (texts_unread files _ domain problem (reads_plan domain problem settings watch plain closed) reply e)
texts_cause files (Gen number size settings watch plain) reply e = of_made refl (made_stops number size reply e)
texts_cause files (Audit domain problem certificate) reply e = audit_cause files domain problem certificate reply e

grounding_cause : (asked : Asked) (files : Contents) (command : Command) (reply : Reply) → IsAnswered asked files command reply
    → grounds_task command ≡ true → Cause files command reply
grounding_cause asked files command reply is does =
    let watchers = kept_of command asked.watchers in
    elim (splits (inputs_of command files) (after_texts watchers files command) reply (replied_grounding asked files command reply is does)) [
      | inl first ↦ texts_cause files command reply first
      | inr texts ↦ elim (splits (lifted_step texts.0.domain texts.0.problem) (after_lifting watchers files command) reply texts.2) [
        | inl faults ↦
            let so = lifted_stops texts.0.domain texts.0.problem reply faults in
            of_names (record { texts = texts.0; read = texts.1; plan = no_plan_file files command does; fault = so.0 }) so.1
        | inr lifted ↦
            grounded_cause watchers files command lifted.0 does (record { texts = texts.0; read = texts.1; lifts = lifted.1 }) reply lifted.2
      ]
    ]

verdict_other : (verdict : Verdict) → (verdict_status verdict ≢ statuses.Refused) × (verdict_status verdict ≢ statuses.Limit)
verdict_other Valid = ((λ e. cc), (λ e. cc))
verdict_other (Bad step why) = ((λ e. cc), (λ e. cc))
verdict_other (GoalUnmet place) = ((λ e. cc), (λ e. cc))

plan_cause : (files : Contents) (domain problem plan : List ℕ) (texts : Texts) → texts_step domain problem files ≡ goes texts → (reply : Reply)
    → (part_of parts.Plan plan files >>= plan_step) ≡ ends reply → Cause files (Check domain problem plan) reply
plan_cause files domain problem plan texts read reply e =
    let command = Check domain problem plan in
    let before : IsReadBefore files command parts.Plan = (texts, read) in
    elim (stops (part_of parts.Plan plan files) plan_step reply e) [
      | inl first ↦ of_file (file_unread files command parts.Plan plan reply refl before first)
      | inr rest ↦
          let is = plan_stops rest.0 reply rest.2 in
          of_file (of_fault (record { part = parts.Plan; name = plan; named = refl; before = before; text = rest.0; fetched = rest.1; fault = is.0 }) is.1)
    ]

steps_read : (domain problem plan name : List ℕ) (files : Contents) (steps : List PlanStep) → (part_of parts.Plan plan files >>= plan_step) ≡ goes steps
    → file_of (Check domain problem plan) parts.Plan ≡ Some name → (read : List PlanStep) × ((part_of parts.Plan name files >>= plan_step) ≡ goes read)
steps_read domain problem plan name files steps read e =
    let same : plan ≡ name = cc in
    (steps, subst (λ (one : List ℕ). (part_of parts.Plan one files >>= plan_step) ≡ goes steps) same read)

checking_cause : (asked : Asked) (files : Contents) (domain problem plan : List ℕ) (reply : Reply) → IsAnswered asked files (Check domain problem plan) reply
    → Cause files (Check domain problem plan) reply
unfolding verdict_reply
checking_cause asked files domain problem plan reply is =
    let command = Check domain problem plan in
    elim (splits (texts_step domain problem files) (λ (texts : Texts). (part_of parts.Plan plan files >>= plan_step) >>= after_steps texts) reply (replied_checking asked files domain problem plan reply is)) [
      | inl first ↦ texts_cause files command reply first
      | inr texts ↦ elim (splits (part_of parts.Plan plan files >>= plan_step) (after_steps texts.0) reply texts.2) [
        | inl no_steps ↦ plan_cause files domain problem plan texts.0 texts.1 reply no_steps
        | inr steps ↦ elim (splits (lifted_step texts.0.domain texts.0.problem) (λ (one : Lifting). judged one steps.0) reply steps.2) [
          | inl faults ↦
              let so = lifted_stops texts.0.domain texts.0.problem reply faults in
              of_names (record { texts = texts.0; read = texts.1; plan = λ name. steps_read domain problem plan name files steps.0 steps.1; fault = so.0 }) so.1
          | inr lifted ↦
              other_by files command reply (verdict_reply lifted.0 steps.0).status
              (ap (λ (one : Reply). one.status) (reply_is (verdict_reply lifted.0 steps.0) reply lifted.2)) (verdict_other (verdict_of lifted.0 steps.0))
        ]
      ]
    ]

cause_of : (asked : Asked) (files : Contents) (command : Command) (reply : Reply) → IsAnswered asked files command reply → Cause files command reply
cause_of asked files (Check domain problem plan) reply is = checking_cause asked files domain problem plan reply is
cause_of asked files (Ground domain problem) reply is = grounding_cause asked files (Ground domain problem) reply is refl
cause_of asked files (Plan domain problem settings watch plain closed) reply is =
    grounding_cause asked files (Plan domain problem settings watch plain closed) reply is refl
cause_of asked files (Gen number size settings watch plain) reply is =
    grounding_cause asked files (Gen number size settings watch plain) reply is refl
cause_of asked files (Audit domain problem certificate) reply is =
    grounding_cause asked files (Audit domain problem certificate) reply is refl

refused_by : (files : Contents) (command : Command) (reply : Reply) → reads_files command ≡ true → Cause files command reply → reply.status ≡ statuses.Refused
    → HasFaultyFile files command ⊎ HasFaultyNames files command
refused_by files command reply reads (of_file (of_fault file is)) so = inl file
refused_by files command reply reads (of_file (overlong file is)) so = let no : statuses.Limit ≡ statuses.Refused = sym is ∙ so in cc
refused_by files command reply reads (of_made reads_none is) so = let no : false ≡ true = sym reads_none ∙ reads in cc
refused_by files command reply reads (of_names faults is) so = inr faults
refused_by files command reply reads (of_many many_so is) so = let no : statuses.Limit ≡ statuses.Refused = sym is ∙ so in cc
refused_by files command reply reads (neither never limit) so = absurd (never so)

limited_by : (files : Contents) (command : Command) (reply : Reply) → Cause files command reply → reply.status ≡ statuses.Limit
    → HasLongFile files command ⊎ HasTooMany files command
limited_by files command reply (of_file (of_fault file is)) so = let no : statuses.Refused ≡ statuses.Limit = sym is ∙ so in cc
limited_by files command reply (of_file (overlong file is)) so = inl file
limited_by files command reply (of_made reads_none is) so = let no : statuses.Refused ≡ statuses.Limit = sym is ∙ so in cc
limited_by files command reply (of_names faults is) so = let no : statuses.Refused ≡ statuses.Limit = sym is ∙ so in cc
limited_by files command reply (of_many many_so is) so = inr many_so
limited_by files command reply (neither refused never) so = absurd (never so)

-- ---- from a cause to its answer
-- where two steps in a row stop, so does a longer row; and where they go on, it goes on from there
stops_longer : {A B C : Type 0} (first : Step A) (second : A → Step B) (third : B → Step C) (status : Status) → Stops (first >>= second) status
    → Stops (first >>= λ (one : A). second one >>= third) status
stops_longer missing second third status stop = let never = stop.ended in cc
stops_longer (ends reply) second third status stop =
    let e = stop.ended in
    let same : reply ≡ stop.reply = cc in
    record { reply = stop.reply; ended = ap ends same; so = stop.so }
stops_longer (goes value) second third status stop = stops_first (second value) third status stop

pub goes_longer : {A B C : Type 0} (first : Step A) (second : A → Step B) (third : B → Step C) (value : B) → (first >>= second) ≡ goes value
    → (first >>= λ (one : A). second one >>= third) ≡ third value
goes_longer missing second third value e = cc
goes_longer (ends reply) second third value e = cc
goes_longer (goes one) second third value e = ap (λ step. step >>= third) e

stops_like : {A : Type 0} (one other : Step A) (status : Status) → one ≡ other → Stops other status → Stops one status
stops_like one other status same stop = record { reply = stop.reply; ended = same ∙ stop.ended; so = stop.so }

-- the files of a domain and a problem stop the command's row where the first of them does that cannot be read
domain_first : (files : Contents) (domain problem : List ℕ) (status : Status) → Stops (part_of parts.Domain domain files >>= domain_step) status
    → Stops (texts_step domain problem files) status
unfolding texts_step
domain_first files domain problem status stop =
    stops_longer (part_of parts.Domain domain files) domain_step (λ (one : Domain). from_problem problem files one) status stop

problem_first : (files : Contents) (domain problem : List ℕ) (status : Status) (one : Domain) → (part_of parts.Domain domain files >>= domain_step) ≡ goes one
    → Stops (part_of parts.Problem problem files >>= problem_step) status → Stops (texts_step domain problem files) status
unfolding texts_step
problem_first files domain problem status one read stop =
    stops_like _ (from_problem problem files one) status
    (goes_longer (part_of parts.Domain domain files) domain_step (λ (one : Domain). from_problem problem files one) one read)
    (stops_longer (part_of parts.Problem problem files) problem_step (λ (two : Problem). both one two) status stop)

-- what a command does behind its domain and problem
abbrev pub behind : Watching → Command → Contents → Texts → Step Reply
behind watchers (Check domain problem plan) files texts = (part_of parts.Plan plan files >>= plan_step) >>= after_steps texts
behind watchers (Audit domain problem certificate) files texts = cert_in certificate files >>= after_cert texts
behind watchers command files texts = after_texts watchers files command texts

pub run_row : (command : Command) (watchers : Watching) (files : Contents)
    → answer_to_request (request_with command watchers) files ≡ (texts_of command files >>= behind watchers command files)
run_row (Check domain problem plan) watchers files = run_checking domain problem plan watchers files
run_row (Ground domain problem) watchers files = run_grounding (Ground domain problem) watchers files refl
run_row (Plan domain problem settings watch plain closed) watchers files = run_grounding (Plan domain problem settings watch plain closed) watchers files refl
run_row (Gen number size settings watch plain) watchers files = run_grounding (Gen number size settings watch plain) watchers files refl
run_row (Audit domain problem certificate) watchers files = run_certified domain problem certificate watchers files

replied_row : (asked : Asked) (files : Contents) (command : Command) (reply : Reply) → IsAnswered asked files command reply
    → reply_of (texts_of command files >>= behind (kept_of command asked.watchers) command files) ≡ Some reply
replied_row asked files command reply is =
    sym (ap reply_of (run_row command (kept_of command asked.watchers) files)) ∙ replied asked files command reply is

-- the answer of a command whose row stops
row_stopped : (asked : Asked) (files : Contents) (command : Command) (reply : Reply) (status : Status) → IsAnswered asked files command reply
    → Stops (texts_of command files >>= behind (kept_of command asked.watchers) command files) status → reply.status ≡ status
row_stopped asked files command reply status is stop = stopped _ status reply stop (replied_row asked files command reply is)

texts_stopped : (asked : Asked) (files : Contents) (command : Command) (reply : Reply) (status : Status) → IsAnswered asked files command reply
    → (reads : reads_files command ≡ true)
    → Stops (texts_step (reading command reads).0 (reading command reads).1 files) status → reply.status ≡ status
texts_stopped asked files command reply status is reads stop =
    row_stopped asked files command reply status is
    (stops_first (texts_of command files) (behind (kept_of command asked.watchers) command files) status
    (stops_like _ _ status ((reading command reads).2.texts files) stop))

pub same_name : (one other : List ℕ) (file : Option (List ℕ)) → file ≡ Some one → file ≡ Some other → one ≡ other
same_name one other file is also = let same : Some one ≡ Some other = sym is ∙ also in cc

domain_stopped : (asked : Asked) (files : Contents) (command : Command) (reply : Reply) (status : Status) → IsAnswered asked files command reply
    → reads_files command ≡ true → (name : List ℕ) → file_of command parts.Domain ≡ Some name
    → Stops (part_of parts.Domain name files >>= domain_step) status → reply.status ≡ status
domain_stopped asked files command reply status is reads name named stop =
    let own = reading command reads in
    let same = same_name name own.0 (file_of command parts.Domain) named own.2.is_domain in
    texts_stopped asked files command reply status is reads
    (domain_first files own.0 own.1 status (subst (λ (one : List ℕ). Stops (part_of parts.Domain one files >>= domain_step) status) same stop))

problem_stopped : (asked : Asked) (files : Contents) (command : Command) (reply : Reply) (status : Status) → IsAnswered asked files command reply
    → reads_files command ≡ true → (name : List ℕ) → file_of command parts.Problem ≡ Some name → IsReadBefore files command parts.Problem
    → Stops (part_of parts.Problem name files >>= problem_step) status → reply.status ≡ status
problem_stopped asked files command reply status is reads name named before stop =
    let own = reading command reads in
    let same = same_name name own.1 (file_of command parts.Problem) named own.2.is_problem in
    let first = same_name before.0 own.0 (file_of command parts.Domain) before.2 own.2.is_domain in
    texts_stopped asked files command reply status is reads
    (problem_first files own.0 own.1 status before.1
    (subst (λ (one : List ℕ). (part_of parts.Domain one files >>= domain_step) ≡ goes before.1) first before.3)
    (subst (λ (one : List ℕ). Stops (part_of parts.Problem one files >>= problem_step) status) same stop))

plan_stopped : (asked : Asked) (files : Contents) (command : Command) (reply : Reply) (status : Status) → IsAnswered asked files command reply
    → (name : List ℕ) → file_of command parts.Plan ≡ Some name → IsReadBefore files command parts.Plan
    → Stops (part_of parts.Plan name files >>= plan_step) status → reply.status ≡ status
plan_stopped asked files (Check domain problem plan) reply status is name named before stop =
    let same : name ≡ plan = cc in
    row_stopped asked files (Check domain problem plan) reply status is
    (stops_behind (texts_step domain problem files) (behind (kept_of (Check domain problem plan) asked.watchers) (Check domain problem plan) files) status before.0 before.1
    (stops_first (part_of parts.Plan plan files >>= plan_step) (after_steps before.0) status
    (subst (λ (one : List ℕ). Stops (part_of parts.Plan one files >>= plan_step) status) same stop)))
plan_stopped asked files (Ground domain problem) reply status is name named before stop = cc
plan_stopped asked files (Plan domain problem settings watch plain closed) reply status is name named before stop = cc
plan_stopped asked files (Gen number size settings watch plain) reply status is name named before stop = cc
plan_stopped asked files (Audit domain problem certificate) reply status is name named before stop = cc

cert_stopped : (asked : Asked) (files : Contents) (command : Command) (reply : Reply) (status : Status) → IsAnswered asked files command reply
    → (name : List ℕ) → file_of command parts.Certificate ≡ Some name → IsReadBefore files command parts.Certificate
    → Stops (cert_in name files) status → reply.status ≡ status
cert_stopped asked files (Check domain problem plan) reply status is name named before stop = cc
cert_stopped asked files (Ground domain problem) reply status is name named before stop = cc
cert_stopped asked files (Plan domain problem settings watch plain closed) reply status is name named before stop = cc
cert_stopped asked files (Gen number size settings watch plain) reply status is name named before stop = cc
cert_stopped asked files (Audit domain problem certificate) reply status is name named before stop =
    let command = Audit domain problem certificate in
    let same : name ≡ certificate = cc in
    row_stopped asked files command reply status is
    (stops_behind (texts_step domain problem files) (behind (kept_of command asked.watchers) command files) status before.0 before.1
    (stops_first (cert_in certificate files) (after_cert before.0) status
    (subst (λ (one : List ℕ). Stops (cert_in one files) status) same stop)))

faulty_refused : (asked : Asked) (files : Contents) (command : Command) (reply : Reply) → IsAnswered asked files command reply → reads_files command ≡ true
    → (part : Part) (name : List ℕ) → file_of command part ≡ Some name → IsReadBefore files command part → (text : List ℕ)
    → part_of part name files ≡ goes text → IsFaulty part text → reply.status ≡ statuses.Refused
faulty_refused asked files command reply is reads parts.Domain name named before text fetched fault =
    domain_stopped asked files command reply statuses.Refused is reads name named
    (stops_behind (part_of parts.Domain name files) domain_step statuses.Refused text fetched (stop_domain text fault))
faulty_refused asked files command reply is reads parts.Problem name named before text fetched fault =
    problem_stopped asked files command reply statuses.Refused is reads name named before
    (stops_behind (part_of parts.Problem name files) problem_step statuses.Refused text fetched (stop_problem text fault))
faulty_refused asked files command reply is reads parts.Plan name named before text fetched fault =
    plan_stopped asked files command reply statuses.Refused is name named before
    (stops_behind (part_of parts.Plan name files) plan_step statuses.Refused text fetched (stop_plan text fault))
faulty_refused asked files command reply is reads parts.Certificate name named before text fetched fault =
    cert_stopped asked files command reply statuses.Refused is name named before
    (stops_behind (part_of parts.Certificate name files) cert_step statuses.Refused text fetched (stop_cert text fault))

long_limited : (asked : Asked) (files : Contents) (command : Command) (reply : Reply) → IsAnswered asked files command reply → reads_files command ≡ true
    → (part : Part) (name : List ℕ) → file_of command part ≡ Some name → IsReadBefore files command part → (bytes : List ℕ)
    → get files name ≡ Some bytes → limit_of part < length bytes → reply.status ≡ statuses.Limit
long_limited asked files command reply is reads parts.Domain name named before bytes there long =
    domain_stopped asked files command reply statuses.Limit is reads name named
    (stops_first (part_of parts.Domain name files) domain_step statuses.Limit (long_stops parts.Domain name files bytes there long))
long_limited asked files command reply is reads parts.Problem name named before bytes there long =
    problem_stopped asked files command reply statuses.Limit is reads name named before
    (stops_first (part_of parts.Problem name files) problem_step statuses.Limit (long_stops parts.Problem name files bytes there long))
long_limited asked files command reply is reads parts.Plan name named before bytes there long =
    plan_stopped asked files command reply statuses.Limit is name named before
    (stops_first (part_of parts.Plan name files) plan_step statuses.Limit (long_stops parts.Plan name files bytes there long))
long_limited asked files command reply is reads parts.Certificate name named before bytes there long =
    cert_stopped asked files command reply statuses.Limit is name named before
    (stops_first (part_of parts.Certificate name files) cert_step statuses.Limit (long_stops parts.Certificate name files bytes there long))

names_stopped : (asked : Asked) (files : Contents) (command : Command) (reply : Reply) → IsAnswered asked files command reply → grounds_task command ≡ true
    → HasFaultyNames files command → reply.status ≡ statuses.Refused
names_stopped asked files command reply is does has =
    let watchers = kept_of command asked.watchers in
    let texts = has.texts in
    stopped _ statuses.Refused reply
    (stops_behind (inputs_of command files) (after_texts watchers files command) statuses.Refused texts has.read
    (stops_first (lifted_step texts.domain texts.problem) (after_lifting watchers files command) statuses.Refused (stop_lifted texts.domain texts.problem has.fault)))
    (replied_grounding asked files command reply is does)

names_refused : (asked : Asked) (files : Contents) (command : Command) (reply : Reply) → IsAnswered asked files command reply
    → HasFaultyNames files command → reply.status ≡ statuses.Refused
names_refused asked files (Check domain problem plan) reply is has =
    let read = has.plan plan refl in
    let texts = has.texts in
    row_stopped asked files (Check domain problem plan) reply statuses.Refused is
    (stops_behind (texts_step domain problem files) (behind (kept_of (Check domain problem plan) asked.watchers) (Check domain problem plan) files) statuses.Refused texts has.read
    (stops_behind (part_of parts.Plan plan files >>= plan_step) (after_steps texts) statuses.Refused read.0 read.1
    (stops_first (lifted_step texts.domain texts.problem) (λ (one : Lifting). judged one read.0) statuses.Refused (stop_lifted texts.domain texts.problem has.fault))))
names_refused asked files (Ground domain problem) reply is has = names_stopped asked files (Ground domain problem) reply is refl has
names_refused asked files (Plan domain problem settings watch plain closed) reply is has =
    names_stopped asked files (Plan domain problem settings watch plain closed) reply is refl has
names_refused asked files (Gen number size settings watch plain) reply is has =
    names_stopped asked files (Gen number size settings watch plain) reply is refl has
names_refused asked files (Audit domain problem certificate) reply is has =
    names_stopped asked files (Audit domain problem certificate) reply is refl has

refused_here : (asked : Asked) (files : Contents) (command : Command) (reply : Reply) → IsAnswered asked files command reply → reads_files command ≡ true
    → HasFaultyFile files command ⊎ HasFaultyNames files command → reply.status ≡ statuses.Refused
refused_here asked files command reply is reads (inl file) =
    faulty_refused asked files command reply is reads file.part file.name file.named file.before file.text file.fetched file.fault
refused_here asked files command reply is reads (inr faults) = names_refused asked files command reply is faults

task_stops : (refusal : Option GroundError) (made : Grounded) → (refusal ≡ Some TooManyActs) ⊎ (refusal ≡ Some TooManyAtoms)
    → Stops (task_by refusal made) statuses.Limit
task_stops refusal made (inl is) =
    record { reply = record { text = ground_error_text TooManyActs; status = statuses.Limit }; ended = ap (λ (one : Option GroundError). task_by one made) is; so = refl }
task_stops refusal made (inr is) =
    record { reply = record { text = ground_error_text TooManyAtoms; status = statuses.Limit }; ended = ap (λ (one : Option GroundError). task_by one made) is; so = refl }

many_limited : (asked : Asked) (files : Contents) (command : Command) (reply : Reply) → IsAnswered asked files command reply
    → HasTooMany files command → reply.status ≡ statuses.Limit
unfolding grounded_step
many_limited asked files command reply is has =
    let watchers = kept_of command asked.watchers in
    stopped _ statuses.Limit reply
    (stops_first (grounded_step has.lifted) (λ (grounded : Grounded). goes (final watchers files command grounded)) statuses.Limit
    (task_stops (refusal_of has.lifted) (grounded_of has.lifted) has.many))
    (lifted_replies asked files command reply has.lifted is has.grounds has.lifts)

-- a command that names a file reads files
pub named_reads : (command : Command) (part : Part) (name : List ℕ) → file_of command part ≡ Some name → reads_files command ≡ true
named_reads (Check domain problem plan) part name e = refl
named_reads (Ground domain problem) part name e = refl
named_reads (Plan domain problem settings watch plain closed) part name e = refl
named_reads (Gen number size settings watch plain) part name e = cc
named_reads (Audit domain problem certificate) part name e = refl

limited_here : (asked : Asked) (files : Contents) (command : Command) (reply : Reply) → IsAnswered asked files command reply
    → HasLongFile files command ⊎ HasTooMany files command → reply.status ≡ statuses.Limit
limited_here asked files command reply is (inl file) =
    long_limited asked files command reply is (named_reads command file.part file.name file.named) file.part file.name file.named file.before file.bytes file.there file.long
limited_here asked files command reply is (inr many_so) = many_limited asked files command reply is many_so

pub refusals : RefusalsHaveTheirCauses
refusals asked files command reply is reads =
    (refused_by files command reply reads (cause_of asked files command reply is), refused_here asked files command reply is reads)

pub limits : LimitsHaveTheirCauses
limits asked files command reply is =
    (limited_by files command reply (cause_of asked files command reply is), limited_here asked files command reply is)

-- ---- a task that is printed
abbrev NotDone : Status → Type 0
NotDone status = status ≡ statuses.Done → ⊥

grounded_there : (asked : Asked) (files : Contents) (domain problem : List ℕ) (reply : Reply) → IsAnswered asked files (Ground domain problem) reply
    → reply.status ≡ statuses.Done → IsGrounded files domain problem
grounded_there asked files domain problem reply is done =
    let command = Ground domain problem in
    let early : AllowsRefusals NotDone = record { limit = λ e. cc; fault = λ e. cc } in
    let of = grounding NotDone early asked files command reply is refl (λ not_done. not_done done) in
    let task =
    goes_past NotDone (grounded_step of.lifted) (λ (grounded : Grounded). goes (final (kept_of command asked.watchers) files command grounded)) reply
    (grounded_ends NotDone early (λ e. cc) (λ e. cc) of.lifted) of.replies (λ not_done. not_done done) in
    record { lifted = of.lifted; lifts = of.lifts; admitted = (task_goes of.lifted task.0 task.1).0 }

grounded_here : (asked : Asked) (files : Contents) (domain problem : List ℕ) (reply : Reply) → IsAnswered asked files (Ground domain problem) reply
    → IsGrounded files domain problem → reply.status ≡ statuses.Done
unfolding grounded_step ground_reply
grounded_here asked files domain problem reply is so =
    let command = Ground domain problem in
    let last =
    sym (ap (λ (refusal : Option GroundError). reply_of (task_by refusal (grounded_of so.lifted) >>= λ (grounded : Grounded). goes (final (kept_of command asked.watchers) files command grounded))) so.admitted)
    ∙ lifted_replies asked files command reply so.lifted is refl so.lifts in
    sym (ap (λ (one : Reply). one.status) (reply_is (final (kept_of command asked.watchers) files command (grounded_of so.lifted)) reply last))

pub tasks : TasksAreGrounded
tasks asked files domain problem reply is =
    (grounded_there asked files domain problem reply is, grounded_here asked files domain problem reply is)
