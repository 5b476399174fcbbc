-- What the statuses of answers mean, from the steps of each command.
use Rattle.std.proofs.Common.{◌≡◌, ◌≢◌, ℕ, Bool, true, false, List, [], refl, sym, ap, ◌∙◌, subst, inl, inr}
use Rattle.std.specs.Prelude.{Option, None, Some}
use Rattle.std.proofs.lemmas.Bool.{both_ways}
use Rattle.wp_edge.specs.Fetch.{Contents}
use Rattle.wp_syntax.specs.declared.error.Part.TheVariants as parts
use Rattle.wp_lift.specs.Problem.{Lifting}
use Rattle.wp_lift.specs.Worlds.{is_valid}
use Rattle.wp_lift.specs.Formed.{IsFormed}
use Rattle.wp_lift.specs.Laws.{LiftingsAreFormed}
use Rattle.wp_task.specs.Task.{is_plan}
use Rattle.wp_check.specs.declared.step.Step.{Step as PlanStep}
use Rattle.wp_check.specs.declared.cause.Verdict.{Verdict}
use Rattle.wp_check.specs.declared.cause.Verdict.TheVariants.{Valid, Bad, GoalUnmet}
use Rattle.wp_check.specs.Laws.{ValidStepsNameValidPlans}
use Rattle.wp_check.specs.Verdicts.{verdict_of}
use Rattle.wp_ground.specs.declared.grounding.Grounded.{Grounded}
use Rattle.wp_ground.specs.declared.grounding.GroundError.{GroundError}
use Rattle.wp_ground.specs.declared.grounding.GroundError.TheVariants.{TooManyActs, TooManyAtoms, GoalOutOfReach, Memory}
use Rattle.wp_ground.specs.Laws.{PlansAreValid, ValidPlansAreNumbered, UnreachedGoalsHaveNoPlan}
use Rattle.wp_ground.specs.Reached.{reached}
use Rattle.wp_ground.specs.Refusals.{grounded_of, refusal_of}
use Rattle.wp_ground.specs.Tasks.{task_of}
use Rattle.wp_plain.specs.declared.settings.Search.{Search}
use Rattle.wp_plain.specs.declared.settings.Search.TheVariants.{KBfws, F5}
use Rattle.wp_plain.specs.declared.settings.Settings.{Settings}
use Rattle.wp_plain.specs.declared.ending.Ending.{Ending}
use Rattle.wp_plain.specs.declared.ending.How.{How}
use Rattle.wp_plain.specs.declared.ending.How.TheVariants.{Found, Emptied, Budget, Words}
use Rattle.wp_plain.specs.Laws.{EmptiedHasNoPlan}
use Rattle.wp_plain.specs.Pairs.{all_tuples}
use Rattle.wp_plain.specs.Run.{ending_of}
use Rattle.wp_watch.specs.declared.watch.WatchKind.{WatchKind}
use Rattle.wp_words.specs.declared.commands.Command.{Command}
use Rattle.wp_words.specs.declared.commands.Command.TheVariants.{Audit, Check, Gen, Ground, Plan}
use Rattle.wp_cert.specs.declared.answer.Audit.{Audit as Audited}
use Rattle.wp_cert.specs.declared.answer.Audit.TheVariants.{Yes, Foreign, NoStart, Goal, Open}
use Rattle.wp_cert.specs.Audits.{audit_of}
use Rattle.wp_app.specs.declared.reply.Reply.{Reply}
use Rattle.wp_app.specs.declared.reply.Status.{Status}
use Rattle.wp_app.specs.declared.reply.Status.TheVariants as statuses
use Rattle.wp_app.specs.declared.inputs.Texts.{Texts}
use Rattle.wp_app.specs.Requests.{Asked, kept_of}
use Rattle.wp_app.specs.Steps.{Step, missing, ends, goes, reply_of, ◌>>=◌}
use Rattle.wp_app.specs.Output.{audited_reply, audit_status, ending_reply, ending_status, ground_reply, grounded_step, lifted_step, named, part_of, plan_step, searched_reply, task_by, verdict_reply, verdict_status, whole}
use Rattle.wp_app.specs.Table.{answer_to_audit, answer_to_check, answer_to_gen, answer_to_ground, answer_to_plan, answer_to_request, cert_in, texts_step}
use Rattle.wp_app.specs.Meanings.{AnswersAreOfTheirCommands, AreLifted, DoneChecksHaveValidPlans, EndingsHaveTheirStatuses, EndsSo, HasInvalidPlan, HasValidPlan, HaveNoPlan, InvalidChecksHaveInvalidPlans, IsAnswered, IsJudged, IsOutOfReach, NoPlanIsTrue, UnreachedGoalsAreAnswered, grounds_task, is_of, is_of_audit, is_of_check, is_of_ending, is_of_search, settings_of, inputs_of}
use Rattle.wp_app.proofs.AnswerLaws.{valid_in_task}
use Rattle.wp_app.proofs.ChainLemmas.{admitted, lifted_finely, never_memory, out_of_reach, task_goes}
use Rattle.wp_app.proofs.EndLemmas.{AllowsRefusals, EndsIn, cert_ends, ends_in_row, goes_past, lifted_ends, made_ends, steps_end, texts_ends}
use Rattle.wp_app.proofs.ReplyLemmas.{request_with, steps_commanded}

abbrev pub Watching : Type 0
Watching = List (WatchKind × Option ℕ)

-- ---- the steps of a command
-- the certificate that a step goes on with
abbrev pub found_cert : Step (List (List ℕ)) → List (List ℕ)
found_cert missing = []
found_cert (ends reply) = []
found_cert (goes cert) = cert

-- what is answered where there is a task
abbrev pub final : Watching → Contents → Command → Grounded → Reply
final watchers files (Check domain problem plan) grounded = ground_reply grounded
final watchers files (Ground domain problem) grounded = ground_reply grounded
final watchers files (Plan domain problem settings watch plain closed) grounded = searched_reply (whole closed) settings watchers grounded
final watchers files (Gen number size settings watch plain) grounded = searched_reply (named number size) settings watchers grounded
final watchers files (Audit domain problem certificate) grounded = audited_reply grounded (found_cert (cert_in certificate files))

abbrev pub after_lifting : Watching → Contents → Command → Lifting → Step Reply
after_lifting watchers files command lifted = grounded_step lifted >>= λ (grounded : Grounded). goes (final watchers files command grounded)

abbrev pub after_texts : Watching → Contents → Command → Texts → Step Reply
after_texts watchers files command texts = lifted_step texts.domain texts.problem >>= λ (lifted : Lifting). after_lifting watchers files command lifted

-- what is asked of a certificate where it is read
abbrev pub after_cert : Texts → List (List ℕ) → Step Reply
after_cert texts cert = lifted_step texts.domain texts.problem >>= λ (lifted : Lifting). grounded_step lifted >>= λ (grounded : Grounded). goes (audited_reply grounded cert)

in_two : {A B C : Type 0} (first : Step A) (second : A → Step B) (next : B → Step C)
    → (first >>= λ (one : A). second one >>= next) ≡ ((first >>= second) >>= next)
in_two missing second next = refl
in_two (ends reply) second next = refl
in_two (goes value) second next = refl

read_before : (texts : Texts) (read : Step (List (List ℕ)))
    → (read >>= after_cert texts) ≡ ((read >>= λ (cert : List (List ℕ)). goes texts) >>= λ (one : Texts). after_cert one (found_cert read))
read_before texts missing = refl
read_before texts (ends reply) = refl
read_before texts (goes cert) = refl

-- reading a certificate, and what follows
pub run_certified : (domain problem certificate : List ℕ) (watchers : Watching) (files : Contents)
    → answer_to_request (request_with (Audit domain problem certificate) watchers) files
    ≡ (texts_step domain problem files >>= λ (texts : Texts). cert_in certificate files >>= after_cert texts)
unfolding answer_to_request answer_to_audit
run_certified domain problem certificate watchers files = refl

run_auditing : (domain problem certificate : List ℕ) (watchers : Watching) (files : Contents)
    → answer_to_request (request_with (Audit domain problem certificate) watchers) files
    ≡ (inputs_of (Audit domain problem certificate) files >>= λ (texts : Texts). after_texts watchers files (Audit domain problem certificate) texts)
run_auditing domain problem certificate watchers files =
    run_certified domain problem certificate watchers files
    ∙ (λ i. texts_step domain problem files >>= λ (texts : Texts). read_before texts (cert_in certificate files) i)
    ∙ in_two (texts_step domain problem files) (λ (texts : Texts). cert_in certificate files >>= λ (cert : List (List ℕ)). goes texts)
    (λ (one : Texts). after_cert one (found_cert (cert_in certificate files)))

pub run_grounding : (command : Command) (watchers : Watching) (files : Contents) → grounds_task command ≡ true
    → answer_to_request (request_with command watchers) files ≡ (inputs_of command files >>= λ (texts : Texts). after_texts watchers files command texts)
unfolding answer_to_request answer_to_ground answer_to_plan answer_to_gen
run_grounding (Check domain problem plan) watchers files e = cc
run_grounding (Ground domain problem) watchers files e = refl
run_grounding (Plan domain problem settings watch plain closed) watchers files e = refl
run_grounding (Gen number size settings watch plain) watchers files e = refl
run_grounding (Audit domain problem certificate) watchers files e = run_auditing domain problem certificate watchers files

abbrev pub judged : Lifting → List PlanStep → Step Reply
judged lifted steps = goes (verdict_reply lifted steps)

abbrev pub after_steps : Texts → List PlanStep → Step Reply
after_steps texts steps = lifted_step texts.domain texts.problem >>= λ (lifted : Lifting). judged lifted steps

-- reading a plan file, and what follows
pub run_checking : (domain problem plan : List ℕ) (watchers : Watching) (files : Contents)
    → answer_to_request (request_with (Check domain problem plan) watchers) files
    ≡ (texts_step domain problem files >>= λ (texts : Texts). (part_of parts.Plan plan files >>= plan_step) >>= after_steps texts)
unfolding answer_to_request answer_to_check
run_checking domain problem plan watchers files = refl

-- the answer is the reply of the command's steps
pub replied : (asked : Asked) (files : Contents) (command : Command) (reply : Reply) → IsAnswered asked files command reply
    → reply_of (answer_to_request (request_with command (kept_of command asked.watchers)) files) ≡ Some reply
replied asked files command reply is = sym (ap reply_of (steps_commanded asked command files is.named)) ∙ is.answer

pub replied_grounding : (asked : Asked) (files : Contents) (command : Command) (reply : Reply) → IsAnswered asked files command reply
    → grounds_task command ≡ true
    → reply_of (inputs_of command files >>= λ (texts : Texts). after_texts (kept_of command asked.watchers) files command texts) ≡ Some reply
replied_grounding asked files command reply is does =
    sym (ap reply_of (run_grounding command (kept_of command asked.watchers) files does)) ∙ replied asked files command reply is

pub replied_checking : (asked : Asked) (files : Contents) (domain problem plan : List ℕ) (reply : Reply) → IsAnswered asked files (Check domain problem plan) reply
    → reply_of (texts_step domain problem files >>= λ (texts : Texts). (part_of parts.Plan plan files >>= plan_step) >>= after_steps texts) ≡ Some reply
replied_checking asked files domain problem plan reply is =
    sym (ap reply_of (run_checking domain problem plan (kept_of (Check domain problem plan) asked.watchers) files))
    ∙ replied asked files (Check domain problem plan) reply is

command_ends : (P : Status → Type 0) → AllowsRefusals P → (command : Command) (files : Contents) → EndsIn {A = Texts} P (inputs_of command files)
command_ends P early (Check domain problem plan) files = texts_ends P early domain problem files
command_ends P early (Ground domain problem) files = texts_ends P early domain problem files
command_ends P early (Plan domain problem settings watch plain closed) files = texts_ends P early domain problem files
command_ends P early (Gen number size settings watch plain) files = made_ends P early number size
command_ends P early (Audit domain problem certificate) files =
    ends_in_row P (texts_step domain problem files) (λ (texts : Texts). cert_in certificate files >>= λ (cert : List (List ℕ)). goes texts)
    (texts_ends P early domain problem files)
    (λ (texts : Texts). ends_in_row P (cert_in certificate files) (λ (cert : List (List ℕ)). goes texts) (cert_ends P early certificate files) (λ (cert : List (List ℕ)). tt))

-- ---- a lifted problem
-- an answer whose status is not that of a refusal is one of a lifted problem
pub record Grounding (files : Contents) (command : Command) (watchers : Watching) (reply : Reply) : Type 0 where
  pub lifted : Lifting
  pub lifts : AreLifted files command lifted
  pub replies : reply_of (after_lifting watchers files command lifted) ≡ Some reply

pub grounding : (P : Status → Type 0) → AllowsRefusals P → (asked : Asked) (files : Contents) (command : Command) (reply : Reply)
    → IsAnswered asked files command reply → grounds_task command ≡ true → (P reply.status → ⊥)
    → Grounding files command (kept_of command asked.watchers) reply
grounding P early asked files command reply is does other =
    let watchers = kept_of command asked.watchers in
    let first = goes_past P (inputs_of command files) (after_texts watchers files command) reply (command_ends P early command files) (replied_grounding asked files command reply is does) other in
    let second =
    goes_past P (lifted_step first.0.domain first.0.problem) (after_lifting watchers files command) reply
    (lifted_ends P early first.0.domain first.0.problem) first.2 other in record {
      lifted = second.0;
      lifts = record { texts = first.0; read = first.1; lifts = second.1 };
      replies = second.2;
    }

-- and from a lifted problem the answer goes on so
pub lifted_replies : (asked : Asked) (files : Contents) (command : Command) (reply : Reply) (lifted : Lifting) → IsAnswered asked files command reply
    → grounds_task command ≡ true → AreLifted files command lifted → reply_of (after_lifting (kept_of command asked.watchers) files command lifted) ≡ Some reply
lifted_replies asked files command reply lifted is does lifts =
    let watchers = kept_of command asked.watchers in
    sym (ap (λ (step : Step Texts). reply_of (step >>= λ (texts : Texts). after_texts watchers files command texts)) lifts.read
    ∙ ap (λ (step : Step Lifting). reply_of (step >>= λ (one : Lifting). after_lifting watchers files command one)) lifts.lifts)
    ∙ replied_grounding asked files command reply is does

pub formed_of : LiftingsAreFormed → (files : Contents) (command : Command) (lifted : Lifting) → AreLifted files command lifted → IsFormed lifted
formed_of formed files command lifted lifts =
    formed lifts.texts.domain lifts.texts.problem lifted (lifted_finely lifts.texts.domain lifts.texts.problem lifted lifts.lifts)

-- ---- endings
searches : (command : Command) (settings : Settings) → settings_of command ≡ Some settings → grounds_task command ≡ true
searches (Check domain problem plan) settings e = cc
searches (Ground domain problem) settings e = cc
searches (Plan domain problem other watch plain closed) settings e = refl
searches (Gen number size other watch plain) settings e = refl
searches (Audit domain problem certificate) settings e = cc

final_status : (watchers : Watching) (files : Contents) (command : Command) (settings : Settings) (grounded : Grounded) → settings_of command ≡ Some settings
    → (final watchers files command grounded).status ≡ ending_status settings.search (ending_of grounded.task settings (all_tuples grounded.task settings)).how
unfolding searched_reply ending_reply
final_status watchers files (Check domain problem plan) settings grounded e = cc
final_status watchers files (Ground domain problem) settings grounded e = cc
final_status watchers files (Plan domain problem other watch plain closed) settings grounded e =
    let same : other ≡ settings = cc in ap (λ (one : Settings). ending_status one.search (ending_of grounded.task one (all_tuples grounded.task one)).how) same
final_status watchers files (Gen number size other watch plain) settings grounded e =
    let same : other ≡ settings = cc in ap (λ (one : Settings). ending_status one.search (ending_of grounded.task one (all_tuples grounded.task one)).how) same
final_status watchers files (Audit domain problem certificate) settings grounded e = cc

-- the statuses of refusals by grounding
task_ends : (P : Status → Type 0) → AllowsRefusals P → P statuses.OutOfReach → P statuses.Memory → (refusal : Option GroundError) (made : Grounded)
    → EndsIn {A = Grounded} P (task_by refusal made)
task_ends P early reach memory None made = tt
task_ends P early reach memory (Some TooManyActs) made = early.limit
task_ends P early reach memory (Some TooManyAtoms) made = early.limit
task_ends P early reach memory (Some (GoalOutOfReach goal atom)) made = reach
task_ends P early reach memory (Some Memory) made = memory

pub grounded_ends : (P : Status → Type 0) → AllowsRefusals P → P statuses.OutOfReach → P statuses.Memory → (lifted : Lifting)
    → EndsIn {A = Grounded} P (grounded_step lifted)
unfolding grounded_step
grounded_ends P early reach memory lifted = task_ends P early reach memory (refusal_of lifted) (grounded_of lifted)

pub reply_is : (one other : Reply) → reply_of (goes one) ≡ Some other → one ≡ other
reply_is one other e = cc

ended_status : (status : Status) (text : List ℕ) (reply : Reply)
    → reply_of (ends (let one : Reply = record { text = text; status = status } in one)) ≡ Some reply → status ≡ reply.status
ended_status status text reply e =
    let one : Reply = record { text = text; status = status } in
    let same : one ≡ reply = cc in ap (λ (r : Reply). r.status) same

not_valid : (valid : Bool) → (valid ≡ true → ⊥) → valid ≡ false
not_valid true never = absurd (never refl)
not_valid false never = refl

abbrev NoEnding : Status → Type 0
NoEnding status = is_of_ending status ≡ false

ending_there : (asked : Asked) (files : Contents) (command : Command) (settings : Settings) (reply : Reply)
    → IsAnswered asked files command reply → settings_of command ≡ Some settings → is_of_ending reply.status ≡ true
    → (ending : Ending) × EndsSo files command settings ending × (ending_status settings.search ending.how ≡ reply.status)
ending_there asked files command settings reply is asks ending =
    let early : AllowsRefusals NoEnding = record { limit = refl; fault = refl } in
    let other : NoEnding reply.status → ⊥ = (λ (not_so : NoEnding reply.status). both_ways (is_of_ending reply.status) not_so ending) in
    let watchers = kept_of command asked.watchers in
    let of = grounding NoEnding early asked files command reply is (searches command settings asks) other in
    let task =
    goes_past NoEnding (grounded_step of.lifted) (λ (grounded : Grounded). goes (final watchers files command grounded)) reply
    (grounded_ends NoEnding early refl refl of.lifted) of.replies other in
    let end = ending_of task.0.task settings (all_tuples task.0.task settings) in (
      end,
      record { asks = asks; lifted = of.lifted; lifts = of.lifts; grounded = task.0; grounds = task.1; ends = refl },
      sym (final_status watchers files command settings task.0 asks)
          ∙ ap (λ (one : Reply). one.status) (reply_is (final watchers files command task.0) reply task.2),
    )

ending_here : (asked : Asked) (files : Contents) (command : Command) (settings : Settings) (reply : Reply)
    → IsAnswered asked files command reply → (ending : Ending) → EndsSo files command settings ending
    → reply.status ≡ ending_status settings.search ending.how
ending_here asked files command settings reply is ending so =
    let watchers = kept_of command asked.watchers in
    let does = searches command settings so.asks in
    let last =
    sym (ap (λ (step : Step Grounded). reply_of (step >>= λ (one : Grounded). goes (final watchers files command one))) so.grounds)
    ∙ lifted_replies asked files command reply so.lifted is does so.lifts in
    ap (λ (one : Reply). one.status) (sym (reply_is (final watchers files command so.grounded) reply last))
    ∙ final_status watchers files command settings so.grounded so.asks
    ∙ ap (λ (end : Ending). ending_status settings.search end.how) so.ends

pub endings_have : EndingsHaveTheirStatuses
endings_have asked files command settings reply is asks =
    (ending_there asked files command settings reply is asks, ending_here asked files command settings reply is)

-- ---- goals out of reach
abbrev NotOut : Status → Type 0
NotOut status = status ≡ statuses.OutOfReach → ⊥

no_ending_out : (search : Search) (how : How) → ending_status search how ≡ statuses.OutOfReach → ⊥
no_ending_out search (Found plan) e = cc
no_ending_out F5 Emptied e = cc
no_ending_out KBfws Emptied e = cc
no_ending_out search Budget e = cc
no_ending_out search (Words pairs) e = cc

no_audit_out : (audit : Audited) → audit_status audit ≡ statuses.OutOfReach → ⊥
no_audit_out Yes e = cc
no_audit_out (Foreign state) e = cc
no_audit_out NoStart e = cc
no_audit_out (Goal state) e = cc
no_audit_out (Open state act) e = cc

final_reached : (watchers : Watching) (files : Contents) (command : Command) (grounded : Grounded) → (final watchers files command grounded).status ≡ statuses.OutOfReach → ⊥
unfolding ground_reply searched_reply ending_reply audited_reply
final_reached watchers files (Check domain problem plan) grounded e = cc
final_reached watchers files (Ground domain problem) grounded e = cc
final_reached watchers files (Plan domain problem settings watch plain closed) grounded e = no_ending_out settings.search (ending_of grounded.task settings (all_tuples grounded.task settings)).how e
final_reached watchers files (Gen number size settings watch plain) grounded e = no_ending_out settings.search (ending_of grounded.task settings (all_tuples grounded.task settings)).how e
final_reached watchers files (Audit domain problem certificate) grounded e = no_audit_out (audit_of grounded.task (found_cert (cert_in certificate files))) e

-- the cause of an answer that a goal is out of reach
cause_of : (refusal : Option GroundError) (made : Grounded) (next : Grounded → Reply) (reply : Reply)
    → ((grounded : Grounded) → (next grounded).status ≡ statuses.OutOfReach → ⊥)
    → reply_of (task_by refusal made >>= λ (grounded : Grounded). goes (next grounded)) ≡ Some reply → reply.status ≡ statuses.OutOfReach
    → (goal : ℕ) × (atom : List ℕ) × (refusal ≡ Some (GoalOutOfReach goal atom))
cause_of None made next reply reached e is =
    absurd (reached made (ap (λ (one : Reply). one.status) (reply_is (next made) reply e) ∙ is))
cause_of (Some TooManyActs) made next reply reached e is =
    let same : statuses.Limit ≡ statuses.OutOfReach = ended_status statuses.Limit _ reply e ∙ is in cc
cause_of (Some TooManyAtoms) made next reply reached e is =
    let same : statuses.Limit ≡ statuses.OutOfReach = ended_status statuses.Limit _ reply e ∙ is in cc
cause_of (Some (GoalOutOfReach goal atom)) made next reply reached e is = (goal, atom, refl)
cause_of (Some Memory) made next reply reached e is =
    let same : statuses.Memory ≡ statuses.OutOfReach = ended_status statuses.Memory _ reply e ∙ is in cc

out_there : (asked : Asked) (files : Contents) (command : Command) (reply : Reply) → IsAnswered asked files command reply
    → grounds_task command ≡ true → reply.status ≡ statuses.OutOfReach → IsOutOfReach files command
unfolding grounded_step
out_there asked files command reply is does out =
    let early : AllowsRefusals NotOut = record { limit = λ e. cc; fault = λ e. cc } in
    let watchers = kept_of command asked.watchers in
    let of = grounding NotOut early asked files command reply is does (λ not_out. not_out out) in
    let cause =
    cause_of (refusal_of of.lifted) (grounded_of of.lifted) (final watchers files command) reply (final_reached watchers files command) of.replies out in
    (of.lifted, of.lifts, cause.0, cause.1, cause.2)

out_here : (asked : Asked) (files : Contents) (command : Command) (reply : Reply) → IsAnswered asked files command reply
    → grounds_task command ≡ true → IsOutOfReach files command → reply.status ≡ statuses.OutOfReach
unfolding grounded_step
out_here asked files command reply is does out =
    let watchers = kept_of command asked.watchers in
    let replies = lifted_replies asked files command reply out.0 is does out.1 in
    let last =
    sym (ap (λ (refusal : Option GroundError). reply_of (task_by refusal (grounded_of out.0) >>= λ (grounded : Grounded). goes (final watchers files command grounded))) out.4)
    ∙ replies in
    sym (ended_status statuses.OutOfReach _ reply last)

pub unreached_answered : UnreachedGoalsAreAnswered
unreached_answered asked files command reply is does =
    (out_there asked files command reply is does, out_here asked files command reply is does)

-- ---- no plan
emptied_of : (search : Search) (how : How) → ending_status search how ≡ statuses.NoPlan → (search ≡ F5) × (how ≡ Emptied)
emptied_of search (Found plan) e = cc
emptied_of F5 Emptied e = (refl, refl)
emptied_of KBfws Emptied e = cc
emptied_of search Budget e = cc
emptied_of search (Words pairs) e = cc

emptied_none : LiftingsAreFormed → EmptiedHasNoPlan → PlansAreValid → ValidPlansAreNumbered → (files : Contents) (command : Command) (settings : Settings) (ending : Ending)
    → EndsSo files command settings ending → settings.search ≡ F5 → ending.how ≡ Emptied → HaveNoPlan files command
emptied_none forms emptied plans_are_valid numbered files command settings ending so f5 how =
    let formed = formed_of forms files command so.lifted so.lifts in
    let task = task_goes so.lifted so.grounded so.grounds in
    let goals = (admitted so.lifted task.0).all_reached in
    let none : (plan : List ℕ) → is_plan (task_of so.lifted) plan ≡ false =
    λ plan. subst (λ (one : Grounded). is_plan one.task plan ≡ false) (sym task.1)
    (emptied so.grounded.task settings (all_tuples so.grounded.task settings) f5 (ap (λ (end : Ending). end.how) so.ends ∙ how) plan) in
    (so.lifted, so.lifts, λ plan. not_valid (is_valid so.lifted plan) (valid_in_task plans_are_valid numbered so.lifted formed goals none plan))

searching : (command : Command) → is_of command statuses.NoPlan ≡ true → (settings : Settings) × (settings_of command ≡ Some settings)
searching (Check domain problem plan) e = cc
searching (Ground domain problem) e = cc
searching (Plan domain problem settings watch plain closed) e = (settings, refl)
searching (Gen number size settings watch plain) e = (settings, refl)
searching (Audit domain problem certificate) e = cc

grounding_out : (command : Command) → is_of command statuses.OutOfReach ≡ true → grounds_task command ≡ true
grounding_out (Check domain problem plan) e = cc
grounding_out (Ground domain problem) e = refl
grounding_out (Plan domain problem settings watch plain closed) e = refl
grounding_out (Gen number size settings watch plain) e = refl
grounding_out (Audit domain problem certificate) e = refl

pub no_plan : EndingsHaveTheirStatuses → UnreachedGoalsAreAnswered → AnswersAreOfTheirCommands → LiftingsAreFormed → EmptiedHasNoPlan → PlansAreValid
    → ValidPlansAreNumbered → UnreachedGoalsHaveNoPlan → NoPlanIsTrue
no_plan endings unreached of forms emptied plans_are_valid numbered none asked files command reply is (inl says) =
    let may : is_of command statuses.NoPlan ≡ true = sym (ap (is_of command) says) ∙ of asked files command reply is in
    let asks = searching command may in
    let end = (endings asked files command asks.0 reply is asks.1).0 (ap is_of_ending says) in
    let how = emptied_of asks.0.search end.0.how (end.2 ∙ says) in
    emptied_none forms emptied plans_are_valid numbered files command asks.0 end.0 end.1 how.0 how.1
no_plan endings unreached of forms emptied plans_are_valid numbered none asked files command reply is (inr out) =
    let may : is_of command statuses.OutOfReach ≡ true = sym (ap (is_of command) out) ∙ of asked files command reply is in
    let cause = (unreached asked files command reply is (grounding_out command may)).0 out in
    (cause.0, cause.1, none cause.0 (formed_of forms files command cause.0 cause.1) (out_of_reach cause.0 cause.2 cause.3 cause.4))

-- ---- which statuses
-- the step replies with one of these statuses
abbrev Replies : (Status → Type 0) → Step Reply → Type 0
Replies P missing = Unit {0}
Replies P (ends reply) = P reply.status
Replies P (goes reply) = P reply.status

replies_row : {A : Type 0} (P : Status → Type 0) (step : Step A) (next : A → Step Reply) → EndsIn P step → ((value : A) → Replies P (next value))
    → Replies P (step >>= next)
replies_row P missing next first rest = tt
replies_row P (ends reply) next first rest = first
replies_row P (goes value) next first rest = rest value

of_reply : (P : Status → Type 0) (step : Step Reply) (reply : Reply) → Replies P step → reply_of step ≡ Some reply → P reply.status
of_reply P missing reply is e = cc
of_reply P (ends one) reply is e = let same : one ≡ reply = cc in subst (λ (r : Reply). P r.status) same is
of_reply P (goes one) reply is e = let same : one ≡ reply = cc in subst (λ (r : Reply). P r.status) same is

task_of_known : (P : Status → Type 0) → AllowsRefusals P → P statuses.OutOfReach → (refusal : Option GroundError) (made : Grounded) → (refusal ≡ Some Memory → ⊥)
    → EndsIn {A = Grounded} P (task_by refusal made)
task_of_known P early reach None made known = tt
task_of_known P early reach (Some TooManyActs) made known = early.limit
task_of_known P early reach (Some TooManyAtoms) made known = early.limit
task_of_known P early reach (Some (GoalOutOfReach goal atom)) made known = reach
task_of_known P early reach (Some Memory) made known = absurd (known refl)

grounded_known : (P : Status → Type 0) → AllowsRefusals P → P statuses.OutOfReach → (lifted : Lifting) → EndsIn {A = Grounded} P (grounded_step lifted)
unfolding grounded_step
grounded_known P early reach lifted = task_of_known P early reach (refusal_of lifted) (grounded_of lifted) (never_memory lifted)

ending_among : (search : Search) (how : How) → is_of_search search (ending_status search how) ≡ true
ending_among search (Found plan) = refl
ending_among F5 Emptied = refl
ending_among KBfws Emptied = refl
ending_among search Budget = refl
ending_among search (Words pairs) = refl

audit_among : (audit : Audited) → is_of_audit (audit_status audit) ≡ true
audit_among Yes = refl
audit_among (Foreign state) = refl
audit_among NoStart = refl
audit_among (Goal state) = refl
audit_among (Open state act) = refl

final_among : (watchers : Watching) (files : Contents) (command : Command) (grounded : Grounded) → grounds_task command ≡ true
    → is_of command (final watchers files command grounded).status ≡ true
unfolding ground_reply searched_reply ending_reply audited_reply
final_among watchers files (Check domain problem plan) grounded e = cc
final_among watchers files (Ground domain problem) grounded e = refl
final_among watchers files (Plan domain problem settings watch plain closed) grounded e = ending_among settings.search (ending_of grounded.task settings (all_tuples grounded.task settings)).how
final_among watchers files (Gen number size settings watch plain) grounded e = ending_among settings.search (ending_of grounded.task settings (all_tuples grounded.task settings)).how
final_among watchers files (Audit domain problem certificate) grounded e = audit_among (audit_of grounded.task (found_cert (cert_in certificate files)))

abbrev Among : Command → Status → Type 0
Among command status = is_of command status ≡ true

allows : (command : Command) → AllowsRefusals (Among command)
allows (Check domain problem plan) = record { limit = refl; fault = refl }
allows (Ground domain problem) = record { limit = refl; fault = refl }
allows (Plan domain problem settings watch plain closed) = record { limit = refl; fault = refl }
allows (Gen number size settings watch plain) = record { limit = refl; fault = refl }
allows (Audit domain problem certificate) = record { limit = refl; fault = refl }

allows_reach : (command : Command) → grounds_task command ≡ true → Among command statuses.OutOfReach
allows_reach (Check domain problem plan) e = cc
allows_reach (Ground domain problem) e = refl
allows_reach (Plan domain problem settings watch plain closed) e = refl
allows_reach (Gen number size settings watch plain) e = refl
allows_reach (Audit domain problem certificate) e = refl

grounding_among : (watchers : Watching) (command : Command) (files : Contents) → grounds_task command ≡ true
    → Replies (Among command) (inputs_of command files >>= λ (texts : Texts). after_texts watchers files command texts)
grounding_among watchers command files does =
    let P = Among command in
    replies_row P (inputs_of command files) (after_texts watchers files command) (command_ends P (allows command) command files)
    (λ (texts : Texts).
    replies_row P (lifted_step texts.domain texts.problem) (after_lifting watchers files command) (lifted_ends P (allows command) texts.domain texts.problem)
    (λ (lifted : Lifting).
    replies_row P (grounded_step lifted) (λ (grounded : Grounded). goes (final watchers files command grounded))
    (grounded_known P (allows command) (allows_reach command does) lifted)
    (λ (grounded : Grounded). final_among watchers files command grounded does)))

verdict_among : (verdict : Verdict) → is_of_check (verdict_status verdict) ≡ true
verdict_among Valid = refl
verdict_among (Bad step why) = refl
verdict_among (GoalUnmet place) = refl

checking_among : (domain problem plan : List ℕ) (files : Contents)
    → Replies (Among (Check domain problem plan))
    (texts_step domain problem files >>= λ (texts : Texts). (part_of parts.Plan plan files >>= plan_step) >>= after_steps texts)
unfolding verdict_reply
checking_among domain problem plan files =
    let command = Check domain problem plan in
    let P = Among command in
    let early = allows command in
    replies_row P (texts_step domain problem files) (λ (texts : Texts). (part_of parts.Plan plan files >>= plan_step) >>= after_steps texts)
    (texts_ends P early domain problem files)
    (λ (texts : Texts).
    replies_row P (part_of parts.Plan plan files >>= plan_step) (after_steps texts) (steps_end P early plan files)
    (λ (steps : List PlanStep).
    replies_row P (lifted_step texts.domain texts.problem) (λ (lifted : Lifting). judged lifted steps) (lifted_ends P early texts.domain texts.problem)
    (λ (lifted : Lifting). verdict_among (verdict_of lifted steps))))

among_grounding : (asked : Asked) (files : Contents) (command : Command) (reply : Reply) → IsAnswered asked files command reply → grounds_task command ≡ true
    → Among command reply.status
among_grounding asked files command reply is does =
    of_reply (Among command) _ reply (grounding_among (kept_of command asked.watchers) command files does) (replied_grounding asked files command reply is does)

pub of_their_commands : AnswersAreOfTheirCommands
of_their_commands asked files (Check domain problem plan) reply is =
    of_reply (Among (Check domain problem plan)) _ reply (checking_among domain problem plan files) (replied_checking asked files domain problem plan reply is)
of_their_commands asked files (Ground domain problem) reply is = among_grounding asked files (Ground domain problem) reply is refl
of_their_commands asked files (Plan domain problem settings watch plain closed) reply is =
    among_grounding asked files (Plan domain problem settings watch plain closed) reply is refl
of_their_commands asked files (Gen number size settings watch plain) reply is =
    among_grounding asked files (Gen number size settings watch plain) reply is refl
of_their_commands asked files (Audit domain problem certificate) reply is =
    among_grounding asked files (Audit domain problem certificate) reply is refl

-- ---- `check`
abbrev is_verdict : Status → Bool
is_verdict statuses.Done = true
is_verdict statuses.InvalidPlan = true
is_verdict status = false

abbrev NoVerdict : Status → Type 0
NoVerdict status = is_verdict status ≡ false

-- the answer is that of a verdict
record Judging (files : Contents) (domain problem plan : List ℕ) (reply : Reply) : Type 0 where
  lifted : Lifting
  steps : List PlanStep
  judged_is : IsJudged files domain problem plan lifted steps
  status : verdict_status (verdict_of lifted steps) ≡ reply.status

judging : (asked : Asked) (files : Contents) (domain problem plan : List ℕ) (reply : Reply) → IsAnswered asked files (Check domain problem plan) reply
    → is_verdict reply.status ≡ true → Judging files domain problem plan reply
unfolding verdict_reply
judging asked files domain problem plan reply is verdict =
    let P = NoVerdict in
    let early : AllowsRefusals P = record { limit = refl; fault = refl } in
    let other : P reply.status → ⊥ = (λ (not_so : P reply.status). both_ways (is_verdict reply.status) not_so verdict) in
    let texts =
    goes_past P (texts_step domain problem files) (λ (one : Texts). (part_of parts.Plan plan files >>= plan_step) >>= after_steps one) reply
    (texts_ends P early domain problem files) (replied_checking asked files domain problem plan reply is) other in
    let steps =
    goes_past P (part_of parts.Plan plan files >>= plan_step) (after_steps texts.0) reply (steps_end P early plan files) texts.2 other in
    let lifted =
    goes_past P (lifted_step texts.0.domain texts.0.problem) (λ (one : Lifting). judged one steps.0) reply
    (lifted_ends P early texts.0.domain texts.0.problem) steps.2 other in record {
      lifted = lifted.0;
      steps = steps.0;
      judged_is = record { lifts = record { texts = texts.0; read = texts.1; lifts = lifted.1 }; steps_read = steps.1 };
      status = ap (λ (one : Reply). one.status) (reply_is (verdict_reply lifted.0 steps.0) reply lifted.2);
    }

judged_status : (asked : Asked) (files : Contents) (domain problem plan : List ℕ) (reply : Reply) (lifted : Lifting) (steps : List PlanStep)
    → IsAnswered asked files (Check domain problem plan) reply → IsJudged files domain problem plan lifted steps
    → reply.status ≡ verdict_status (verdict_of lifted steps)
unfolding verdict_reply
judged_status asked files domain problem plan reply lifted steps is so =
    let lifts = so.lifts in
    let last =
    sym (ap (λ (step : Step Texts). reply_of (step >>= λ (one : Texts). (part_of parts.Plan plan files >>= plan_step) >>= after_steps one)) lifts.read
    ∙ ap (λ (step : Step (List PlanStep)). reply_of (step >>= after_steps lifts.texts)) so.steps_read
    ∙ ap (λ (step : Step Lifting). reply_of (step >>= λ (one : Lifting). judged one steps)) lifts.lifts)
    ∙ replied_checking asked files domain problem plan reply is in
    sym (ap (λ (one : Reply). one.status) (reply_is (verdict_reply lifted steps) reply last))

valid_done : (verdict : Verdict) → verdict_status verdict ≡ statuses.Done → verdict ≡ Valid
valid_done Valid e = refl
valid_done (Bad step why) e = cc
valid_done (GoalUnmet place) e = cc

invalid_not : (verdict : Verdict) → verdict_status verdict ≡ statuses.InvalidPlan → verdict ≢ Valid
invalid_not Valid e = cc
invalid_not (Bad step why) e = λ same. cc
invalid_not (GoalUnmet place) e = λ same. cc

not_invalid : (verdict : Verdict) → verdict ≢ Valid → verdict_status verdict ≡ statuses.InvalidPlan
not_invalid Valid never = absurd (never refl)
not_invalid (Bad step why) never = refl
not_invalid (GoalUnmet place) never = refl

done_there : ValidStepsNameValidPlans → (asked : Asked) (files : Contents) (domain problem plan : List ℕ) (reply : Reply)
    → IsAnswered asked files (Check domain problem plan) reply → reply.status ≡ statuses.Done → HasValidPlan files domain problem plan
done_there names asked files domain problem plan reply is done =
    let of = judging asked files domain problem plan reply is (ap is_verdict done) in
    let valid = (names of.lifted of.steps).0 (valid_done (verdict_of of.lifted of.steps) (of.status ∙ done)) in record {
      lifted = of.lifted;
      steps = of.steps;
      judged = of.judged_is;
      instances = valid.0;
      names = valid.1;
      valid = valid.2;
    }

done_here : ValidStepsNameValidPlans → (asked : Asked) (files : Contents) (domain problem plan : List ℕ) (reply : Reply)
    → IsAnswered asked files (Check domain problem plan) reply → HasValidPlan files domain problem plan → reply.status ≡ statuses.Done
done_here names asked files domain problem plan reply is has =
    judged_status asked files domain problem plan reply has.lifted has.steps is has.judged
    ∙ ap verdict_status ((names has.lifted has.steps).1 (has.instances, has.names, has.valid))

pub done_checks : ValidStepsNameValidPlans → DoneChecksHaveValidPlans
done_checks names asked files domain problem plan reply is =
    (done_there names asked files domain problem plan reply is, done_here names asked files domain problem plan reply is)

invalid_there : (asked : Asked) (files : Contents) (domain problem plan : List ℕ) (reply : Reply)
    → IsAnswered asked files (Check domain problem plan) reply → reply.status ≡ statuses.InvalidPlan → HasInvalidPlan files domain problem plan
invalid_there asked files domain problem plan reply is bad =
    let of = judging asked files domain problem plan reply is (ap is_verdict bad) in record {
      lifted = of.lifted;
      steps = of.steps;
      judged = of.judged_is;
      invalid = invalid_not (verdict_of of.lifted of.steps) (of.status ∙ bad);
    }

invalid_here : (asked : Asked) (files : Contents) (domain problem plan : List ℕ) (reply : Reply)
    → IsAnswered asked files (Check domain problem plan) reply → HasInvalidPlan files domain problem plan → reply.status ≡ statuses.InvalidPlan
invalid_here asked files domain problem plan reply is has =
    judged_status asked files domain problem plan reply has.lifted has.steps is has.judged ∙ not_invalid (verdict_of has.lifted has.steps) has.invalid

pub invalid_checks : InvalidChecksHaveInvalidPlans
invalid_checks asked files domain problem plan reply is =
    (invalid_there asked files domain problem plan reply is, invalid_here asked files domain problem plan reply is)
