-- What the statuses of `audit` mean, from its steps.
use Rattle.std.proofs.Common.{◌≡◌, ◌≢◌, ℕ, Bool, true, false, List, refl, sym, ap, ◌∙◌}
use Rattle.std.specs.Prelude.{Option}
use Rattle.std.proofs.lemmas.Bool.{both_ways}
use Rattle.wp_edge.specs.Fetch.{Contents}
use Rattle.wp_lift.specs.Problem.{Lifting}
use Rattle.wp_lift.specs.Laws.{LiftingsAreFormed}
use Rattle.wp_ground.specs.declared.grounding.Grounded.{Grounded}
use Rattle.wp_ground.specs.declared.grounding.GroundError.{GroundError}
use Rattle.wp_ground.specs.Refusals.{grounded_of}
use Rattle.wp_ground.specs.Tasks.{task_of}
use Rattle.wp_cert.specs.declared.answer.Audit.{Audit as Audited}
use Rattle.wp_cert.specs.declared.answer.Audit.TheVariants.{Yes, Foreign, NoStart, Goal, Open}
use Rattle.wp_cert.specs.Audits.{audit_of}
use Rattle.wp_cert.specs.Laws.{YesHasNoValidPlan}
use Rattle.wp_words.specs.declared.commands.Command.TheVariants.{Audit}
use Rattle.wp_app.specs.declared.reply.Reply.{Reply}
use Rattle.wp_app.specs.declared.reply.Status.{Status}
use Rattle.wp_app.specs.declared.reply.Status.TheVariants as statuses
use Rattle.wp_app.specs.declared.inputs.Texts.{Texts}
use Rattle.wp_app.specs.Requests.{Asked, kept_of}
use Rattle.wp_app.specs.Steps.{Step, missing, ends, goes, reply_of, ◌>>=◌}
use Rattle.wp_app.specs.Output.{audit_status, audited_reply, grounded_step, task_by}
use Rattle.wp_app.specs.Table.{cert_in, texts_step}
use Rattle.wp_app.specs.Meanings.{DoneAuditsHaveClosedStates, DoneAuditsHaveNoPlan, HasClosedStates, HasOpenStates, InvalidAuditsHaveOpenStates, IsAnswered, IsAudited}
use Rattle.wp_app.proofs.ChainLemmas.{task_goes}
use Rattle.wp_app.proofs.EndLemmas.{AllowsRefusals, goes_past}
use Rattle.wp_app.proofs.MeaningLaws.{final, formed_of, found_cert, grounded_ends, grounding, lifted_replies, reply_is}

abbrev is_audited : Status → Bool
is_audited statuses.Done = true
is_audited statuses.InvalidCert = true
is_audited status = false

abbrev NoAudit : Status → Type 0
NoAudit status = is_audited status ≡ false

-- where all three files are read, so is the certificate
cert_there : (read : Step Texts) (cert : Step (List (List ℕ))) (texts : Texts)
    → (read >>= λ (one : Texts). cert >>= λ (found : List (List ℕ)). goes one) ≡ goes texts → (found : List (List ℕ)) × (cert ≡ goes found)
cert_there missing cert texts e = cc
cert_there (ends reply) cert texts e = cc
cert_there (goes one) missing texts e = cc
cert_there (goes one) (ends reply) texts e = cc
cert_there (goes one) (goes found) texts e = (found, refl)

-- the answer is that of an audit
record Auditing (files : Contents) (domain problem certificate : List ℕ) (reply : Reply) : Type 0 where
  lifted : Lifting
  cert : List (List ℕ)
  audited_is : IsAudited files domain problem certificate lifted cert
  status : audit_status (audit_of (task_of lifted) cert) ≡ reply.status

auditing : (asked : Asked) (files : Contents) (domain problem certificate : List ℕ) (reply : Reply) → IsAnswered asked files (Audit domain problem certificate) reply
    → is_audited reply.status ≡ true → Auditing files domain problem certificate reply
unfolding audited_reply
auditing asked files domain problem certificate reply is audited =
    let P = NoAudit in
    let command = Audit domain problem certificate in
    let early : AllowsRefusals P = record { limit = refl; fault = refl } in
    let other : P reply.status → ⊥ = (λ (not_so : P reply.status). both_ways (is_audited reply.status) not_so audited) in
    let watchers = kept_of command asked.watchers in
    let of = grounding P early asked files command reply is refl other in
    let task =
    goes_past P (grounded_step of.lifted) (λ (grounded : Grounded). goes (final watchers files command grounded)) reply
    (grounded_ends P early refl refl of.lifted) of.replies other in
    let of_task = task_goes of.lifted task.0 task.1 in
    let cert = cert_there (texts_step domain problem files) (cert_in certificate files) of.lifts.texts of.lifts.read in record {
      lifted = of.lifted;
      cert = cert.0;
      audited_is = record { lifts = of.lifts; cert_read = cert.1; admitted = of_task.0 };
      status =
          ap (λ (one : Grounded). audit_status (audit_of one.task cert.0)) of_task.1
          ∙ ap (λ (step : Step (List (List ℕ))). audit_status (audit_of task.0.task (found_cert step))) (sym cert.1)
          ∙ ap (λ (one : Reply). one.status) (reply_is (final watchers files command task.0) reply task.2);
    }

audited_status : (asked : Asked) (files : Contents) (domain problem certificate : List ℕ) (reply : Reply) (lifted : Lifting) (cert : List (List ℕ))
    → IsAnswered asked files (Audit domain problem certificate) reply → IsAudited files domain problem certificate lifted cert
    → reply.status ≡ audit_status (audit_of (task_of lifted) cert)
unfolding grounded_step audited_reply
audited_status asked files domain problem certificate reply lifted cert is so =
    let command = Audit domain problem certificate in
    let watchers = kept_of command asked.watchers in
    let last =
    sym (ap (λ (refusal : Option GroundError). reply_of (task_by refusal (grounded_of lifted) >>= λ (grounded : Grounded). goes (final watchers files command grounded))) so.admitted)
    ∙ lifted_replies asked files command reply lifted is refl so.lifts in
    sym (ap (λ (one : Reply). one.status) (reply_is (final watchers files command (grounded_of lifted)) reply last))
    ∙ ap (λ (step : Step (List (List ℕ))). audit_status (audit_of (task_of lifted) (found_cert step))) so.cert_read

yes_of : (audit : Audited) → audit_status audit ≡ statuses.Done → audit ≡ Yes
yes_of Yes e = refl
yes_of (Foreign state) e = cc
yes_of NoStart e = cc
yes_of (Goal state) e = cc
yes_of (Open state act) e = cc

no_yes : (audit : Audited) → audit_status audit ≡ statuses.InvalidCert → audit ≢ Yes
no_yes Yes e = cc
no_yes (Foreign state) e = λ same. cc
no_yes NoStart e = λ same. cc
no_yes (Goal state) e = λ same. cc
no_yes (Open state act) e = λ same. cc

invalid_of : (audit : Audited) → audit ≢ Yes → audit_status audit ≡ statuses.InvalidCert
invalid_of Yes never = absurd (never refl)
invalid_of (Foreign state) never = refl
invalid_of NoStart never = refl
invalid_of (Goal state) never = refl
invalid_of (Open state act) never = refl

done_there : (asked : Asked) (files : Contents) (domain problem certificate : List ℕ) (reply : Reply)
    → IsAnswered asked files (Audit domain problem certificate) reply → reply.status ≡ statuses.Done → HasClosedStates files domain problem certificate
done_there asked files domain problem certificate reply is done =
    let of = auditing asked files domain problem certificate reply is (ap is_audited done) in
    record { lifted = of.lifted; cert = of.cert; audited = of.audited_is; closed = yes_of (audit_of (task_of of.lifted) of.cert) (of.status ∙ done) }

done_here : (asked : Asked) (files : Contents) (domain problem certificate : List ℕ) (reply : Reply)
    → IsAnswered asked files (Audit domain problem certificate) reply → HasClosedStates files domain problem certificate → reply.status ≡ statuses.Done
done_here asked files domain problem certificate reply is has =
    audited_status asked files domain problem certificate reply has.lifted has.cert is has.audited ∙ ap audit_status has.closed

pub done_audits : DoneAuditsHaveClosedStates
done_audits asked files domain problem certificate reply is =
    (done_there asked files domain problem certificate reply is, done_here asked files domain problem certificate reply is)

invalid_there : (asked : Asked) (files : Contents) (domain problem certificate : List ℕ) (reply : Reply)
    → IsAnswered asked files (Audit domain problem certificate) reply → reply.status ≡ statuses.InvalidCert → HasOpenStates files domain problem certificate
invalid_there asked files domain problem certificate reply is bad =
    let of = auditing asked files domain problem certificate reply is (ap is_audited bad) in
    record { lifted = of.lifted; cert = of.cert; audited = of.audited_is; open_somewhere = no_yes (audit_of (task_of of.lifted) of.cert) (of.status ∙ bad) }

invalid_here : (asked : Asked) (files : Contents) (domain problem certificate : List ℕ) (reply : Reply)
    → IsAnswered asked files (Audit domain problem certificate) reply → HasOpenStates files domain problem certificate → reply.status ≡ statuses.InvalidCert
invalid_here asked files domain problem certificate reply is has =
    audited_status asked files domain problem certificate reply has.lifted has.cert is has.audited
    ∙ invalid_of (audit_of (task_of has.lifted) has.cert) has.open_somewhere

pub invalid_audits : InvalidAuditsHaveOpenStates
invalid_audits asked files domain problem certificate reply is =
    (invalid_there asked files domain problem certificate reply is, invalid_here asked files domain problem certificate reply is)

pub no_plan : YesHasNoValidPlan → LiftingsAreFormed → DoneAuditsHaveNoPlan
no_plan says_yes formed asked files domain problem certificate reply is done =
    let has = done_there asked files domain problem certificate reply is done in
    let lifts = has.audited.lifts in
    (has.lifted, lifts, λ plan. says_yes has.lifted has.cert (formed_of formed files (Audit domain problem certificate) has.lifted lifts) has.closed plan)
