-- There is no answer exactly where the first file that cannot be read is not there: no step but that of a file misses one.
use Rattle.std.proofs.Common.{◌≡◌, ℕ, Bool, true, false, List, [], ◌∷◌, length, refl, sym, ap, ◌∙◌, subst, inl, inr}
use Rattle.std.specs.Prelude.{◌⊎◌, nat_lt, Option, None, Some, Result, Ok, Err}
use Rattle.std.specs.FinMap.{get}
use Rattle.wp_edge.specs.Fetch.{Contents}
use Rattle.wp_lex.specs.declared.error.LexError.{LexError}
use Rattle.wp_lex.specs.declared.item.Item.{Item}
use Rattle.wp_lex.specs.Trees.{trees_of}
use Rattle.wp_lex.specs.Faults.{fault_of}
use Rattle.wp_lex.specs.Items.{items_of}
use Rattle.wp_syntax.specs.declared.error.Part.{Part}
use Rattle.wp_syntax.specs.declared.error.Part.TheVariants as parts
use Rattle.wp_syntax.specs.declared.records.Domain.{Domain}
use Rattle.wp_syntax.specs.declared.records.Problem.{Problem}
use Rattle.wp_syntax.specs.Reading.{Wrong}
use Rattle.wp_syntax.specs.Domains.{domain_of}
use Rattle.wp_syntax.specs.Problems.{problem_of}
use Rattle.wp_lift.specs.Problem.{Lifting}
use Rattle.wp_lift.specs.declared.fault.Fault.{Fault}
use Rattle.wp_lift.specs.Lifting.{lifting_of}
use Rattle.wp_check.specs.declared.step.Step.{Step as PlanStep}
use Rattle.wp_check.specs.declared.step.PlanError.{PlanError}
use Rattle.wp_check.specs.PlanFile.{plan_of}
use Rattle.wp_cert.specs.Format.{cert_of}
use Rattle.wp_ground.specs.declared.grounding.Grounded.{Grounded}
use Rattle.wp_ground.specs.declared.grounding.GroundError.{GroundError}
use Rattle.wp_ground.specs.Refusals.{grounded_of, refusal_of}
use Rattle.wp_gen.specs.Depot.{domain_text, problem_text}
use Rattle.wp_words.specs.declared.commands.Command.{Command}
use Rattle.wp_words.specs.declared.commands.Command.TheVariants.{Audit, Check, Gen, Ground, Plan}
use Rattle.wp_words.specs.Words.{command_of}
use Rattle.wp_report.specs.Inputs.{too_long_text}
use Rattle.wp_app.specs.declared.reply.Reply.{Reply}
use Rattle.wp_app.specs.declared.reply.Status.TheVariants as statuses
use Rattle.wp_app.specs.declared.inputs.Texts.{Texts}
use Rattle.wp_app.specs.Requests.{Asked, file_of, kept_of}
use Rattle.wp_app.specs.Steps.{Step, missing, ends, goes, reply_of, ◌>>=◌}
use Rattle.wp_app.specs.Output.{answered, audited_reply, cert_by, cert_step, domain_in, domain_step, grounded_step, items_by, items_step, lifted_by, lifted_step, limit_of, part_of, plan_step, problem_in, problem_step, record_by, steps_by, task_by, within}
use Rattle.wp_app.specs.Table.{answer_sought, cert_in, made_step, texts_step}
use Rattle.wp_app.specs.Causes.{HasNoFile, IsReadBefore, MissingFilesHaveNoAnswer, reads_files}
use Rattle.wp_app.specs.Meanings.{texts_of}
use Rattle.wp_app.proofs.CauseLaws.{Reads, behind, goes_longer, named_reads, reading, reads_audit, reads_check, reads_ground, reads_plan, run_row, same_name}
use Rattle.wp_app.proofs.ChainLemmas.{both, from_problem}
use Rattle.wp_app.proofs.MeaningLaws.{Watching, after_cert, after_lifting, after_steps, after_texts, final, judged}
use Rattle.wp_app.proofs.ReplyLemmas.{steps_commanded}

-- a row that misses a file does so at its first step, or behind it
misses : {A B : Type 0} (first : Step A) (next : A → Step B) → (first >>= next) ≡ missing
    → (first ≡ missing) ⊎ ((value : A) × (first ≡ goes value) × (next value ≡ missing))
misses missing next e = inl refl
misses (ends reply) next e = cc
misses (goes value) next e = inr (value, refl, e)

-- ---- steps that read no file miss none
abbrev FindsAll : {A : Type 0} → Step A → Type 0
FindsAll step = step ≡ missing → ⊥

row_finds : {A B : Type 0} (first : Step A) (next : A → Step B) → FindsAll first → ((value : A) → FindsAll (next value)) → FindsAll (first >>= next)
row_finds missing next finds rest e = finds refl
row_finds (ends reply) next finds rest e = cc
row_finds (goes value) next finds rest e = rest value e

items_find : (part : Part) (fault : Option LexError) (items : List Item) → FindsAll {A = List Item} (items_by part fault items)
items_find part None items e = cc
items_find part (Some fault) items e = cc

record_finds : {A : Type 0} (part : Part) (faults : List Wrong) (value : A) → FindsAll {A = A} (record_by part faults value)
record_finds part [] value e = cc
record_finds part (fault ∷ faults) value e = cc

domain_finds : (text : List ℕ) → FindsAll {A = Domain} (domain_step text)
unfolding domain_step items_step domain_in
domain_finds text =
    row_finds (items_by parts.Domain (fault_of text) (items_of text)) domain_in (items_find parts.Domain (fault_of text) (items_of text))
    (λ (items : List Item). let read = domain_of (trees_of items) in record_finds parts.Domain read.faults read.value)

problem_finds : (text : List ℕ) → FindsAll {A = Problem} (problem_step text)
unfolding problem_step items_step problem_in
problem_finds text =
    row_finds (items_by parts.Problem (fault_of text) (items_of text)) problem_in (items_find parts.Problem (fault_of text) (items_of text))
    (λ (items : List Item). let read = problem_of (trees_of items) in record_finds parts.Problem read.faults read.value)

steps_find : (read : Result (List PlanStep) PlanError) → FindsAll {A = List PlanStep} (steps_by read)
steps_find (Ok steps) e = cc
steps_find (Err error) e = cc

plan_finds : (text : List ℕ) → FindsAll {A = List PlanStep} (plan_step text)
unfolding plan_step
plan_finds text = steps_find (plan_of text)

cert_by_finds : (read : Result (List (List ℕ)) ℕ) → FindsAll {A = List (List ℕ)} (cert_by read)
cert_by_finds (Ok cert) e = cc
cert_by_finds (Err line) e = cc

cert_finds : (text : List ℕ) → FindsAll {A = List (List ℕ)} (cert_step text)
unfolding cert_step
cert_finds text = cert_by_finds (cert_of text)

names_find : (faults : List Fault) (value : Lifting) → FindsAll {A = Lifting} (lifted_by faults value)
names_find [] value e = cc
names_find (fault ∷ faults) value e = cc

lifted_finds : (domain : Domain) (problem : Problem) → FindsAll {A = Lifting} (lifted_step domain problem)
unfolding lifted_step
lifted_finds domain problem = let walk = lifting_of domain problem in names_find walk.faults walk.value

task_finds : (refusal : Option GroundError) (made : Grounded) → FindsAll {A = Grounded} (task_by refusal made)
task_finds None made e = cc
task_finds (Some error) made e = cc

after_lifting_finds : (watchers : Watching) (files : Contents) (command : Command) (lifted : Lifting) → FindsAll {A = Reply} (after_lifting watchers files command lifted)
unfolding grounded_step
after_lifting_finds watchers files command lifted =
    row_finds (grounded_step lifted) (λ (grounded : Grounded). goes (final watchers files command grounded))
    (task_finds (refusal_of lifted) (grounded_of lifted)) (λ (grounded : Grounded) e. cc)

after_texts_finds : (watchers : Watching) (files : Contents) (command : Command) (texts : Texts) → FindsAll {A = Reply} (after_texts watchers files command texts)
after_texts_finds watchers files command texts =
    row_finds (lifted_step texts.domain texts.problem) (after_lifting watchers files command) (lifted_finds texts.domain texts.problem)
    (after_lifting_finds watchers files command)

after_steps_finds : (texts : Texts) (steps : List PlanStep) → FindsAll {A = Reply} (after_steps texts steps)
after_steps_finds texts steps =
    row_finds (lifted_step texts.domain texts.problem) (λ (one : Lifting). judged one steps) (lifted_finds texts.domain texts.problem)
    (λ (one : Lifting) e. cc)

after_cert_finds : (texts : Texts) (cert : List (List ℕ)) → FindsAll {A = Reply} (after_cert texts cert)
unfolding grounded_step
after_cert_finds texts cert =
    row_finds (lifted_step texts.domain texts.problem) (λ (lifted : Lifting). grounded_step lifted >>= λ (grounded : Grounded). goes (audited_reply grounded cert))
    (lifted_finds texts.domain texts.problem)
    (λ (lifted : Lifting).
    row_finds (grounded_step lifted) (λ (grounded : Grounded). goes (audited_reply grounded cert)) (task_finds (refusal_of lifted) (grounded_of lifted))
    (λ (grounded : Grounded) e. cc))

made_finds : (number size : ℕ) → FindsAll {A = Texts} (made_step number size)
unfolding made_step
made_finds number size =
    row_finds (domain_step domain_text) (λ (one : Domain). problem_step (problem_text number size) >>= λ (two : Problem). both one two)
    (domain_finds domain_text)
    (λ (one : Domain).
    row_finds (problem_step (problem_text number size)) (λ (two : Problem). both one two) (problem_finds (problem_text number size))
    (λ (two : Problem) e. cc))

-- ---- from no answer to the file that is not there
by_length_finds : (part : Part) (bytes : List ℕ) (long : Bool)
    → FindsAll {A = List ℕ} (elim long [ true ↦ answered statuses.Limit (too_long_text part (limit_of part)) | false ↦ goes bytes ])
by_length_finds part bytes true e = cc
by_length_finds part bytes false e = cc

found_gone : (part : Part) (found : Option (List ℕ)) → within part found ≡ missing → found ≡ None
found_gone part None e = refl
found_gone part (Some bytes) e = absurd (by_length_finds part bytes (nat_lt (limit_of part) (length bytes)) e)

file_gone : (files : Contents) (command : Command) (part : Part) (name : List ℕ) → file_of command part ≡ Some name → IsReadBefore files command part
    → part_of part name files ≡ missing → HasNoFile files command
unfolding part_of
file_gone files command part name named before e =
    record { part = part; name = name; named = named; before = before; gone = found_gone part (get files name) e }

problem_gone : (files : Contents) (command : Command) (domain problem : List ℕ) → Reads command domain problem → (one : Domain)
    → (part_of parts.Domain domain files >>= domain_step) ≡ goes one → from_problem problem files one ≡ missing → HasNoFile files command
problem_gone files command domain problem reads one read e =
    let before : IsReadBefore files command parts.Problem = (domain, one, reads.is_domain, read) in
    elim (misses (part_of parts.Problem problem files) (λ (text : List ℕ). problem_step text >>= λ (two : Problem). both one two) e) [
      | inl first ↦ file_gone files command parts.Problem problem reads.is_problem before first
      | inr text ↦
          absurd (row_finds (problem_step text.0) (λ (two : Problem). both one two) (problem_finds text.0) (λ (two : Problem) e. cc) text.2)
    ]

texts_gone : (files : Contents) (command : Command) (domain problem : List ℕ) → Reads command domain problem
    → texts_step domain problem files ≡ missing → HasNoFile files command
unfolding texts_step
texts_gone files command domain problem reads e =
    elim (misses (part_of parts.Domain domain files) (λ (text : List ℕ). domain_step text >>= λ (one : Domain). from_problem problem files one) e) [
      | inl first ↦ file_gone files command parts.Domain domain reads.is_domain tt first
      | inr text ↦ elim (misses (domain_step text.0) (λ (one : Domain). from_problem problem files one) text.2) [
        | inl first ↦ absurd (domain_finds text.0 first)
        | inr one ↦
            problem_gone files command domain problem reads one.0 (ap (λ (step : Step (List ℕ)). step >>= domain_step) text.1 ∙ one.1) one.2
      ]
    ]

command_gone : (files : Contents) (command : Command) → texts_of command files ≡ missing → HasNoFile files command
command_gone files (Check domain problem plan) e = texts_gone files _ domain problem (reads_check domain problem plan) e
command_gone files (Ground domain problem) e = texts_gone files _ domain problem (reads_ground domain problem) e
command_gone files (Plan domain problem settings watch plain closed) e =
    texts_gone files _ domain problem (reads_plan domain problem settings watch plain closed) e
command_gone files (Gen number size settings watch plain) e = absurd (made_finds number size e)
command_gone files (Audit domain problem certificate) e = texts_gone files _ domain problem (reads_audit domain problem certificate) e

plan_gone : (files : Contents) (domain problem plan : List ℕ) (texts : Texts) → texts_step domain problem files ≡ goes texts
    → ((part_of parts.Plan plan files >>= plan_step) >>= after_steps texts) ≡ missing → HasNoFile files (Check domain problem plan)
plan_gone files domain problem plan texts read e =
    elim (misses (part_of parts.Plan plan files >>= plan_step) (after_steps texts) e) [
      | inl first ↦ elim (misses (part_of parts.Plan plan files) plan_step first) [
        | inl gone ↦ file_gone files (Check domain problem plan) parts.Plan plan refl (texts, read) gone
        | inr text ↦ absurd (plan_finds text.0 text.2)
      ]
      | inr steps ↦ absurd (after_steps_finds texts steps.0 steps.2)
    ]

cert_gone : (files : Contents) (domain problem certificate : List ℕ) (texts : Texts) → texts_step domain problem files ≡ goes texts
    → (cert_in certificate files >>= after_cert texts) ≡ missing → HasNoFile files (Audit domain problem certificate)
cert_gone files domain problem certificate texts read e =
    elim (misses (cert_in certificate files) (after_cert texts) e) [
      | inl first ↦ elim (misses (part_of parts.Certificate certificate files) cert_step first) [
        | inl gone ↦ file_gone files (Audit domain problem certificate) parts.Certificate certificate refl (texts, read) gone
        | inr text ↦ absurd (cert_finds text.0 text.2)
      ]
      | inr cert ↦ absurd (after_cert_finds texts cert.0 cert.2)
    ]

behind_gone : (files : Contents) (command : Command) (watchers : Watching) (texts : Texts) → texts_of command files ≡ goes texts
    → behind watchers command files texts ≡ missing → HasNoFile files command
behind_gone files (Check domain problem plan) watchers texts read e = plan_gone files domain problem plan texts read e
behind_gone files (Ground domain problem) watchers texts read e = absurd (after_texts_finds watchers files (Ground domain problem) texts e)
behind_gone files (Plan domain problem settings watch plain closed) watchers texts read e =
    absurd (after_texts_finds watchers files (Plan domain problem settings watch plain closed) texts e)
behind_gone files (Gen number size settings watch plain) watchers texts read e =
    absurd (after_texts_finds watchers files (Gen number size settings watch plain) texts e)
behind_gone files (Audit domain problem certificate) watchers texts read e = cert_gone files domain problem certificate texts read e

row_gone : (files : Contents) (command : Command) (watchers : Watching) → (texts_of command files >>= behind watchers command files) ≡ missing
    → HasNoFile files command
row_gone files command watchers e =
    elim (misses (texts_of command files) (behind watchers command files) e) [
      | inl first ↦ command_gone files command first
      | inr texts ↦ behind_gone files command watchers texts.0 texts.1 texts.2
    ]

-- ---- from the file that is not there to no answer
gone_missing : (files : Contents) (part : Part) (name : List ℕ) → get files name ≡ None → part_of part name files ≡ missing
unfolding part_of
gone_missing files part name gone = ap (within part) gone

-- of a plan file
plan_misses : (files : Contents) (command : Command) (watchers : Watching) (name : List ℕ) → file_of command parts.Plan ≡ Some name
    → IsReadBefore files command parts.Plan → get files name ≡ None → (texts_of command files >>= behind watchers command files) ≡ missing
plan_misses files (Check domain problem plan) watchers name named before gone =
    let same : plan ≡ name = cc in
    let first = gone_missing files parts.Plan plan (ap (get files) same ∙ gone) in
    ap (λ (step : Step Texts). step >>= behind watchers (Check domain problem plan) files) before.1
    ∙ ap (λ (step : Step (List ℕ)). (step >>= plan_step) >>= after_steps before.0) first
plan_misses files (Ground domain problem) watchers name named before gone = cc
plan_misses files (Plan domain problem settings watch plain closed) watchers name named before gone = cc
plan_misses files (Gen number size settings watch plain) watchers name named before gone = cc
plan_misses files (Audit domain problem certificate) watchers name named before gone = cc

-- of a certificate
cert_misses : (files : Contents) (command : Command) (watchers : Watching) (name : List ℕ) → file_of command parts.Certificate ≡ Some name
    → IsReadBefore files command parts.Certificate → get files name ≡ None → (texts_of command files >>= behind watchers command files) ≡ missing
cert_misses files (Check domain problem plan) watchers name named before gone = cc
cert_misses files (Ground domain problem) watchers name named before gone = cc
cert_misses files (Plan domain problem settings watch plain closed) watchers name named before gone = cc
cert_misses files (Gen number size settings watch plain) watchers name named before gone = cc
cert_misses files (Audit domain problem certificate) watchers name named before gone =
    let same : certificate ≡ name = cc in
    let first = gone_missing files parts.Certificate certificate (ap (get files) same ∙ gone) in
    ap (λ (step : Step Texts). step >>= behind watchers (Audit domain problem certificate) files) before.1
    ∙ ap (λ (step : Step (List ℕ)). (step >>= cert_step) >>= after_cert before.0) first

-- the row of a command misses a file where its first does that cannot be read
row_misses : (files : Contents) (command : Command) (watchers : Watching) → reads_files command ≡ true → (part : Part) (name : List ℕ)
    → file_of command part ≡ Some name → IsReadBefore files command part → get files name ≡ None
    → (texts_of command files >>= behind watchers command files) ≡ missing
unfolding texts_step
row_misses files command watchers reads parts.Domain name named before gone =
    let own = reading command reads in
    let same = same_name own.0 name (file_of command parts.Domain) own.2.is_domain named in
    let first = gone_missing files parts.Domain own.0 (ap (get files) same ∙ gone) in
    ap (λ (step : Step Texts). step >>= behind watchers command files)
    (own.2.texts files ∙ ap (λ (step : Step (List ℕ)). step >>= λ (text : List ℕ). domain_step text >>= λ (one : Domain). from_problem own.1 files one) first)
row_misses files command watchers reads parts.Problem name named before gone =
    let own = reading command reads in
    let same = same_name own.1 name (file_of command parts.Problem) own.2.is_problem named in
    let domain = same_name before.0 own.0 (file_of command parts.Domain) before.2 own.2.is_domain in
    let first = gone_missing files parts.Problem own.1 (ap (get files) same ∙ gone) in
    ap (λ (step : Step Texts). step >>= behind watchers command files)
    (own.2.texts files
    ∙ goes_longer (part_of parts.Domain own.0 files) domain_step (λ (one : Domain). from_problem own.1 files one) before.1
    (subst (λ (one : List ℕ). (part_of parts.Domain one files >>= domain_step) ≡ goes before.1) domain before.3)
    ∙ ap (λ (step : Step (List ℕ)). step >>= λ (text : List ℕ). problem_step text >>= λ (two : Problem). both before.1 two) first)
row_misses files command watchers reads parts.Plan name named before gone = plan_misses files command watchers name named before gone
row_misses files command watchers reads parts.Certificate name named before gone = cert_misses files command watchers name named before gone

-- ---- the law
no_reply : (step : Step Reply) → reply_of step ≡ None → step ≡ missing
no_reply missing e = refl
no_reply (ends reply) e = cc
no_reply (goes reply) e = cc

answer_row : (asked : Asked) (files : Contents) (command : Command) → command_of asked.words ≡ Some command
    → answer_sought asked files ≡ (texts_of command files >>= behind (kept_of command asked.watchers) command files)
answer_row asked files command named = steps_commanded asked command files named ∙ run_row command (kept_of command asked.watchers) files

pub no_answers : MissingFilesHaveNoAnswer
no_answers asked files command named = (
  λ none. row_gone files command (kept_of command asked.watchers) (sym (answer_row asked files command named) ∙ no_reply (answer_sought asked files) none),
  λ has. ap reply_of
      (answer_row asked files command named
      ∙ row_misses files command (kept_of command asked.watchers) (named_reads command has.part has.name has.named) has.part has.name has.named has.before has.gone),
)
