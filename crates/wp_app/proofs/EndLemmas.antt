-- With which statuses the steps of reading and lifting may end: with those of a file that is too long and of a fault alone.
use Rattle.std.proofs.Common.{◌≡◌, ℕ, Bool, true, false, List, [], ◌∷◌, length, refl, subst}
use Rattle.std.specs.Prelude.{nat_lt, Option, None, Some}
use Rattle.std.specs.FinMap.{get}
use Rattle.wp_edge.specs.Fetch.{Contents}
use Rattle.wp_lex.specs.declared.error.LexError.{LexError}
use Rattle.wp_lex.specs.declared.item.Item.{Item}
use Rattle.wp_lex.specs.Trees.{trees_of}
use Rattle.wp_lex.specs.Faults.{fault_of}
use Rattle.wp_lex.specs.Items.{items_of}
use Rattle.wp_syntax.specs.declared.error.Part.{Part}
use Rattle.wp_syntax.specs.declared.error.Part.TheVariants as parts
use Rattle.wp_syntax.specs.declared.records.Domain.{Domain}
use Rattle.wp_syntax.specs.declared.records.Problem.{Problem}
use Rattle.wp_syntax.specs.Reading.{Wrong}
use Rattle.wp_syntax.specs.Domains.{domain_of}
use Rattle.wp_syntax.specs.Problems.{problem_of}
use Rattle.wp_lift.specs.Problem.{Lifting}
use Rattle.wp_lift.specs.declared.fault.Fault.{Fault}
use Rattle.wp_lift.specs.Lifting.{lifting_of}
use Rattle.wp_report.specs.Inputs.{too_long_text}
use Rattle.wp_app.specs.declared.reply.Reply.{Reply}
use Rattle.wp_app.specs.declared.reply.Status.{Status}
use Rattle.wp_app.specs.declared.reply.Status.TheVariants as statuses
use Rattle.wp_app.specs.declared.inputs.Texts.{Texts}
use Rattle.wp_app.specs.Steps.{Step, missing, ends, goes, reply_of, ◌>>=◌}
use Rattle.wp_app.specs.Output.{limit_of, answered, within, part_of, items_by, items_step, record_by, domain_in, problem_in, domain_step, problem_step, lifted_by, lifted_step, plan_step, steps_by, cert_by, cert_step}
use Rattle.wp_app.specs.Table.{made_step, texts_step}
use Rattle.wp_app.proofs.ChainLemmas.{both, from_problem}
use Rattle.std.specs.Prelude.{Result, Ok, Err}
use Rattle.wp_check.specs.declared.step.Step.{Step as PlanStep}
use Rattle.wp_check.specs.declared.step.PlanError.{PlanError}
use Rattle.wp_check.specs.PlanFile.{plan_of}
use Rattle.wp_cert.specs.Format.{cert_of}
use Rattle.wp_gen.specs.Depot.{domain_text, problem_text}

-- where the step ends, its status is one of these
abbrev pub EndsIn : {A : Type 0} → (Status → Type 0) → Step A → Type 0
EndsIn P missing = Unit {0}
EndsIn P (ends reply) = P reply.status
EndsIn P (goes value) = Unit {0}

-- the status of a file that is too long, and that of a fault of a text, are among these
pub record AllowsRefusals (P : Status → Type 0) : Type 0 where
  pub limit : P statuses.Limit
  pub fault : P statuses.Refused

-- an answer whose status is none of those with which the step ends is that of what follows
pub goes_past : {A : Type 0} (P : Status → Type 0) (step : Step A) (next : A → Step Reply) (reply : Reply) → EndsIn P step
    → reply_of (step >>= next) ≡ Some reply → (P reply.status → ⊥)
    → (value : A) × (step ≡ goes value) × (reply_of (next value) ≡ Some reply)
goes_past P missing next reply in_these e other = cc
goes_past P (ends ended) next reply in_these e other =
    let same : ended ≡ reply = cc in
    absurd (other (subst (λ (one : Reply). P one.status) same in_these))
goes_past P (goes value) next reply in_these e other = (value, refl, e)

pub ends_in_row : {A B : Type 0} (P : Status → Type 0) (step : Step A) (next : A → Step B) → EndsIn P step
    → ((value : A) → EndsIn P (next value)) → EndsIn P (step >>= next)
ends_in_row P missing next first rest = tt
ends_in_row P (ends reply) next first rest = first
ends_in_row P (goes value) next first rest = rest value

-- ---- texts
by_length : (P : Status → Type 0) → AllowsRefusals P → (long : Bool) (text bytes : List ℕ)
    → EndsIn {A = List ℕ} P (elim long [ true ↦ answered statuses.Limit text | false ↦ goes bytes ])
by_length P early true text bytes = early.limit
by_length P early false text bytes = tt

fetched : (P : Status → Type 0) → AllowsRefusals P → (part : Part) (found : Option (List ℕ)) → EndsIn {A = List ℕ} P (within part found)
fetched P early part None = tt
fetched P early part (Some bytes) =
    by_length P early (nat_lt (limit_of part) (length bytes)) (too_long_text part (limit_of part)) bytes

part_ends : (P : Status → Type 0) → AllowsRefusals P → (part : Part) (name : List ℕ) (files : Contents)
    → EndsIn {A = List ℕ} P (part_of part name files)
unfolding part_of
part_ends P early part name files = fetched P early part (get files name)

items_ends : (P : Status → Type 0) → AllowsRefusals P → (part : Part) (fault : Option LexError) (items : List Item)
    → EndsIn {A = List Item} P (items_by part fault items)
items_ends P early part None items = tt
items_ends P early part (Some fault) items = early.fault

record_ends : {A : Type 0} (P : Status → Type 0) → AllowsRefusals P → (part : Part) (faults : List Wrong) (value : A)
    → EndsIn {A = A} P (record_by part faults value)
record_ends P early part [] value = tt
record_ends P early part (fault ∷ faults) value = early.fault

domain_ends : (P : Status → Type 0) → AllowsRefusals P → (text : List ℕ) → EndsIn {A = Domain} P (domain_step text)
unfolding domain_step items_step domain_in
domain_ends P early text =
    ends_in_row P (items_by parts.Domain (fault_of text) (items_of text)) domain_in
    (items_ends P early parts.Domain (fault_of text) (items_of text))
    (λ (items : List Item). let read = domain_of (trees_of items) in record_ends P early parts.Domain read.faults read.value)

problem_ends : (P : Status → Type 0) → AllowsRefusals P → (text : List ℕ) → EndsIn {A = Problem} P (problem_step text)
unfolding problem_step items_step problem_in
problem_ends P early text =
    ends_in_row P (items_by parts.Problem (fault_of text) (items_of text)) problem_in
    (items_ends P early parts.Problem (fault_of text) (items_of text))
    (λ (items : List Item). let read = problem_of (trees_of items) in record_ends P early parts.Problem read.faults read.value)

pub texts_ends : (P : Status → Type 0) → AllowsRefusals P → (domain problem : List ℕ) (files : Contents)
    → EndsIn {A = Texts} P (texts_step domain problem files)
unfolding texts_step
texts_ends P early domain problem files =
    ends_in_row P (part_of parts.Domain domain files)
    (λ (text : List ℕ). domain_step text >>= λ (one : Domain). from_problem problem files one)
    (part_ends P early parts.Domain domain files)
    (λ (text : List ℕ).
    ends_in_row P (domain_step text) (λ (one : Domain). from_problem problem files one) (domain_ends P early text)
    (λ (one : Domain).
    ends_in_row P (part_of parts.Problem problem files)
    (λ (text : List ℕ). problem_step text >>= λ (two : Problem). both one two)
    (part_ends P early parts.Problem problem files)
    (λ (text : List ℕ).
    ends_in_row P (problem_step text) (λ (two : Problem). both one two) (problem_ends P early text)
    (λ (two : Problem). tt))))

pub made_ends : (P : Status → Type 0) → AllowsRefusals P → (number size : ℕ) → EndsIn {A = Texts} P (made_step number size)
unfolding made_step
made_ends P early number size =
    ends_in_row P (domain_step domain_text) (λ (one : Domain). problem_step (problem_text number size) >>= λ (two : Problem). both one two)
    (domain_ends P early domain_text)
    (λ (one : Domain).
    ends_in_row P (problem_step (problem_text number size)) (λ (two : Problem). both one two) (problem_ends P early (problem_text number size))
    (λ (two : Problem). tt))

plan_by_ends : (P : Status → Type 0) → AllowsRefusals P → (read : Result (List PlanStep) PlanError) → EndsIn {A = List PlanStep} P (steps_by read)
plan_by_ends P early (Ok steps) = tt
plan_by_ends P early (Err error) = early.fault

-- of a plan file
pub steps_end : (P : Status → Type 0) → AllowsRefusals P → (plan : List ℕ) (files : Contents)
    → EndsIn {A = List PlanStep} P (part_of parts.Plan plan files >>= plan_step)
unfolding plan_step
steps_end P early plan files =
    ends_in_row P (part_of parts.Plan plan files) (λ (text : List ℕ). steps_by (plan_of text)) (part_ends P early parts.Plan plan files)
    (λ (text : List ℕ). plan_by_ends P early (plan_of text))

cert_by_ends : (P : Status → Type 0) → AllowsRefusals P → (read : Result (List (List ℕ)) ℕ) → EndsIn {A = List (List ℕ)} P (cert_by read)
cert_by_ends P early (Ok cert) = tt
cert_by_ends P early (Err line) = early.fault

-- of a certificate
pub cert_ends : (P : Status → Type 0) → AllowsRefusals P → (certificate : List ℕ) (files : Contents)
    → EndsIn {A = List (List ℕ)} P (part_of parts.Certificate certificate files >>= cert_step)
unfolding cert_step
cert_ends P early certificate files =
    ends_in_row P (part_of parts.Certificate certificate files) (λ (text : List ℕ). cert_by (cert_of text)) (part_ends P early parts.Certificate certificate files)
    (λ (text : List ℕ). cert_by_ends P early (cert_of text))

-- ---- names and the task
names_ends : (P : Status → Type 0) → AllowsRefusals P → (faults : List Fault) (value : Lifting)
    → EndsIn {A = Lifting} P (lifted_by faults value)
names_ends P early [] value = tt
names_ends P early (fault ∷ faults) value = early.fault

pub lifted_ends : (P : Status → Type 0) → AllowsRefusals P → (domain : Domain) (problem : Problem)
    → EndsIn {A = Lifting} P (lifted_step domain problem)
unfolding lifted_step
lifted_ends P early domain problem = let walk = lifting_of domain problem in names_ends P early walk.faults walk.value
