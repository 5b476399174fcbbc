-- What the code of reading a text meets.
use Rattle.std.proofs.Common.{◌≡◌, ◌≢◌, ℕ, List, [], ◌∷◌, refl, sym, ap, ◌∙◌, subst, Ok, Err}
use Rattle.std.specs.Prelude.{Option, None, Some, Result}
use Rattle.wp_lex.specs.declared.item.Item.{Item}
use Rattle.wp_lex.specs.declared.error.LexError.{LexError}
use Rattle.wp_lex.specs.declared.error.LexError.TheVariants as lexical
use Rattle.wp_lex.specs.Faults.{Explains}
use Rattle.wp_syntax.specs.declared.error.Part.{Part}
use Rattle.wp_syntax.specs.declared.error.PddlError.{PddlError}
use Rattle.wp_syntax.specs.declared.error.PddlError.TheVariants as errors
use Rattle.wp_syntax.specs.Reading.{Wrong, IsRefusal, refusal_at}
use Rattle.wp_lift.specs.Problem.{Lifting}
use Rattle.wp_lift.specs.Walk as walks
use Rattle.wp_lift.specs.declared.fault.Fault.{Fault}
use Rattle.wp_check.specs.declared.step.Step.{Step as PlanStep}
use Rattle.wp_check.specs.declared.step.PlanError.{PlanError}
use Rattle.wp_check.specs.declared.step.PlanError.TheVariants as plans
use Rattle.wp_check.specs.PlanFile as plan_files
use Rattle.wp_cert.specs.declared.errors.CertError.{CertError}
use Rattle.wp_cert.specs.declared.errors.CertError.TheVariants as certs
use Rattle.wp_cert.specs.Format as certificates
use Rattle.wp_cert.specs.Texts.{cert_error_text}
use Rattle.wp_report.specs.Refusals.{lex_text, pddl_text, plan_error_text}
use Rattle.wp_app.specs.Steps.{Step, goes}
use Rattle.wp_app.specs.Stops.{Meets}
use Rattle.wp_app.specs.Output.{cert_by, items_by, record_by, steps_by, lifted_by, refused}
use Rattle.wp_app.specs.declared.stop.Stop.{Stop}
use Rattle.wp_app.specs.declared.stop.Stop.TheVariants as stops

pub meets_memory : {A : Type 0} (step : Step A) → Meets {A = A} step (Err stops.Memory)
meets_memory step = record { defined = tt; gives = tt; read = λ h. h }

pub meets_items : (part : Part) (fault : Option LexError) (items tree : List Item) → fault ≡ None → tree ≡ items → Meets {A = List Item} (items_by part fault items) (Ok tree)
meets_items part fault items tree none same =
    subst (λ (f : Option LexError). Meets {A = List Item} (items_by part f items) (Ok tree)) (sym none)
    (record { defined = tt; gives = ap goes (sym same); read = λ h. h })

-- a step that ends with the line of a fault, and the code that made the line
pub meets_refused : {A : Type 0} (step : Step A) (text line : List ℕ) (result : Result A Stop) → step ≡ refused text → line ≡ text → Meets {A = A} (refused line) result → Meets {A = A} step result
meets_refused {A} step text line result ends same meets =
    subst (λ (s : Step A). Meets s result) (sym (ends ∙ ap refused (sym same))) meets

-- an error other than want of memory is the fault
explained : (error : LexError) (fault : Option LexError) → Explains error fault → error ≢ lexical.Memory → fault ≡ Some error
explained (lexical.BadByte at) fault h is = h
explained (lexical.Unopened at) fault h is = h
explained lexical.Unclosed fault h is = h
explained (lexical.Trailing at) fault h is = h
explained (lexical.TooDeep at) fault h is = h
explained lexical.Empty fault h is = h
explained lexical.Memory fault h is = absurd (is refl)

pub refused_items : (part : Part) (error : LexError) (fault : Option LexError) (items : List Item) → Explains error fault → error ≢ lexical.Memory → items_by part fault items ≡ refused (lex_text part error)
refused_items part error fault items h is = ap (λ (f : Option LexError). items_by part f items) (explained error fault h is)

-- the first fault of a list is the one that is told
refused_first : {A : Type 0} (part : Part) (fault wrong : Wrong) (faults : List Wrong) (value : A) → Some fault ≡ Some wrong → record_by part (fault ∷ faults) value ≡ refused (pddl_text (refusal_at part wrong))
refused_first part fault wrong faults value e =
    let p : fault ≡ wrong = cc in
    λ i. refused (pddl_text (refusal_at part (p i)))

pub refused_record : {A : Type 0} (part : Part) (error : PddlError) (faults : List Wrong) (value : A) → IsRefusal part faults error → error ≢ errors.Memory → record_by part faults value ≡ refused (pddl_text error)
refused_record part errors.Memory faults value h is = absurd (is refl)
refused_record part (errors.Bad told kind at) [] value (wrong, e, same) is = cc
refused_record part (errors.Bad told kind at) (fault ∷ faults) value (wrong, e, same) is =
    refused_first part fault wrong faults value e ∙ ap (λ error. refused (pddl_text error)) (sym same)

refused_fault : (fault wrong : Fault) (faults : List Fault) (value : Lifting) → Some fault ≡ Some wrong → lifted_by (fault ∷ faults) value ≡ refused (pddl_text (errors.Bad wrong.part wrong.kind wrong.at))
refused_fault fault wrong faults value e =
    let p : fault ≡ wrong = cc in
    ap (λ (f : Fault). lifted_by (f ∷ faults) value) p

pub refused_lifting : (error : PddlError) (faults : List Fault) (value : Lifting) → walks.Fails error faults → error ≢ errors.Memory → lifted_by faults value ≡ refused (pddl_text error)
refused_lifting errors.Memory faults value h is = absurd (is refl)
refused_lifting (errors.Bad part kind at) [] value h is = cc
refused_lifting (errors.Bad part kind at) (fault ∷ faults) value h is = refused_fault fault (record { part = part; kind = kind; at = at }) faults value h

-- an error other than want of memory is what reading a plan file gives
pub refused_steps : (error : PlanError) (plan : Result (List PlanStep) PlanError) → plan_files.Fails error plan → error ≢ plans.Memory → steps_by plan ≡ refused (plan_error_text error)
refused_steps (plans.Lex fault) plan h is = ap steps_by h
refused_steps (plans.Shape at) plan h is = ap steps_by h
refused_steps plans.Memory plan h is = absurd (is refl)

-- and so of a certificate
pub refused_cert : (error : CertError) (read : Result (List (List ℕ)) ℕ) → certificates.Fails error read → error ≢ certs.Memory
    → cert_by read ≡ refused (cert_error_text error)
refused_cert (certs.Line line) read h is = ap cert_by h
refused_cert certs.Memory read h is = absurd (is refl)
