-- Answers computed from the words of a line and the bytes of files.
use Rattle.std.specs.Prelude.{◌≡◌, ◌==◌, ℕ, List, [], ◌∷◌, ◌++◌, map, codes, refl, Option, None, Some}
use Rattle.std.proofs.Common.{◌∙◌}
use Rattle.std.specs.Fmt.{digits}
use Rattle.std.specs.FinMap.{get, get-from_entries}
use Rattle.std.specs.List.{slice_split}
use Rattle.std.proofs.lemmas.Cmp.{nat_list_cmp_total}
use Rattle.clap.proofs.OnLiterals.{clap_on_literals}
use Rattle.wp_edge.specs.Folder.{contents_of, found, named}
use Rattle.wp_edge.specs.declared.files.File.{File}
use Rattle.wp_syntax.specs.declared.error.Part.TheVariants as parts
use Rattle.wp_words.specs.CommandLines.{check_line, entries_of, gen_line, ground_line, plan_line}
use Rattle.wp_words.specs.Options.{options_in}
use Rattle.wp_syntax.specs.declared.records.Domain.{Domain}
use Rattle.wp_syntax.specs.declared.records.Problem.{Problem}
use Rattle.wp_lift.specs.Problem.{Lifting}
use Rattle.wp_check.specs.declared.step.Step.{Step as PlanStep}
use Rattle.wp_ground.specs.declared.grounding.Grounded.{Grounded}
use Rattle.wp_lift.specs.Lifting.{lifting_of, schema_of, cond_of, effect_of, atom_of, slot_of, objects_of, object_of, ground_atom_of, stated_after}
use Rattle.wp_lift.specs.Typing.{types_of, subtypes_of}
use Rattle.wp_check.specs.PlanFile.{plan_of}
use Rattle.wp_check.specs.Verdicts.{verdict_of}
use Rattle.wp_report.specs.Refusals.{lexical_text, kind_text, limit_text, fault_text, refusal_text}
use Rattle.wp_report.specs.Tasks.{ground_text, atom_line, act_line, ground_error_text}
use Rattle.wp_report.specs.Verdicts.{verdict_text, why_text}
use Rattle.wp_app.specs.declared.inputs.Texts.{Texts}
use Rattle.wp_app.specs.declared.reply.Reply.{Reply}
use Rattle.wp_app.specs.declared.reply.Status.{Status}
use Rattle.wp_app.specs.declared.reply.Status.TheVariants as statuses
use Rattle.wp_app.specs.Requests.{Asked}
use Rattle.wp_app.specs.Steps.{Step, goes, reply_of, ◌>>=◌}
use Rattle.wp_app.specs.Output.{domain_in, domain_step, ground_reply, grounded_step, items_step, lifted_step, part_of, plan_step, problem_in, problem_step, request_step, verdict_reply, within}
use Rattle.wp_app.specs.Table.{answer_of, answer_sought, answer_to_check, answer_to_ground, answer_to_request, texts_step}

-- what a map of files gives for a name is the first file of the name
there : (files : List File) (name : List ℕ) → get (contents_of files) name ≡ found files name
unfolding found contents_of
there files name = get-from_entries nat_list_cmp_total (map named files) name

-- the words between the spaces of a line, without watchers
abbrev asked : List ℕ → Asked
asked line = record { words = slice_split (λ byte. byte == 32) line; watchers = [] }

abbrev says : Status → List ℕ → Option Reply
says status text = Some (record { text = text; status = status })

-- the answers by what is there of each file
abbrev texts_found : Option (List ℕ) → Option (List ℕ) → Step Texts
texts_found domain problem =
    within parts.Domain domain >>= λ (text : List ℕ). domain_step text >>= λ (one : Domain).
    within parts.Problem problem >>= λ (text : List ℕ). problem_step text
    >>= λ (two : Problem). goes (record { domain = one; problem = two })

abbrev check_found : Option (List ℕ) → Option (List ℕ) → Option (List ℕ) → Option Reply
check_found domain problem plan =
    reply_of (texts_found domain problem >>= λ (texts : Texts).
    (within parts.Plan plan >>= λ (text : List ℕ). plan_step text) >>= λ (steps : List PlanStep).
    lifted_step texts.domain texts.problem >>= λ (lifted : Lifting). goes (verdict_reply lifted steps))

abbrev ground_found : Option (List ℕ) → Option (List ℕ) → Option Reply
ground_found domain problem =
    reply_of (texts_found domain problem >>= λ (texts : Texts).
    lifted_step texts.domain texts.problem >>= λ (lifted : Lifting). grounded_step lifted
    >>= λ (grounded : Grounded). goes (ground_reply grounded))

abbrev d : List ℕ
d = codes "d"

abbrev p : List ℕ
p = codes "p"

abbrev q : List ℕ
q = codes "q"

check_answered : (files : List File) → answer_of (asked (codes "check d p q")) (contents_of files) ≡ check_found (found files d) (found files p) (found files q)
unfolding clap_on_literals plan_line check_line ground_line gen_line entries_of options_in request_step answer_sought answer_to_request answer_to_check texts_step part_of
check_answered files = λ i. check_found (there files d i) (there files p i) (there files q i)

ground_answered : (files : List File) → answer_of (asked (codes "ground d p")) (contents_of files) ≡ ground_found (found files d) (found files p)
unfolding clap_on_literals plan_line check_line ground_line gen_line entries_of options_in request_step answer_sought answer_to_request answer_to_ground texts_step part_of
ground_answered files = λ i. ground_found (there files d i) (there files p i)

-- ---- rows
abbrev file : List ℕ → List ℕ → File
file name bytes = record { name = name; bytes = bytes }

abbrev domain : File
domain = file d (codes "(define (domain d) (:predicates (a) (b)) (:action s :effect (b)))")

abbrev goal : List ℕ → File
goal atom = file p (codes "(define (problem p) (:init) (:goal " ++ atom ++ codes "))")

-- files in their order, and the answer
abbrev Row : Type 0
Row = List File × Option Reply

abbrev refuses : List ℕ → Option Reply
refuses text = says statuses.Refused (codes "; refused: " ++ text ++ 10 ∷ [])

-- a file that is not there has no answer; the first fault in the order domain, problem, plan, names is answered
abbrev checks : List Row
checks =
    (domain ∷ goal (codes "(b)") ∷ file q (codes "(s)") ∷ file q (codes "(s") ∷ [], says statuses.Done (codes "; valid steps 1\n"))
    ∷ (goal (codes "(b)") ∷ file q (codes "(s)") ∷ [], None)
    ∷ (domain ∷ goal (codes "(b)") ∷ [], None)
    ∷ (file d (codes "(define") ∷ [], refuses (codes "domain: unclosed"))
    ∷ (domain ∷ file p (codes "()") ∷ [], refuses (codes "problem: shape at 0"))
    ∷ (domain ∷ goal (codes "(f)") ∷ file q (codes "(s") ∷ [], refuses (codes "plan: unclosed"))
    ∷ (domain ∷ goal (codes "(f)") ∷ file q (codes "(s)") ∷ [], refuses (codes "problem: unknown predicate at 36"))
    ∷ []

checks_found : map (λ (row : Row). check_found (found row.0 d) (found row.0 p) (found row.0 q)) checks ≡ map (λ (row : Row). row.1) checks
unfolding found domain_step problem_step items_step domain_in problem_in plan_step lifted_step verdict_reply lifting_of schema_of cond_of effect_of atom_of slot_of objects_of object_of ground_atom_of stated_after types_of subtypes_of plan_of verdict_of verdict_text why_text refusal_text fault_text kind_text limit_text lexical_text digits
checks_found = refl

checks_answered : map (λ (row : Row). answer_of (asked (codes "check d p q")) (contents_of row.0)) checks ≡ map (λ (row : Row). row.1) checks
checks_answered = (λ i. map (λ (row : Row). check_answered row.0 i) checks) ∙ checks_found

abbrev tasks : List Row
tasks =
    (domain ∷ goal (codes "(b)") ∷ [], says statuses.Done (codes "atoms 1\nacts 1\natom 0 (b)\nact 0 (s) pre add 0 del\ninit\ngoal 0\n"))
    ∷ (domain ∷ goal (codes "(a)") ∷ [], says statuses.OutOfReach (codes "; goal out of reach (a)\n"))
    ∷ (domain ∷ [], None)
    ∷ []

tasks_found : map (λ (row : Row). ground_found (found row.0 d) (found row.0 p)) tasks ≡ map (λ (row : Row). row.1) tasks
unfolding found domain_step problem_step items_step domain_in problem_in lifted_step grounded_step ground_reply lifting_of schema_of cond_of effect_of atom_of slot_of objects_of object_of ground_atom_of stated_after types_of subtypes_of ground_text atom_line act_line ground_error_text refusal_text fault_text kind_text limit_text lexical_text digits
tasks_found = refl

tasks_answered : map (λ (row : Row). answer_of (asked (codes "ground d p")) (contents_of row.0)) tasks ≡ map (λ (row : Row). row.1) tasks
tasks_answered = (λ i. map (λ (row : Row). ground_answered row.0 i) tasks) ∙ tasks_found
