-- The answers to `check` on small texts, computed from their bytes.
use Rattle.std.specs.Prelude.{◌≡◌, ℕ, List, [], ◌∷◌, ◌++◌, map, codes, refl}
use Rattle.std.specs.Fmt.{digits}
use Rattle.wp_app.specs.declared.reply.Reply.{Reply}
use Rattle.wp_app.specs.declared.reply.Status.{Status}
use Rattle.wp_app.specs.declared.reply.Status.TheVariants.{Done, InvalidPlan, Refused}
use Rattle.wp_app.specs.Steps.{Step, ends, goes, ◌>>=◌}
use Rattle.wp_app.specs.Output.{domain_step, problem_step, items_step, domain_in, problem_in, plan_step, lifted_step, verdict_reply}
use Rattle.wp_lift.specs.Lifting.{lifting_of, schema_of, cond_of, effect_of, atom_of, slot_of, objects_of, object_of, ground_atom_of, stated_after}
use Rattle.wp_lift.specs.Typing.{types_of, subtypes_of}
use Rattle.wp_check.specs.PlanFile.{plan_of}
use Rattle.wp_check.specs.Verdicts.{verdict_of}
use Rattle.wp_report.specs.Refusals.{lexical_text, kind_text, limit_text, fault_text, refusal_text}
use Rattle.wp_report.specs.Verdicts.{verdict_text, why_text}

unfoldable checked : List ℕ → List ℕ → List ℕ → Step Reply
checked domain problem plan = do
  domain ← domain_step domain
  problem ← problem_step problem
  steps ← plan_step plan
  lifted ← lifted_step domain problem
  goes (verdict_reply lifted steps)

abbrev says : Status → List ℕ → Step Reply
says status text = goes (record { text = text ++ 10 ∷ []; status = status })

abbrev refuses : List ℕ → Step Reply
refuses text = ends (record { text = text ++ 10 ∷ []; status = Refused })

abbrev chain : List ℕ
chain = codes "(define (domain chain) (:predicates (a) (b) (c))\n (:action s1 :precondition (a) :effect (b))\n (:action s2 :precondition (b) :effect (and (not (a)) (c))))"

abbrev problem : List ℕ
problem = codes "(define (problem p) (:domain chain) (:init (a)) (:goal (c)))"

-- a domain, a problem and a plan, with the answer
abbrev Row : Type 0
Row = List ℕ × List ℕ × List ℕ × Step Reply

abbrev answer_to : Row → Step Reply
answer_to row = checked row.0 row.1 row.2

abbrev answer_in : Row → Step Reply
answer_in row = row.3

-- a plan of the chain
abbrev of_chain : List ℕ → Step Reply → Row
of_chain plan answer = (chain, problem, plan, answer)

-- a domain alone, with a problem of its predicate
abbrev of_domain : List ℕ → Step Reply → Row
of_domain domain answer = (domain, codes "(define (problem p) (:init) (:goal (a)))", [], answer)

-- a problem of the chain
abbrev of_problem : List ℕ → Step Reply → Row
of_problem problem answer = (chain, problem, [], answer)

abbrev plans : List Row
plans =
    of_chain (codes "0: (s1) [1]\n0.001: (s2) [1]\n") (says Done (codes "; valid steps 2"))
    ∷ of_chain (codes "(s1)(s2)(s1)") (says InvalidPlan (codes "; invalid step 3: condition (a)"))
    ∷ of_chain [] (says InvalidPlan (codes "; invalid goal (c)"))
    ∷ of_chain (codes "(s1 x)") (says InvalidPlan (codes "; invalid step 1: arguments 1 wanted 0"))
    ∷ of_chain (codes "(go)") (says InvalidPlan (codes "; invalid step 1: unknown action go"))
    ∷ of_chain (codes "((s1))") (refuses (codes "; refused: plan: shape at 1"))
    ∷ of_chain (codes "(s1") (refuses (codes "; refused: plan: unclosed"))
    ∷ of_chain (codes "(s1) s2") (refuses (codes "; refused: plan: unopened at 5"))
    ∷ []

plans_answered : map answer_to plans ≡ map answer_in plans
unfolding checked domain_step problem_step items_step domain_in problem_in plan_step lifted_step verdict_reply lifting_of schema_of cond_of effect_of atom_of slot_of objects_of object_of ground_atom_of stated_after types_of subtypes_of plan_of verdict_of verdict_text why_text refusal_text fault_text kind_text limit_text lexical_text digits
plans_answered = refl

abbrev faults : List Row
faults =
    of_domain (codes "(define (domain d) (:predicates (a)) (:action x :precondition (or (a)) :effect (a)))")
    (refuses (codes "; refused: domain: unsupported or at 63"))
    ∷ of_domain (codes "(define (domain d) (:predicates (a)) (:action x :effect (b)))")
    (refuses (codes "; refused: domain: unknown predicate at 57"))
    ∷ of_problem [] (refuses (codes "; refused: problem: empty"))
    ∷ of_problem (codes "(define (problem p) (:init (a)))") (refuses (codes "; refused: problem: shape at 0"))
    ∷ of_problem (codes "(define (problem p) (:init) (:goal (d)))") (refuses (codes "; refused: problem: unknown predicate at 36"))
    ∷ of_problem (codes "(define (problem p) (:init (a b)) (:goal (a)))") (refuses (codes "; refused: problem: arity at 28"))
    ∷ []

faults_answered : map answer_to faults ≡ map answer_in faults
unfolding checked domain_step problem_step items_step domain_in problem_in plan_step lifted_step verdict_reply lifting_of schema_of cond_of effect_of atom_of slot_of objects_of object_of ground_atom_of stated_after types_of subtypes_of plan_of verdict_of verdict_text why_text refusal_text fault_text kind_text limit_text lexical_text digits
faults_answered = refl

-- types with parents, a constant, an object that is declared twice, a parameter of either of two types; case means nothing
abbrev moving : List ℕ
moving =
    codes "(DEFINE (DOMAIN Move)"
    ++ 10 ∷ codes " (:requirements :strips :typing)"
    ++ 10 ∷ codes " (:types truck plane - vehicle place)"
    ++ 10 ∷ codes " (:constants Hub - place)"
    ++ 10 ∷ codes " (:predicates (at ?v - vehicle ?p - place) (road ?a ?b - place))"
    ++ 10 ∷ codes " (:action GO :parameters (?v - (either truck plane) ?a ?b - place)"
    ++ 10 ∷ codes "  :precondition (and (at ?v ?a) (road ?a ?b))"
    ++ 10 ∷ codes "  :effect (and (not (at ?v ?a)) (at ?v ?b))))"

abbrev moving_problem : List ℕ
moving_problem =
    codes "(define (problem p) (:domain move)"
    ++ 10 ∷ codes " (:objects T1 - truck A - place T1 - plane)"
    ++ 10 ∷ codes " (:init (at t1 a) (ROAD a hub))"
    ++ 10 ∷ codes " (:goal (at t1 hub)))"

abbrev moves : List Row
moves =
    (moving, moving_problem, codes "(GO t1 a HUB)", says Done (codes "; valid steps 1"))
    ∷ (moving, moving_problem, codes "(go t1 hub a)", says InvalidPlan (codes "; invalid step 1: condition (at t1 hub)"))
    ∷ (moving, moving_problem, codes "(go a a hub)", says InvalidPlan (codes "; invalid step 1: type of a"))
    ∷ (moving, moving_problem, codes "(go t1 a b)", says InvalidPlan (codes "; invalid step 1: unknown object b"))
    ∷ []

moves_answered : map answer_to moves ≡ map answer_in moves
unfolding checked domain_step problem_step items_step domain_in problem_in plan_step lifted_step verdict_reply lifting_of schema_of cond_of effect_of atom_of slot_of objects_of object_of ground_atom_of stated_after types_of subtypes_of plan_of verdict_of verdict_text why_text refusal_text fault_text kind_text limit_text lexical_text digits
moves_answered = refl
