-- The answers to `ground` on small texts, computed from their bytes.
use Rattle.std.specs.Prelude.{◌≡◌, ℕ, List, [], ◌∷◌, ◌++◌, map, codes, refl}
use Rattle.std.specs.Fmt.{digits}
use Rattle.wp_app.specs.declared.reply.Reply.{Reply}
use Rattle.wp_app.specs.declared.reply.Status.TheVariants.{Done, Refused, OutOfReach}
use Rattle.wp_app.specs.Steps.{Step, ends, goes, ◌>>=◌}
use Rattle.wp_app.specs.Output.{domain_step, problem_step, items_step, domain_in, problem_in, lifted_step, grounded_step, ground_reply}
use Rattle.wp_lift.specs.Lifting.{lifting_of, schema_of, cond_of, effect_of, atom_of, slot_of, objects_of, object_of, ground_atom_of, stated_after}
use Rattle.wp_lift.specs.Typing.{types_of, subtypes_of}
use Rattle.wp_report.specs.Refusals.{lexical_text, kind_text, limit_text, fault_text, refusal_text}
use Rattle.wp_report.specs.Tasks.{ground_text, atom_line, act_line, ground_error_text}

unfoldable numbered : List ℕ → List ℕ → Step Reply
numbered domain problem = do
  domain ← domain_step domain
  problem ← problem_step problem
  lifted ← lifted_step domain problem
  grounded ← grounded_step lifted
  goes (ground_reply grounded)

-- a domain and a problem, with the answer
abbrev Row : Type 0
Row = List ℕ × List ℕ × Step Reply

abbrev chain : List ℕ
chain = codes "(define (domain chain) (:predicates (a) (b) (c) (d))\n (:action s1 :precondition (a) :effect (b))\n (:action s2 :precondition (b) :effect (and (not (a)) (c))))"

abbrev problem_with : List ℕ → List ℕ
problem_with goal = codes "(define (problem p) (:domain chain) (:init (a)) (:goal " ++ goal ++ codes "))"

-- roads never change, so they are no atoms; the one object is declared twice, as a truck and as a plane
abbrev moving : List ℕ
moving =
    codes "(define (domain move) (:types truck plane - vehicle place) (:constants hub - place)"
    ++ codes "(:predicates (at ?v - vehicle ?p - place) (road ?a ?b - place))"
    ++ codes "(:action go :parameters (?v - (either truck plane) ?a ?b - place)"
    ++ codes " :precondition (and (at ?v ?a) (road ?a ?b)) :effect (and (not (at ?v ?a)) (at ?v ?b))))"

abbrev moving_problem : List ℕ
moving_problem =
    codes "(define (problem p) (:domain move) (:objects T1 - truck A - place T1 - plane)"
    ++ codes "(:init (at t1 a) (ROAD a hub)) (:goal (at t1 hub)))"

abbrev tasks : List Row
tasks = (
  chain,
  problem_with (codes "(c)"),
  goes (record {
    text = codes "atoms 3\nacts 2\natom 0 (a)\natom 1 (b)\natom 2 (c)\nact 0 (s1) pre 0 add 1 del\nact 1 (s2) pre 1 add 2 del 0\ninit 0\ngoal 2\n";
    status = Done;
  }),
)
    ∷ (
      moving,
      moving_problem,
      goes (record {
        text = codes "atoms 2\nacts 1\natom 0 (at t1 hub)\natom 1 (at t1 a)\nact 0 (go t1 a hub) pre 1 add 0 del 1\ninit 1\ngoal 0\n";
        status = Done;
      }),
    )
    ∷ (chain, problem_with (codes "(and (c) (d))"), ends (record { text = codes "; goal out of reach (d)\n"; status = OutOfReach }))
    ∷ (chain, problem_with (codes "(e)"), ends (record { text = codes "; refused: problem: unknown predicate at 56\n"; status = Refused }))
    ∷ []

tasks_answered : map (λ (row : Row). numbered row.0 row.1) tasks ≡ map (λ (row : Row). row.2) tasks
unfolding numbered domain_step problem_step items_step domain_in problem_in lifted_step grounded_step ground_reply lifting_of schema_of cond_of effect_of atom_of slot_of objects_of object_of ground_atom_of stated_after types_of subtypes_of ground_text atom_line act_line ground_error_text refusal_text fault_text kind_text limit_text lexical_text digits
tasks_answered = refl
