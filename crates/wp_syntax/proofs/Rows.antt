-- The definitions at small texts, from their bytes.
use Rattle.std.proofs.Common.{◌≡◌, List, ℕ, [], ◌∷◌, ◌++◌, Option, None, Some, replicate, refl}
use Rattle.std.specs.Prelude.{codes}
use Rattle.wp_lex.specs.Items.{items_of}
use Rattle.wp_lex.specs.Trees.{trees_of}
use Rattle.wp_syntax.specs.declared.error.ReadKind.{ReadKind}
use Rattle.wp_syntax.specs.declared.error.ReadKind.TheVariants.{Shape, Unsupported, Reserved, Duplicate, TooMany}
use Rattle.wp_syntax.specs.Reading.{Wrong, first}
use Rattle.wp_syntax.specs.declared.records.Typed.{Typed}
use Rattle.wp_syntax.specs.declared.records.PredText.{PredText}
use Rattle.wp_syntax.specs.declared.typing.Role.TheVariants as roles
use Rattle.wp_syntax.specs.Grammar.{name_at}
use Rattle.wp_syntax.specs.Typing.{word_of}
use Rattle.wp_syntax.specs.Predicates.{declared_of}
use Rattle.wp_syntax.specs.Domains.{domain_of}
use Rattle.wp_syntax.specs.Problems.{problem_of}

abbrev at : ReadKind → ℕ → Option Wrong
at kind place = Some (record { kind = kind; at = place })

-- the first fault of a domain, and of a problem
abbrev of_domain : List ℕ → Option Wrong
of_domain text = first (domain_of (trees_of (items_of text))).faults

abbrev of_problem : List ℕ → Option Wrong
of_problem text = first (problem_of (trees_of (items_of text))).faults

abbrev domain_text : List ℕ → List ℕ
domain_text rest = codes "(define (domain d) " ++ rest

abbrev action_text : List ℕ → List ℕ
action_text rest = codes "(define (domain d) (:predicates (a)) (:action x " ++ rest

a_predicate_twice : of_domain (domain_text (codes "(:predicates (a) (a)))")) ≡ at Duplicate 37
a_predicate_twice = refl

a_predicate_named_by_a_reserved_word : of_domain (domain_text (codes "(:predicates (and)))")) ≡ at Reserved 33
a_predicate_named_by_a_reserved_word = refl

predicates_twice : of_domain (domain_text (codes "(:predicates (a)) (:predicates (b)))")) ≡ at Duplicate 37
predicates_twice = refl

a_derived_predicate : of_domain (domain_text (codes "(:derived (a) (b)))")) ≡ at (Unsupported (codes ":derived")) 20
a_derived_predicate = refl

variables_of_an_action :
    of_domain (action_text (codes ":vars (?v) :effect (a)))"))
    ≡ at (Unsupported (codes ":vars")) 48
variables_of_an_action = refl

variables_without_a_list : of_domain (action_text (codes ":vars))")) ≡ at (Unsupported (codes ":vars")) 48
variables_without_a_list = refl

a_conditional_effect : of_domain (action_text (codes ":effect (when (a) (a))))")) ≡ at (Unsupported (codes "when")) 57
a_conditional_effect = refl

a_dash_without_words : of_domain (domain_text (codes "(:types - object))")) ≡ at Shape 27
a_dash_without_words = refl

a_dash_without_a_kind : of_domain (domain_text (codes "(:types a -))")) ≡ at Shape 29
a_dash_without_a_kind = refl

two_dashes : of_domain (domain_text (codes "(:types a - - b))")) ≡ at Shape 29
two_dashes = refl

a_variable_as_a_kind : of_domain (domain_text (codes "(:types a - ?x))")) ≡ at Shape 29
a_variable_as_a_kind = refl

an_empty_list_as_a_kind : of_domain (domain_text (codes "(:types a - ()))")) ≡ at Shape 31
an_empty_list_as_a_kind = refl

a_list_of_names_as_a_kind : of_domain (domain_text (codes "(:types a - (x y)))")) ≡ at Shape 31
a_list_of_names_as_a_kind = refl

either_of_nothing : of_domain (domain_text (codes "(:types a - (either)))")) ≡ at Shape 31
either_of_nothing = refl

either_of_a_variable : of_domain (domain_text (codes "(:types a - (either ?x)))")) ≡ at Shape 39
either_of_a_variable = refl

a_question_mark_alone : of_domain (domain_text (codes "(:predicates (a ?)))")) ≡ at Shape 35
a_question_mark_alone = refl

a_parameter_twice : of_domain (action_text (codes ":parameters (?v ?v) :effect (a)))")) ≡ at Duplicate 64
a_parameter_twice = refl

a_disjunction :
    of_domain (action_text (codes ":precondition (or (a)) :effect (a)))"))
    ≡ at (Unsupported (codes "or")) 63
a_disjunction = refl

a_list_as_a_term_of_a_deleted_atom : of_domain (action_text (codes ":effect (not (a (q)))))")) ≡ at Shape 64
a_list_as_a_term_of_a_deleted_atom = refl

a_negative_condition : of_domain (action_text (codes ":precondition (not (a))))")) ≡ at (Unsupported (codes "not")) 63
a_negative_condition = refl

a_list_as_a_term_under_a_not :
    of_domain (action_text (codes ":precondition (not (a (q)))))"))
    ≡ at (Unsupported (codes "not")) 63
a_list_as_a_term_under_a_not = refl

an_equality_of_a_list :
    of_domain (action_text (codes ":precondition (not (= a (f)))))"))
    ≡ at (Unsupported (codes "=")) 68
an_equality_of_a_list = refl

half_an_equality : of_domain (action_text (codes ":precondition (not (= a))))")) ≡ at Shape 68
half_an_equality = refl

three_sides_of_an_equality : of_domain (action_text (codes ":precondition (= a (f) b)))")) ≡ at Shape 63
three_sides_of_an_equality = refl

a_not_of_two : of_domain (action_text (codes ":effect (not (a) (a))))")) ≡ at (Unsupported (codes "not")) 57
a_not_of_two = refl

a_not_of_a_conjunction :
    of_domain (action_text (codes ":effect (not (and (a)))))"))
    ≡ at (Unsupported (codes "not")) 57
a_not_of_a_conjunction = refl

a_nested_fault :
    of_domain (action_text (codes ":precondition (and (a) (and (and) (or)))))"))
    ≡ at (Unsupported (codes "or")) 83
a_nested_fault = refl

a_part_without_a_list : of_domain (action_text (codes ":effect a))")) ≡ at Shape 48
a_part_without_a_list = refl

a_second_part_without_a_list : of_domain (action_text (codes ":effect (a) :effect))")) ≡ at Shape 60
a_second_part_without_a_list = refl

a_part_twice : of_domain (action_text (codes ":effect (a) :effect (a)))")) ≡ at Duplicate 60
a_part_twice = refl

an_action_twice : of_domain (action_text (codes ") (:action x))")) ≡ at Duplicate 59
an_action_twice = refl

nothing_defined : of_domain (codes "(define)") ≡ at Shape 0
nothing_defined = refl

a_domain_without_a_name : of_domain (codes "(define (domain))") ≡ at Shape 8
a_domain_without_a_name = refl

a_domain_with_two_names : of_domain (codes "(define (domain a b))") ≡ at Shape 18
a_domain_with_two_names = refl

the_first_of_two_faults : of_domain (domain_text (codes "(:types ?a) (:types))")) ≡ at Shape 27
the_first_of_two_faults = refl

a_missing_goal : of_problem (codes "(define (problem p) (:init))") ≡ at Shape 0
a_missing_goal = refl

a_fault_before_a_missing_goal : of_problem (codes "(define (problem p) (:foo))") ≡ at Shape 20
a_fault_before_a_missing_goal = refl

a_timed_literal :
    of_problem (codes "(define (problem p) (:init (at 5 (a))) (:goal ()))")
    ≡ at (Unsupported (codes "at")) 28
a_timed_literal = refl

no_timed_literal_under_a_not : of_problem (codes "(define (problem p) (:init (not (at 5 (a)))))") ≡ at Shape 38
no_timed_literal_under_a_not = refl

an_equality_in_a_goal :
    of_problem (codes "(define (problem p) (:init) (:goal (= a)))")
    ≡ at (Unsupported (codes "=")) 36
an_equality_in_a_goal = refl

a_second_goal_without_a_goal : of_problem (codes "(define (problem p) (:goal (a)) (:goal))") ≡ at Shape 32
a_second_goal_without_a_goal = refl

a_second_goal : of_problem (codes "(define (problem p) (:goal ()) (:goal ()))") ≡ at Duplicate 31
a_second_goal = refl

two_goals_in_one : of_problem (codes "(define (problem p) (:goal () ()))") ≡ at Shape 30
two_goals_in_one = refl

two_names_of_a_domain : of_problem (codes "(define (problem p) (:domain a b))") ≡ at Shape 31
two_names_of_a_domain = refl

a_metric : of_problem (codes "(define (problem p) (:metric minimize (a)))") ≡ at (Unsupported (codes ":metric")) 21
a_metric = refl

-- A name that was given before is a fault before it is one too many.
abbrev thirty_two : List Typed
thirty_two = replicate 32 (record { name = name_at (codes "?v") 0; kinds = [] })

a_parameter_too_many : first (word_of roles.Action thirty_two [] (codes "?w") 7).faults ≡ at (TooMany 32) 7
a_parameter_too_many = refl

a_parameter_twice_and_too_many : first (word_of roles.Action thirty_two [] (codes "?v") 7).faults ≡ at Duplicate 7
a_parameter_twice_and_too_many = refl

a_predicate_may_repeat_its_parameters : (word_of roles.Predicate [] (name_at (codes "?v") 0 ∷ []) (codes "?v") 7).faults ≡ []
a_predicate_may_repeat_its_parameters = refl

abbrev preds : ℕ → List PredText
preds count = replicate count (record { name = name_at (codes "p") 0; params = [] })

the_last_predicate : (declared_of (preds 4095) (codes "q") 7).faults ≡ []
the_last_predicate = refl

a_predicate_too_many : first (declared_of (preds 4096) (codes "q") 7).faults ≡ at (TooMany 4096) 7
a_predicate_too_many = refl

-- Reserved words are names of anything but predicates.
reserved_words_are_names :
    of_domain (domain_text (codes "(:types and - or) (:predicates (a ?v - not)) (:action when :effect (a forall)))")) ≡ None
reserved_words_are_names = refl
