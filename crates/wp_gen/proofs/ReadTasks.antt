-- Each task is read and lifted without a fault.
use Rattle.std.proofs.Common.{◌≡◌, ℕ, ◌+◌, ◌*◌, ◌/◌, ◌^◌, ◌≤◌, ◌<◌, true, List, [], None, map, refl, ap, ◌∙◌, subst}
use Rattle.std.specs.Prelude.{codes}
use Rattle.std.proofs.lemmas.Nat.{mod_below}
use Rattle.std.specs.List.{AllByRecursion}
use Rattle.wp_lex.specs.Trees.{trees_of}
use Rattle.wp_lex.specs.Faults.{fault_of}
use Rattle.wp_lex.specs.Items.{items_of}
use Rattle.wp_lex.specs.Written.{WrittenListsAreRead}
use Rattle.wp_syntax.specs.declared.error.Part.TheVariants as parts
use Rattle.wp_syntax.specs.declared.records.Domain.{Domain}
use Rattle.wp_syntax.specs.declared.records.Problem.{Problem}
use Rattle.wp_syntax.specs.declared.records.Typed.{Typed}
use Rattle.wp_syntax.specs.Reading.{fine as read_fine}
use Rattle.wp_syntax.specs.Domains.{domain_of}
use Rattle.wp_syntax.specs.Problems.{problem_of}
use Rattle.wp_lift.specs.declared.atoms.GroundAtom.{GroundAtom}
use Rattle.wp_lift.specs.declared.schemas.Pred.{Pred}
use Rattle.wp_lift.specs.declared.objects.Known.{Known}
use Rattle.wp_lift.specs.declared.lifting.TypedSchema.{TypedSchema}
use Rattle.wp_lift.specs.Problem.{Lifting}
use Rattle.wp_lift.specs.Walk.{Walk, fine, each, each_after, ◌>>=◌}
use Rattle.wp_lift.specs.Typing.{subtypes_of, types_of}
use Rattle.wp_lift.specs.Lifting.{Naming, atom_of, cond_of, effect_of, ground_atom_of, lifting_of, object_of, objects_of, pred_of, schema_of, slot_of, stated_after}
use Rattle.wp_gen.specs.Numbers.{drawn_below, term_of}
use Rattle.wp_gen.specs.Depot.{domain_text, goal_of, start_of}
use Rattle.wp_gen.specs.Laws.{DepotTasksAreRead}
use Rattle.wp_gen.proofs.ProblemForms.{items_are, problem_items, text_is_line}
use Rattle.wp_gen.proofs.ReadProblems.{objects, problem_is_read}
use Rattle.wp_gen.proofs.LiftedNames.{IsTerm, depot_preds, goals_fine, is_known, naming, names_known, no_objects, object_types, objects_taken, stated_fine}

-- ---- the domain
abbrev depot_domain : Domain
depot_domain = (domain_of (trees_of (items_of domain_text))).value

domain_whole : fault_of domain_text ≡ None
unfolding domain_text
domain_whole = refl

domain_read : domain_of (trees_of (items_of domain_text)) ≡ read_fine depot_domain
unfolding domain_text
domain_read =
    let none : (domain_of (trees_of (items_of domain_text))).faults ≡ [] = refl in
    λ j. record { faults = none j; value = depot_domain }

preds_are : map pred_of depot_domain.preds ≡ depot_preds
unfolding domain_text
preds_are = refl

types_are : types_of parts.Domain depot_domain.types ≡ fine object_types
unfolding domain_text types_of
types_are = refl

no_constants : depot_domain.constants ≡ []
unfolding domain_text
no_constants = refl

abbrev schemas : List (List ℕ) → Walk (List TypedSchema)
schemas names = each (schema_of object_types depot_preds names) depot_domain.actions

schemas_fine : (names : List (List ℕ)) → schemas names ≡ fine (schemas names).value
unfolding domain_text schema_of cond_of effect_of atom_of slot_of
schemas_fine names = let none : (schemas names).faults ≡ [] = refl in λ j. record { faults = none j; value = (schemas names).value }

-- ---- the lifted problem
abbrev lifting : Domain → List Pred → List (List ℕ) → Known → List TypedSchema → List GroundAtom → List GroundAtom → Lifting
lifting domain preds types known schemas opening goals = record {
  objects = known.names;
  kinds = known.kinds;
  preds = preds;
  schemas = map (λ (typed : TypedSchema). typed.schema) schemas;
  wanted = map (λ (typed : TypedSchema). typed.wanted) schemas;
  subtypes = subtypes_of types domain.types;
  opening = opening;
  goals = goals;
}

abbrev naming_by : List Pred → List (List ℕ) → Naming
naming_by preds names = record { part = parts.Problem; preds = preds; objects = names; params = [] }

-- the rest of the walk, from what was met so far
abbrev behind_opening : Domain → Problem → List Pred → List (List ℕ) → Known → List TypedSchema → List GroundAtom → Walk Lifting
behind_opening domain problem preds types known schemas opening =
    each (ground_atom_of (naming_by preds known.names)) problem.goal
    >>= λ goals. fine (lifting domain preds types known schemas opening goals)

abbrev behind_schemas : Domain → Problem → List Pred → List (List ℕ) → Known → List TypedSchema → Walk Lifting
behind_schemas domain problem preds types known schemas =
    each_after (stated_after (naming_by preds known.names)) [] problem.init >>= behind_opening domain problem preds types known schemas

abbrev behind_objects : Domain → Problem → List Pred → List (List ℕ) → Known → Walk Lifting
behind_objects domain problem preds types known =
    each (schema_of types preds known.names) domain.actions >>= behind_schemas domain problem preds types known

abbrev behind_types : Domain → Problem → List Pred → List Typed → List (List ℕ) → Walk Lifting
behind_types domain problem preds constants types =
    (each_after (object_of parts.Domain types) no_objects constants
    >>= λ known. each_after (object_of parts.Problem types) known problem.objects)
    >>= behind_objects domain problem preds types

in_parts : (domain : Domain) (problem : Problem)
    → lifting_of domain problem
    ≡ (types_of parts.Domain domain.types >>= behind_types domain problem (map pred_of domain.preds) domain.constants)
unfolding lifting_of objects_of
in_parts domain problem = refl

-- no fault of names, part by part
record AreFine (domain : Domain) (problem : Problem) (known : Known) : Type 0 where
  schemas : List TypedSchema
  opening : List GroundAtom
  goals : List GroundAtom
  types_are : types_of parts.Domain domain.types ≡ fine object_types
  constants_are : domain.constants ≡ []
  preds_are : map pred_of domain.preds ≡ depot_preds
  objects_are : each_after (object_of parts.Problem object_types) no_objects problem.objects ≡ fine known
  schemas_are : each (schema_of object_types depot_preds known.names) domain.actions ≡ fine schemas
  opening_is : each_after (stated_after (naming known.names)) [] problem.init ≡ fine opening
  goals_are : each (ground_atom_of (naming known.names)) problem.goal ≡ fine goals

lifts : (domain : Domain) (problem : Problem) (known : Known) (are : AreFine domain problem known)
    → lifting_of domain problem ≡ fine (lifting domain depot_preds object_types known are.schemas are.opening are.goals)
lifts domain problem known are =
    in_parts domain problem
    ∙ (λ j. are.types_are j >>= behind_types domain problem (are.preds_are j) (are.constants_are j))
    ∙ ap (λ (walk : Walk Known). walk >>= behind_objects domain problem depot_preds object_types) are.objects_are
    ∙ ap (λ (walk : Walk (List TypedSchema)). walk >>= behind_schemas domain problem depot_preds object_types known) are.schemas_are
    ∙ ap (λ (walk : Walk (List GroundAtom)). walk >>= behind_opening domain problem depot_preds object_types known are.schemas)
    are.opening_is
    ∙ ap (λ (walk : Walk (List GroundAtom)). walk
    >>= λ goals. fine (lifting domain depot_preds object_types known are.schemas are.opening goals))
    are.goals_are

below : (bound x : ℕ) → 1 ≤ bound → drawn_below bound x < bound
below bound x some = mod_below (x / 2 ^ 33) bound some

pub tasks_are_read : WrittenListsAreRead → DepotTasksAreRead
tasks_are_read written number size some few =
    let starts : (k : ℕ) → start_of number size k < size = λ k. below size (term_of number (k * 2 + 1)) some in
    let ends : (k : ℕ) → goal_of number size k < size = λ k. below size (term_of number (k * 2 + 2)) some in
    let has = objects size in
    let taken = objects_taken has.names size few has.texts in
    let known = taken.after.names in
    let knows = names_known known size
    (subst (AllByRecursion (λ (text : List ℕ). is_known known text ≡ true)) has.texts taken.knows) in
    let read = problem_is_read (IsTerm known) number size some knows starts ends has in
    let problem = read.0 in
    let opening = stated_fine known problem.init [] read.2.init in
    let goals = goals_fine known problem.goal read.2.goal in
    let line = text_is_line number size in
    let list = written (codes "define") (problem_items number size) (items_are number size few starts ends) in record {
      domain = depot_domain;
      problem = problem;
      lifted = lifting depot_domain depot_preds object_types taken.after (schemas known).value opening.0 goals.0;
      domain_whole = domain_whole;
      domain_read = domain_read;
      problem_whole = ap fault_of line ∙ list.whole;
      problem_read = ap (λ (text : List ℕ). problem_of (trees_of (items_of text))) line ∙ ap problem_of list.tree ∙ read.1;
      lifts = lifts depot_domain problem taken.after (record {
        schemas = (schemas known).value;
        opening = opening.0;
        goals = goals.0;
        types_are = types_are;
        constants_are = no_constants;
        preds_are = preds_are;
        objects_are = ap (each_after (object_of parts.Problem object_types) no_objects) read.2.objects ∙ taken.lifts;
        schemas_are = schemas_fine known;
        opening_is = opening.1;
        goals_are = goals.1;
      });
    }
