-- Whole domains and problems, from their bytes.
use Rattle.std.proofs.Common.{◌≡◌, true, false, List, ℕ, [], ◌∷◌, ◌++◌, refl}
use Rattle.std.specs.Prelude.{codes}
use Rattle.wp_lex.specs.Items.{items_of}
use Rattle.wp_lex.specs.Trees.{trees_of}
use Rattle.wp_syntax.specs.declared.records.Name.{Name}
use Rattle.wp_syntax.specs.declared.records.Typed.{Typed}
use Rattle.wp_syntax.specs.declared.records.AtomText.{AtomText}
use Rattle.wp_syntax.specs.declared.records.Cond.TheVariants.{Atom}
use Rattle.wp_syntax.specs.declared.records.Domain.{Domain}
use Rattle.wp_syntax.specs.declared.records.Problem.{Problem}
use Rattle.wp_syntax.specs.Reading.{fine}
use Rattle.wp_syntax.specs.Grammar.{name_at}
use Rattle.wp_syntax.specs.Domains.{domain_of}
use Rattle.wp_syntax.specs.Problems.{problem_of}

abbrev of_kinds : Name → List Name → Typed
of_kinds name kinds = record { name = name; kinds = kinds }

abbrev atom : Name → List Name → AtomText
atom pred args = record { pred = pred; args = args }

abbrev chain_text : List ℕ
chain_text =
    codes "(define (domain chain) (:predicates (a) (b) (c))"
    ++ 10 ∷ codes " (:action s1 :precondition (a) :effect (b))"
    ++ 10 ∷ codes " (:action s2 :precondition (b) :effect (and (not (a)) (c))))"

abbrev chain : Domain
chain = record {
  name = name_at (codes "chain") 16;
  types = [];
  constants = [];
  preds = record { name = name_at (codes "a") 37; params = [] } ∷ record { name = name_at (codes "b") 41; params = [] } ∷ record { name = name_at (codes "c") 45; params = [] } ∷ [];
  actions =
      record {
        name = name_at (codes "s1") 59;
        params = [];
        pre = Atom (atom (name_at (codes "a") 77) []) ∷ [];
        effects = record { add = true; atom = atom (name_at (codes "b") 89) [] } ∷ [];
      }
      ∷ record {
        name = name_at (codes "s2") 103;
        params = [];
        pre = Atom (atom (name_at (codes "b") 121) []) ∷ [];
        effects = record { add = false; atom = atom (name_at (codes "a") 143) [] } ∷ record { add = true; atom = atom (name_at (codes "c") 148) [] } ∷ [];
      }
      ∷ [];
}

chain_is_read : domain_of (trees_of (items_of chain_text)) ≡ fine chain
chain_is_read = refl

abbrev chain_problem_text : List ℕ
chain_problem_text =
    codes "(define (problem p) (:domain chain) (:init (a)) (:goal (c)))"

abbrev chain_problem : Problem
chain_problem = record {
  name = name_at (codes "p") 17;
  objects = [];
  init = record { stated = true; atom = atom (name_at (codes "a") 44) [] } ∷ [];
  goal = atom (name_at (codes "c") 56) [] ∷ [];
}

chain_problem_is_read : problem_of (trees_of (items_of chain_problem_text)) ≡ fine chain_problem
chain_problem_is_read = refl

abbrev moving_text : List ℕ
moving_text =
    codes "(DEFINE (DOMAIN Move)"
    ++ 10 ∷ codes " (:requirements :strips :typing)"
    ++ 10 ∷ codes " (:types truck plane - vehicle place)"
    ++ 10 ∷ codes " (:constants Hub - place)"
    ++ 10 ∷ codes " (:predicates (at ?v - vehicle ?p - place) (road ?a ?b - place))"
    ++ 10 ∷ codes " (:action GO :parameters (?v - (either truck plane) ?a ?b - place)"
    ++ 10 ∷ codes "  :precondition (and (at ?v ?a) (road ?a ?b))"
    ++ 10 ∷ codes "  :effect (and (not (at ?v ?a)) (at ?v ?b))))"

abbrev moving : Domain
moving = record {
  name = name_at (codes "move") 16;
  types = of_kinds (name_at (codes "truck") 64) (name_at (codes "vehicle") 78 ∷ []) ∷ of_kinds (name_at (codes "plane") 70) (name_at (codes "vehicle") 78 ∷ []) ∷ of_kinds (name_at (codes "place") 86) [] ∷ [];
  constants = of_kinds (name_at (codes "hub") 106) (name_at (codes "place") 112 ∷ []) ∷ [];
  preds = record { name = name_at (codes "at") 134; params = of_kinds (name_at (codes "?v") 137) (name_at (codes "vehicle") 142 ∷ []) ∷ of_kinds (name_at (codes "?p") 150) (name_at (codes "place") 155 ∷ []) ∷ [] } ∷ record { name = name_at (codes "road") 163; params = of_kinds (name_at (codes "?a") 168) (name_at (codes "place") 176 ∷ []) ∷ of_kinds (name_at (codes "?b") 171) (name_at (codes "place") 176 ∷ []) ∷ [] } ∷ [];
  actions =
      record {
        name = name_at (codes "go") 194;
        params = of_kinds (name_at (codes "?v") 210) (name_at (codes "truck") 223 ∷ name_at (codes "plane") 229 ∷ []) ∷ of_kinds (name_at (codes "?a") 236) (name_at (codes "place") 244 ∷ []) ∷ of_kinds (name_at (codes "?b") 239) (name_at (codes "place") 244 ∷ []) ∷ [];
        pre = Atom (atom (name_at (codes "at") 273) (name_at (codes "?v") 276 ∷ name_at (codes "?a") 279 ∷ [])) ∷ Atom (atom (name_at (codes "road") 284) (name_at (codes "?a") 289 ∷ name_at (codes "?b") 292 ∷ [])) ∷ [];
        effects = record { add = false; atom = atom (name_at (codes "at") 318) (name_at (codes "?v") 321 ∷ name_at (codes "?a") 324 ∷ []) } ∷ record { add = true; atom = atom (name_at (codes "at") 330) (name_at (codes "?v") 333 ∷ name_at (codes "?b") 336 ∷ []) } ∷ [];
      }
      ∷ [];
}

moving_is_read : domain_of (trees_of (items_of moving_text)) ≡ fine moving
moving_is_read = refl

abbrev moving_problem_text : List ℕ
moving_problem_text =
    codes "(define (problem p) (:domain move)"
    ++ 10 ∷ codes " (:objects T1 - truck A - place T1 - plane)"
    ++ 10 ∷ codes " (:init (at t1 a) (ROAD a hub))"
    ++ 10 ∷ codes " (:goal (at t1 hub)))"

abbrev moving_problem : Problem
moving_problem = record {
  name = name_at (codes "p") 17;
  objects = of_kinds (name_at (codes "t1") 46) (name_at (codes "truck") 51 ∷ []) ∷ of_kinds (name_at (codes "a") 57) (name_at (codes "place") 61 ∷ []) ∷ of_kinds (name_at (codes "t1") 67) (name_at (codes "plane") 72 ∷ []) ∷ [];
  init = record { stated = true; atom = atom (name_at (codes "at") 88) (name_at (codes "t1") 91 ∷ name_at (codes "a") 94 ∷ []) } ∷ record { stated = true; atom = atom (name_at (codes "road") 98) (name_at (codes "a") 103 ∷ name_at (codes "hub") 105 ∷ []) } ∷ [];
  goal = atom (name_at (codes "at") 120) (name_at (codes "t1") 123 ∷ name_at (codes "hub") 126 ∷ []) ∷ [];
}

moving_problem_is_read : problem_of (trees_of (items_of moving_problem_text)) ≡ fine moving_problem
moving_problem_is_read = refl
