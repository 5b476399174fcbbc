-- The depot of a number and a size: a truck on a road along as many places as the size says, and as many parcels, each with a start
-- and a goal among the places. For each parcel in its order the start is drawn first, then the goal.
-- Ours: every task has a plan, since the truck can reach each place and carry each parcel; how many steps it takes is not said.
use Rattle.std.specs.Prelude.{ℕ, ◌+◌, ◌*◌, ◌-◌, List, ◌++◌, codes, decimal}
use Rattle.std.specs.List.{flat_map, range_with_len}
use Rattle.wp_gen.specs.Numbers.{draw}

-- the place where a parcel stands, and where it is to be
abbrev pub start_of : ℕ → ℕ → ℕ → ℕ
start_of number size parcel = draw number size (parcel * 2 + 1)

abbrev pub goal_of : ℕ → ℕ → ℕ → ℕ
goal_of number size parcel = draw number size (parcel * 2 + 2)

unfoldable pub domain_text : List ℕ
domain_text =
    codes "(define (domain depot)\n"
    ++ codes "(:predicates (road ?a ?b) (truck ?p) (at ?b ?p) (held ?b))\n"
    ++ codes "(:action drive :parameters (?a ?b) :precondition (and (truck ?a) (road ?a ?b)) :effect (and (not (truck ?a)) (truck ?b)))\n"
    ++ codes "(:action load :parameters (?b ?p) :precondition (and (at ?b ?p) (truck ?p)) :effect (and (not (at ?b ?p)) (held ?b)))\n"
    ++ codes "(:action unload :parameters (?b ?p) :precondition (and (held ?b) (truck ?p)) :effect (and (not (held ?b)) (at ?b ?p))))\n"

-- one text behind another for each number below a count
abbrev pub each_below : (ℕ → List ℕ) → ℕ → List ℕ
each_below text count = flat_map text (range_with_len 0 count)

abbrev pub place_text : ℕ → List ℕ
place_text place = codes " p" ++ decimal place

abbrev pub parcel_text : ℕ → List ℕ
parcel_text parcel = codes " b" ++ decimal parcel

-- the roads between a place and the next, there and back
unfoldable pub roads_text : ℕ → List ℕ
roads_text place =
    codes " (road" ++ place_text place ++ place_text (place + 1) ++ codes ")"
    ++ codes " (road" ++ place_text (place + 1) ++ place_text place ++ codes ")"

-- a parcel at a place
unfoldable pub at_text : ℕ → ℕ → List ℕ
at_text parcel place = codes " (at" ++ parcel_text parcel ++ place_text place ++ codes ")"

unfoldable pub objects_line : ℕ → List ℕ
objects_line size = codes "(:objects" ++ each_below place_text size ++ each_below parcel_text size ++ codes ")\n"

unfoldable pub init_line : ℕ → ℕ → List ℕ
init_line number size =
    codes "(:init (truck p0)" ++ each_below roads_text (size - 1)
    ++ each_below (λ (parcel : ℕ). at_text parcel (start_of number size parcel)) size ++ codes ")\n"

unfoldable pub goal_line : ℕ → ℕ → List ℕ
goal_line number size =
    codes "(:goal (and" ++ each_below (λ (parcel : ℕ). at_text parcel (goal_of number size parcel)) size ++ codes ")))\n"

unfoldable pub problem_text : ℕ → ℕ → List ℕ
problem_text number size =
    codes "(define (problem depot) (:domain depot)\n" ++ objects_line size ++ init_line number size ++ goal_line number size
