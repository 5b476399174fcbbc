-- The first draws of small numbers, and the texts of small sizes, computed.
use Rattle.std.specs.Prelude.{◌≡◌, [], ◌∷◌, ◌++◌, map, codes, refl}
use Rattle.std.specs.Fmt.{digits}
use Rattle.wp_gen.specs.Numbers.{draw, term_of}
use Rattle.wp_gen.specs.Depot.{at_text, goal_line, init_line, objects_line, problem_text, roads_text}

terms_are : map (term_of 0) (1 ∷ 2 ∷ []) ≡ 1442695040888963407 ∷ 1876011003808476466 ∷ []
terms_are = refl

first_draw : draw 0 10 1 ≡ 7
first_draw = refl

smallest : problem_text 0 1
    ≡ codes "(define (problem depot) (:domain depot)\n(:objects p0 b0)\n(:init (truck p0) (at b0 p0))\n(:goal (and (at b0 p0))))\n"
unfolding problem_text objects_line init_line goal_line roads_text at_text digits
smallest = refl

two_places : problem_text 7 2
    ≡ codes "(define (problem depot) (:domain depot)\n(:objects p0 p1 b0 b1)\n"
    ++ codes "(:init (truck p0) (road p0 p1) (road p1 p0) (at b0 p0) (at b1 p1))\n"
    ++ codes "(:goal (and (at b0 p1) (at b1 p1))))\n"
unfolding problem_text objects_line init_line goal_line roads_text at_text digits
two_places = refl

three_places : problem_text 1 3
    ≡ codes "(define (problem depot) (:domain depot)\n(:objects p0 p1 p2 b0 b1 b2)\n"
    ++ codes "(:init (truck p0) (road p0 p1) (road p1 p0) (road p1 p2) (road p2 p1) (at b0 p2) (at b1 p0) (at b2 p0))\n"
    ++ codes "(:goal (and (at b0 p0) (at b1 p0) (at b2 p2))))\n"
unfolding problem_text objects_line init_line goal_line roads_text at_text digits
three_places = refl
