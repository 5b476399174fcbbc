-- Worked rows of the definitions, each computed.
use Rattle.std.specs.Prelude.{◌≡◌, List, [], ◌∷◌, refl}
use Rattle.wp_arrive.specs.declared.view.Arrival.{Arrival}
use Rattle.wp_arrive.specs.FirstArrival.{mark, first}
use Rattle.wp_arrive.specs.Laws.{arrive_all, blank_words}

-- two arrivals at place 0, and one at place 2
abbrev three : List Arrival
three = mark 0 5 ∷ mark 2 9 ∷ mark 0 3 ∷ []

the_least_number_came_first : first three 0 ≡ 3
the_least_number_came_first = refl

nothing_came_to_place_one : first three 1 ≡ 18446744073709551615
nothing_came_to_place_one = refl

one_arrival_is_the_first : first three 2 ≡ 9
one_arrival_is_the_first = refl

the_words_end_as_the_first_arrivals : arrive_all (blank_words 3) three ≡ 3 ∷ 18446744073709551615 ∷ 9 ∷ []
the_words_end_as_the_first_arrivals = refl
