-- Worked rows of the definitions, each computed.
use Rattle.std.specs.Prelude.{◌≡◌, ◌-◌, ◌^◌, true, false, [], ◌∷◌, map, length, refl}
use Rattle.wp_task.specs.Novelty.{tuples_in}
use Rattle.wp_tuples.specs.TuplePlaces.{place_of}
use Rattle.wp_tuples.specs.Placing.{place_in}
use Rattle.wp_tuples.specs.Ranking.{Ranking, is_held, ranked}

-- of four atoms: 0 to 3, then the pair of 1, those of 2 and those of 3
places_of_four : map (place_of 4) (tuples_in 2 4) ≡ 0 ∷ 1 ∷ 2 ∷ 3 ∷ 4 ∷ 5 ∷ 7 ∷ 6 ∷ 8 ∷ 9 ∷ []
places_of_four = refl

last_pair : place_of 4 (2 ∷ 3 ∷ []) ≡ 9
last_pair = refl

single_places : map (place_of 3) (tuples_in 1 3) ≡ 0 ∷ 1 ∷ 2 ∷ []
single_places = refl

no_atom_no_tuple : length (tuples_in 2 0) ≡ 0
no_atom_no_tuple = refl

one_atom_one_tuple : length (tuples_in 2 1) ≡ 1
one_atom_one_tuple = refl

-- ---- of three atoms at width 2, of which 1 got the first rank and 2 the second
abbrev two_ranked : Ranking
two_ranked = record { width = 2; ranks = (2 ^ 32 - 1) ∷ 0 ∷ 1 ∷ []; used = 2 }

abbrev three_ranked : Ranking
three_ranked = record { width = 2; ranks = 2 ∷ 0 ∷ 1 ∷ []; used = 3 }

an_atom_without_a_rank_is_not_held : map (is_held two_ranked) (0 ∷ 1 ∷ 2 ∷ 3 ∷ []) ≡ false ∷ true ∷ true ∷ false ∷ []
an_atom_without_a_rank_is_not_held = refl

pairs_lie_by_their_greater_rank : map (place_in (ranked three_ranked)) ((0 ∷ []) ∷ (1 ∷ 2 ∷ []) ∷ (0 ∷ 1 ∷ []) ∷ (0 ∷ 2 ∷ []) ∷ []) ≡ 0 ∷ 3 ∷ 4 ∷ 5 ∷ []
pairs_lie_by_their_greater_rank = refl

a_place_stays : place_in (ranked two_ranked) (1 ∷ 2 ∷ []) ≡ 3
a_place_stays = refl

places_grow_by_a_row : map (λ r. (ranked r).len) (two_ranked ∷ three_ranked ∷ []) ≡ 4 ∷ 6 ∷ []
places_grow_by_a_row = refl
