-- First numbers, marks and sizes of a few births.
use Rattle.std.proofs.Common.{◌≡◌, ℕ, ◌-◌, ◌^◌, true, false, List, [], ◌∷◌, map, Some, None, refl}
use Rattle.wp_task.specs.Novelty.{Generated, novelty_of}
use Rattle.wp_tuples.specs.Placing.{Placing, all_placed}
use Rattle.wp_arrive.specs.declared.view.Arrival.{Arrival}
use Rattle.wp_arrive.specs.FirstArrival.{mark}
use Rattle.wp_novel.specs.Births.{BirthView}
use Rattle.wp_novel.specs.MarkedTuples.{new_atoms, old_atoms}
use Rattle.wp_tuples.specs.Ranking.{ranked}
use Rattle.wp_novel.specs.NoveltyTables.{HomeView, at_home, no_words, first_at}
use Rattle.wp_novel.specs.Marks.{marks_for, late_size}
use Rattle.wp_novel.specs.StandsFor.{first_number, last_number}

abbrev near : ℕ × ℕ
near = (1, 0)

abbrev far : ℕ × ℕ
far = (2, 0)

-- the second has all that the first has and atom 2; the third has other counters
abbrev three : List Generated
three =
    record { number = 3; counters = near; state = true ∷ true ∷ false ∷ [] }
    ∷ record { number = 5; counters = near; state = true ∷ true ∷ true ∷ [] }
    ∷ record { number = 8; counters = far; state = true ∷ false ∷ true ∷ [] }
    ∷ []

the_first_has_it : first_number three near (0 ∷ 1 ∷ []) ≡ 3
the_first_has_it = refl

the_second_has_it_first : first_number three near (0 ∷ 2 ∷ []) ≡ 5
the_second_has_it_first = refl

other_counters_count_apart : first_number three far (2 ∷ []) ≡ 8
other_counters_count_apart = refl

none_has_it : first_number three far (1 ∷ []) ≡ 2 ^ 64 - 1
none_has_it = refl

the_last : last_number three ≡ Some 8
the_last = refl

the_last_of_none : last_number [] ≡ None
the_last_of_none = refl

-- ---- of three atoms at width 2
abbrev places : Placing
places = all_placed (record { atoms = 3; width = 2 })

abbrev first_birth : BirthView
first_birth = record { node = record { number = 0; counters = near; state = true ∷ true ∷ false ∷ [] }; fresh = None }

abbrev with_new : BirthView
with_new = record { node = record { number = 1; counters = near; state = true ∷ true ∷ true ∷ [] }; fresh = Some (2 ∷ []) }

abbrev without_new : BirthView
without_new = record { node = record { number = 2; counters = near; state = true ∷ false ∷ true ∷ [] }; fresh = Some [] }

all_are_new : marks_for places near (first_birth ∷ []) ≡ mark 0 0 ∷ mark 1 0 ∷ mark 3 0 ∷ []
all_are_new = refl

-- at {2}, {0, 2} and {1, 2}
three_have_the_new_atom : marks_for places near (with_new ∷ []) ≡ mark 2 1 ∷ mark 4 1 ∷ mark 5 1 ∷ []
three_have_the_new_atom = refl

none_has_a_new_atom : marks_for places near (without_new ∷ []) ≡ []
none_has_a_new_atom = refl

other_counters_are_not_marked : marks_for places far (with_new ∷ []) ≡ []
other_counters_are_not_marked = refl

abbrev all_marks : List Arrival
all_marks = marks_for places near (first_birth ∷ with_new ∷ without_new ∷ [])

the_new_atom_is_late : late_size places all_marks 1 (old_atoms with_new) (new_atoms with_new) ≡ 1
the_new_atom_is_late = refl

nothing_is_late : late_size places all_marks 2 (old_atoms without_new) (new_atoms without_new) ≡ 3
nothing_is_late = refl

abbrev their_nodes : List Generated
their_nodes = first_birth.node ∷ with_new.node ∷ without_new.node ∷ []

novelty_with_new : novelty_of 2 their_nodes with_new.node ≡ 1
novelty_with_new = refl

novelty_without_new : novelty_of 2 their_nodes without_new.node ≡ 3
novelty_without_new = refl

-- ---- the same by ranks, where atom 2 came true last
abbrev home_of_three : HomeView
home_of_three = at_home (record { width = 2; ranks = 0 ∷ 1 ∷ 2 ∷ []; used = 3 }) no_words (marks_for (ranked (record { width = 2; ranks = 0 ∷ 1 ∷ 2 ∷ []; used = 3 })) near (first_birth ∷ with_new ∷ [])) 1

abbrev home_of_two : HomeView
home_of_two = at_home (record { width = 2; ranks = 0 ∷ 1 ∷ (2 ^ 32 - 1) ∷ []; used = 2 }) no_words (marks_for (ranked (record { width = 2; ranks = 0 ∷ 1 ∷ (2 ^ 32 - 1) ∷ []; used = 2 })) near (first_birth ∷ [])) 1

before_it_came_true : map (first_at home_of_two) ((2 ∷ []) ∷ (0 ∷ 1 ∷ []) ∷ (0 ∷ 2 ∷ []) ∷ []) ≡ (2 ^ 64 - 1) ∷ 0 ∷ (2 ^ 64 - 1) ∷ []
before_it_came_true = refl

after_it_came_true : map (first_at home_of_three) ((2 ∷ []) ∷ (0 ∷ 1 ∷ []) ∷ (0 ∷ 2 ∷ []) ∷ (1 ∷ 2 ∷ []) ∷ []) ≡ 1 ∷ 0 ∷ 1 ∷ 1 ∷ []
after_it_came_true = refl
