-- Worked rows of the definitions, each decided.
use Rattle.std.specs.Prelude.{refl}
use Rattle.std.proofs.Common.{inl, inr, arith}
use Rattle.wp_queue.specs.OpenList.{waiting, IsBefore}

a_new_atom_goes_before_a_lower_goal_counter : IsBefore (waiting 1 5 9) (waiting 2 1 3)
a_new_atom_goes_before_a_lower_goal_counter = inl (omega arith)

a_lower_goal_counter_goes_before_a_lower_number : IsBefore (waiting 1 2 9) (waiting 1 3 4)
a_lower_goal_counter_goes_before_a_lower_number = inr (refl, inl (omega arith))

the_lower_number_breaks_the_tie : IsBefore (waiting 1 2 4) (waiting 1 2 9)
the_lower_number_breaks_the_tie = inr (refl, inr (refl, omega arith))
