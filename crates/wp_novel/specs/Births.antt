-- Births: generated nodes that are no repeats, as they are entered into novelty tables. Where a birth says which of its atoms are new,
-- all tuples of the other atoms were marked before, so only tuples with a new atom are marked and looked at.
use Rattle.std.specs.Prelude.{ℕ, Bool, true, List, map, Option, None, Some}
use Rattle.wp_task.specs.Set.{lists}
use Rattle.wp_task.specs.Novelty.{Generated}

pub record BirthView : Type 0 where
  pub node : Generated
  pub fresh : Option (List ℕ)  -- the new atoms; where it is absent every atom is new

abbrev pub is_new : Option (List ℕ) → ℕ → Bool
is_new None p = true
is_new (Some atoms) p = lists atoms p

abbrev pub nodes_of : List BirthView → List Generated
nodes_of births = map (λ b. b.node) births

abbrev pub numbers_of : List BirthView → List ℕ
numbers_of births = map (λ b. b.node.number) births
