-- First arrival. A mark says that a number, such as that of a generated node, came to a place, such as that of a tuple.
-- The first arrival at a place is the least number that came to it, in whatever order the marks were made.
-- Ours: 2^64 - 1 stands for "none", so a mark's number is below it.
use Rattle.std.specs.Prelude.{ℕ, ◌-◌, ◌^◌, List, [], ◌∷◌, ◌==◌, min, if◌then◌else◌}
use Rattle.wp_arrive.specs.declared.view.Arrival.{Arrival}

abbrev pub mark : ℕ → ℕ → Arrival
mark place number = record { place = place; number = number }

-- the least number among the marks at a place, or 2^64 - 1 where there is none
abbrev pub first : List Arrival → ℕ → ℕ
first [] place = 2 ^ 64 - 1
first (m ∷ marks) place = if m.place == place then min m.number (first marks place) else first marks place
