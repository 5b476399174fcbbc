-- Sums over the events of a search.
use Rattle.std.specs.Prelude.{ℕ, List, length, sum_by, count_by}
use Rattle.wp_watch.specs.declared.event.Born.{Born}
use Rattle.wp_watch.specs.declared.event.Event.{Event}

-- how many nodes were numbered in the events
abbrev pub born_in : List Event → ℕ
born_in events = sum_by (λ (event : Event). length event.born) events

-- how many of these were kept
abbrev pub kept_in : List Event → ℕ
kept_in events = sum_by (λ (event : Event). count_by (λ (born : Born). born.kept) event.born) events

-- how many children were repeats
abbrev pub repeats_in : List Event → ℕ
repeats_in events = sum_by (λ (event : Event). event.repeats) events
