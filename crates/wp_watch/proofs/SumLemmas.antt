-- Sums over events.
use Rattle.std.proofs.Common.{◌≤◌, List, [], ◌∷◌, length, arith}
use Rattle.std.specs.Prelude.{count_by}
use Rattle.std.proofs.lemmas.List.Sums.{sum_by-cons, count_by-le-length}
use Rattle.wp_watch.specs.declared.event.Born.{Born}
use Rattle.wp_watch.specs.declared.event.Event.{Event}
use Rattle.wp_watch.specs.Sums.{born_in, kept_in}

-- no more nodes are kept than were born
pub kept_le_born : (events : List Event) → kept_in events ≤ born_in events
kept_le_born [] = omega arith
kept_le_born (event ∷ rest) =
    omega (
      arith,
      sum_by-cons (λ (e : Event). length e.born) event rest,
      sum_by-cons (λ (e : Event). count_by (λ (b : Born). b.kept) e.born) event rest,
      count_by-le-length (λ (b : Born). b.kept) event.born,
      kept_le_born rest,
    )
