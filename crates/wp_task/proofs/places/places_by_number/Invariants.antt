use Rattle.std.proofs.Common.{◌≡◌, ◌<◌, [], ℕ, length, get_or}
use Rattle.std.specs.List.{filter, range_with_len}
use Rattle.wp_task.specs.Set.{lists}
use Rattle.wp_task.proofs.places.places_by_number.Given as goal

abbrev pub invariant-loop-place : goal.invariant-loop-place
invariant-loop-place l = record {
  len : length l.places.items ≡ l.count;
  value : (p : ℕ) → p < l.count → get_or l.places.items p [] ≡ filter (λ a. lists (get_or l.flat a []) p) (range_with_len 0 l.place);
}
