use Rattle.std.proofs.Common.{◌≡◌, ◌++◌, ◌∷◌, [], ℕ, cond, length, take, get_or}
use Rattle.wp_task.specs.Set.{lists}
use Rattle.wp_task.proofs.places.push_to_each.Given as goal

abbrev pub invariant-loop-p : goal.invariant-loop-p
invariant-loop-p l = record {
  len : length l.places.items ≡ length l.fn.places.items;
  value : (p : ℕ) → get_or l.places.items p [] ≡ get_or l.fn.places.items p [] ++ cond (lists (take l.p-index l.numbers) p) (l.place ∷ []) [];
}
