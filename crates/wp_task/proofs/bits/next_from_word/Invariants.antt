use Rattle.std.proofs.Common.{◌≡◌, ◌*◌, ◌<◌, ◌≤◌, ℕ, false}
use Rattle.wp_task.specs.Packing.{bit_in}
use Rattle.wp_task.proofs.bits.next_from_word.Given as goal

abbrev pub invariant-loop-at : goal.invariant-loop-at
invariant-loop-at l = (q : ℕ) → 64 * l.place ≤ q → q < 64 * l.at → bit_in l.words q ≡ false
