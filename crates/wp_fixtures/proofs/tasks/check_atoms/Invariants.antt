use Rattle.std.proofs.Common.{◌<◌, ◌+◌, ℕ, get_or}
use Rattle.wp_fixtures.proofs.tasks.check_atoms.Given as goal

abbrev pub invariant-loop-i : goal.invariant-loop-i
invariant-loop-i l = record {
  below : (k d : ℕ) → k < l.i → get_or l.numbers k d < l.size;
  rising : (k : ℕ) → k + 1 < l.i → get_or l.numbers k 0 < get_or l.numbers (k + 1) 0;
}
