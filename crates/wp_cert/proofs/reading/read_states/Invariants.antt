use Rattle.std.proofs.Common.{◌≡◌, ◌≤◌, ◌+◌, ◌-◌, length}
use Rattle.std.specs.Prelude.{All}
use Rattle.wp_task.specs.Set.{AreAtoms}
use Rattle.wp_cert.specs.Format.{states_from, with_states, pieces}
use Rattle.wp_cert.proofs.reading.read_states.Given as goal

abbrev pub invariant-loop-split : goal.invariant-loop-split
invariant-loop-split l = record {
  so_far : with_states l.states.items (states_from l.number (l.count - length l.states.items) (pieces 10 l.rest)) ≡ states_from l.first l.count (pieces 10 l.bytes);
  few : length l.states.items ≤ l.count;
  fits : All (AreAtoms 65536) l.states.items;
  numbers : l.number + length l.rest ≤ l.first + length l.bytes;
}

abbrev pub decreases-loop-split : goal.decreases-loop-split
decreases-loop-split l = length l.rest
