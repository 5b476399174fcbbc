use Rattle.std.proofs.Common.{◌≡◌, ◌≤◌, ◌+◌, ◌-◌, length}
use Rattle.std.specs.List.{All}
use Rattle.wp_cert.specs.Closing.{closing, closed_states}
use Rattle.wp_cert.proofs.closing.close.Given as goal

abbrev pub invariant-loop-alloc : goal.invariant-loop-alloc
invariant-loop-alloc l = record {
  so_far : closing l.task.acts l.limit (l.limit + 2 - l.place) l.place l.found.keys ≡ closed_states l.task l.limit;
  few : l.place ≤ l.limit;
  sized : All (λ s. length s ≡ l.task.atoms) l.found.keys;
}

abbrev pub decreases-loop-alloc : goal.decreases-loop-alloc
decreases-loop-alloc l = l.limit + 1 - l.place
