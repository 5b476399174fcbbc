use Rattle.std.proofs.Common.{◌≡◌, ◌-◌, ◌<◌, ◌≤◌, ℕ, false}
use Rattle.wp_task.specs.Set.{lists, IsIn}
use Rattle.wp_commit.proofs.fresh.atoms_beside.Given as goal

abbrev pub invariant-loop-p : goal.invariant-loop-p
invariant-loop-p l = record {
  within : l.from ≤ l.size;
  covers : (q : ℕ) → q < l.from → IsIn l.state q → lists l.atoms.items q ≡ false → IsIn l.earlier q;
}

abbrev pub decreases-loop-p : goal.decreases-loop-p
decreases-loop-p l = l.size - l.from
