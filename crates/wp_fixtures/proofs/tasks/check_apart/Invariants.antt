use Rattle.std.proofs.Common.{◌≡◌, ℕ, true, false, take}
use Rattle.wp_task.specs.Set.{lists}
use Rattle.wp_fixtures.proofs.tasks.check_apart.Given as goal

abbrev pub invariant-loop-p : goal.invariant-loop-p
invariant-loop-p l = (q : ℕ) → lists l.add q ≡ true → lists (take l.p-index l.del) q ≡ false
