use Rattle.std.proofs.Common.{◌≡◌, ◌-◌, length}
use Rattle.wp_ladder.proofs.TrimLemmas.{IsHalfway}
use Rattle.wp_ladder.proofs.elimination.trim.Given as goal

abbrev pub invariant-loop-place : goal.invariant-loop-place
invariant-loop-place l = record {
  size : length l.before ≡ l.task.atoms;
  room : length l.after ≡ l.task.atoms;
  half : IsHalfway l.task l.plan l.steps.items l.place l.before;
}

abbrev pub decreases-loop-place : goal.decreases-loop-place
decreases-loop-place l = length l.steps.items - l.place
