use Rattle.std.proofs.Common.{◌≡◌, ◌+◌, drop}
use Rattle.wp_lift.specs.Worlds.{among}
use Rattle.wp_check.specs.Verdicts.{verdict_from}
use Rattle.wp_check.proofs.judging.verdict.Given as goal

abbrev pub invariant-loop-place : goal.invariant-loop-place
invariant-loop-place l = verdict_from l.lifted (among l.world) (l.place + 1) (drop l.place l.steps) ≡ verdict_from l.lifted (among l.lifted.opening) 1 l.steps
