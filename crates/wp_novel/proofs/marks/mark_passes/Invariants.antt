use Rattle.std.proofs.Common.{◌≡◌}
use Rattle.wp_novel.specs.Jobs.{worked_pass}
use Rattle.wp_novel.proofs.StageLemmas.{stage}
use Rattle.wp_novel.proofs.marks.mark_passes.Given as goal

abbrev pub invariant-loop-place : goal.invariant-loop-place
invariant-loop-place l = l.passes.items ≡ stage (worked_pass l.homes.entries l.births) l.place l.fn.passes.items
