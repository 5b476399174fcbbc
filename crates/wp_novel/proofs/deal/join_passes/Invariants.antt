use Rattle.std.proofs.Common.{◌≡◌, ◌++◌, List}
use Rattle.std.specs.Vec.Iter.{into_iter_items}
use Rattle.wp_novel.specs.declared.job.JobPass.{JobPass}
use Rattle.wp_novel.specs.Jobs.{HomesBecome, Takes}
use Rattle.wp_novel.proofs.deal.join_passes.Given as goal

abbrev pub invariant-loop-pass : goal.invariant-loop-pass
invariant-loop-pass l = (done : List JobPass) × (done ++ into_iter_items l.pass-iterator ≡ l.fn.passes.items) ×
    HomesBecome (Takes done) l.fn.homes.entries l.homes.entries
