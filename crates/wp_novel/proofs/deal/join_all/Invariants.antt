use Rattle.std.proofs.Common.{◌≡◌, ◌≤◌, ◌++◌, List}
use Rattle.std.specs.Vec.{vec_capacity}
use Rattle.std.specs.Vec.Iter.{into_iter_items}
use Rattle.wp_novel.specs.Jobs.{JobView, HomesBecome, Takes, passes_of, births_of}
use Rattle.wp_novel.proofs.deal.join_all.Given as goal

abbrev pub invariant-loop-job : goal.invariant-loop-job
invariant-loop-job l = (done : List JobView) × (done ++ into_iter_items l.job-iterator ≡ l.fn.jobs.items) ×
    HomesBecome (Takes (passes_of done)) l.fn.homes.entries l.homes.entries ×
    (l.all.items ≡ births_of done) × (vec_capacity l.fn.births ≤ vec_capacity l.all)
