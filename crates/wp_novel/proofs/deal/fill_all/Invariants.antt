use Rattle.std.proofs.Common.{◌≡◌, ◌++◌, List, map}
use Rattle.std.specs.Vec.{vec_capacity}
use Rattle.std.specs.Vec.Iter.{into_iter_items}
use Rattle.wp_novel.specs.declared.deal.Share.{Share}
use Rattle.wp_novel.specs.Dealing.{AreGiven}
use Rattle.wp_novel.proofs.deal.fill_all.Given as goal

abbrev pub invariant-loop-share : goal.invariant-loop-share
invariant-loop-share l = (done : List Share) × (done ++ into_iter_items l.share-iterator ≡ l.fn.shares.items) ×
    AreGiven l.fn.homes.entries l.homes.entries (map (λ share. share.births.items) done) l.jobs.items × (vec_capacity l.jobs ≡ vec_capacity l.fn.jobs)
