use Rattle.std.proofs.Common.{◌≡◌, take}
use Rattle.std.specs.Vec.{vec_capacity}
use Rattle.wp_novel.specs.Jobs.{HomesBecome, Lends}
use Rattle.wp_novel.specs.Dealing.{ArePassesFor}
use Rattle.wp_novel.proofs.deal.take_passes.Given as goal

abbrev pub invariant-loop-birth : goal.invariant-loop-birth
invariant-loop-birth l = record {
  passes : ArePassesFor l.fn.homes.entries (take l.birth-index l.births) l.passes.items;
  homes : HomesBecome (Lends l.passes.items) l.fn.homes.entries l.homes.entries;
  room : vec_capacity l.passes ≡ vec_capacity l.fn.passes;
}
