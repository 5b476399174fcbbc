use Rattle.std.proofs.Common.{◌≡◌, ◌++◌, take}
use Rattle.wp_arrive.specs.Seen.{seen}
use Rattle.wp_novel.specs.NoveltyTables.{counters_of}
use Rattle.wp_novel.specs.Marks.{marks_for}
use Rattle.wp_novel.proofs.marks.mark_births.Given as goal

abbrev pub invariant-loop-birth : goal.invariant-loop-birth
invariant-loop-birth g l =
    l.pass ≡ seen l.fn.pass.table (l.fn.pass.marks ++ marks_for (g.P.Places.places l.index) (counters_of l.pair) (take l.birth-index l.births)) l.fn.pass.parts
