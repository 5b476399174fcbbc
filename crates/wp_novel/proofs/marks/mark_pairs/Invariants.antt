use Rattle.std.proofs.Common.{◌≡◌, ◌++◌, take}
use Rattle.wp_arrive.specs.Rule.{latest}
use Rattle.wp_arrive.specs.Seen.{seen}
use Rattle.wp_novel.specs.MarkedTuples.{pairs_after}
use Rattle.wp_novel.specs.Marks.{marks_at}
use Rattle.wp_novel.proofs.marks.mark_pairs.Given as goal

abbrev pub invariant-loop-place : goal.invariant-loop-place
invariant-loop-place g l = record {
  pass : l.pass ≡ seen l.fn.pass.table (l.fn.pass.marks ++ marks_at (g.P.Places.places l.index) l.number (pairs_after l.old (take l.place l.new))) l.fn.pass.parts;
  latest_is : latest l.pass.marks ≡ l.number;
}
