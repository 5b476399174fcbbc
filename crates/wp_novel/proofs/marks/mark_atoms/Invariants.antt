use Rattle.std.proofs.Common.{◌≡◌, ◌++◌, map, take}
use Rattle.wp_arrive.specs.Rule.{latest}
use Rattle.wp_arrive.specs.Seen.{seen}
use Rattle.wp_novel.specs.Marks.{marks_at}
use Rattle.wp_novel.proofs.WalkLemmas.{single}
use Rattle.wp_novel.proofs.marks.mark_atoms.Given as goal

abbrev pub invariant-loop-p : goal.invariant-loop-p
invariant-loop-p g l = record {
  pass : l.pass ≡ seen l.fn.pass.table (l.fn.pass.marks ++ marks_at (g.P.Places.places l.index) l.number (map (single) (take l.p-index l.atoms))) l.fn.pass.parts;
  latest_is : latest l.pass.marks ≡ l.number;
}
