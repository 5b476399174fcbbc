use Rattle.std.proofs.Common.{◌≡◌, false, take}
use Rattle.std.specs.List.{list_any}
use Rattle.wp_novel.specs.MarkedTuples.{pairs_after}
use Rattle.wp_novel.specs.Marks.{is_late}
use Rattle.wp_novel.proofs.first.has_late_pair.Given as goal

abbrev pub invariant-loop-place : goal.invariant-loop-place
invariant-loop-place g l = record {
  same : l.shared ≡ l.fn.shared;
  none : list_any (is_late (g.P.Places.places l.index) l.fn.shared.marks l.number) (pairs_after l.old (take l.place l.new)) ≡ false;
}
