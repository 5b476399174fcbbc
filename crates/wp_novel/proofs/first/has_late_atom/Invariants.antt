use Rattle.std.proofs.Common.{◌≡◌, false, map, take}
use Rattle.std.specs.List.{list_any}
use Rattle.wp_novel.specs.Marks.{is_late}
use Rattle.wp_novel.proofs.WalkLemmas.{single}
use Rattle.wp_novel.proofs.first.has_late_atom.Given as goal

abbrev pub invariant-loop-p : goal.invariant-loop-p
invariant-loop-p g l = record {
  same : l.shared ≡ l.fn.shared;
  none : list_any (is_late (g.P.Places.places l.index) l.fn.shared.marks l.number) (map (single) (take l.p-index l.atoms)) ≡ false;
}
