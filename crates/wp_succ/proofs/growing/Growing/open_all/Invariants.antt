use Rattle.std.proofs.Common.{◌≡◌, ◌++◌, Bool, List, take}
use Rattle.wp_succ.specs.Growing.{atoms_on, reached_so_far, IsGrowing}
use Rattle.wp_succ.proofs.growing.Growing.open_all.Given as goal

abbrev pub invariant-loop-p : goal.invariant-loop-p
invariant-loop-p l = record {
  growing : IsGrowing l.self;
  way : atoms_on l.self.way.items ≡ atoms_on l.initial.self.way.items ++ take l.p-index l.atoms;
  same : (s : List Bool) → reached_so_far s l.self ≡ reached_so_far s l.initial.self;
}
