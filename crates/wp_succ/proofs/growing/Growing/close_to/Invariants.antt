use Rattle.std.proofs.Common.{◌≡◌, Bool, List, take, length}
use Rattle.wp_succ.specs.Growing.{atoms_on, reached_so_far, IsGrowing}
use Rattle.wp_succ.proofs.growing.Growing.close_to.Given as goal

abbrev pub invariant-loop-self : goal.invariant-loop-self
invariant-loop-self l = record {
  growing : IsGrowing l.self;
  way : take l.count (atoms_on l.self.way.items) ≡ take l.count (atoms_on l.initial.self.way.items);
  same : (s : List Bool) → reached_so_far s l.self ≡ reached_so_far s l.initial.self;
}

abbrev pub decreases-loop-self : goal.decreases-loop-self
decreases-loop-self l = length l.self.way.items
