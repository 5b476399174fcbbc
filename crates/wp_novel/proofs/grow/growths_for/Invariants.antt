use Rattle.std.proofs.Common.{◌≡◌, ℕ, take}
use Rattle.wp_novel.specs.Dealing.{AreOver, AreGrowths}
use Rattle.wp_novel.proofs.grow.growths_for.Given as goal

abbrev pub invariant-loop-birth : goal.invariant-loop-birth
invariant-loop-birth l = record {
  same : l.homes.entries ≡ l.fn.homes.entries;
  growths : (atoms : ℕ) → AreOver atoms l.fn.homes.entries l.births → AreGrowths atoms l.births l.fn.homes.entries (take l.birth-index l.births) l.growths.items;
}
