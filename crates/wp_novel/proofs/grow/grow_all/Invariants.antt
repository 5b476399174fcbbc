use Rattle.std.proofs.Common.{ℕ, List}
use Rattle.std.specs.Prelude.{IsSome}
use Rattle.std.specs.List.{All}
use Rattle.std.specs.Vec.Iter.{into_iter_items}
use Rattle.wp_novel.specs.Births.{BirthView}
use Rattle.wp_novel.specs.NoveltyTables.{home_of}
use Rattle.wp_novel.specs.Dealing.{AreOver, AreGrowths}
use Rattle.wp_novel.proofs.GrowthLemmas.{Partly}
use Rattle.wp_novel.proofs.grow.grow_all.Given as goal

abbrev pub invariant-loop-growth : goal.invariant-loop-growth
invariant-loop-growth l = record {
  there : All (λ g. IsSome (home_of l.homes.entries g.pair)) (into_iter_items l.growth-iterator);
  partly : (atoms : ℕ) (births : List BirthView) → AreOver atoms l.fn.homes.entries births →
      AreGrowths atoms births l.fn.homes.entries births l.fn.growths.items → Partly atoms births l.fn.homes.entries l.homes.entries (into_iter_items l.growth-iterator);
}
