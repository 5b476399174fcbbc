use Rattle.std.proofs.Common.{◌≡◌, ◌+◌, ◌*◌, ◌≤◌, ◌++◌, List, length, map}
use Rattle.std.specs.Vec.Iter.{into_iter_items}
use Rattle.wp_task.specs.Novelty.{Generated}
use Rattle.wp_novel.specs.NoveltyTables.{placed, counters_of, open_pairs, IsAtHome}
use Rattle.wp_novel.specs.StandsFor.{StandsFor}
use Rattle.wp_commit.specs.Newborns.{AreUnopened}
use Rattle.wp_commit.proofs.pairs.open_all.Given as goal

abbrev pub invariant-loop-pair : goal.invariant-loop-pair
invariant-loop-pair g l = record {
  unopened : AreUnopened (open_pairs (placed g.P.Places.places l.tables)) (map counters_of (into_iter_items l.pair-iterator));
  within : (length (open_pairs (placed g.P.Places.places l.tables)) + length (into_iter_items l.pair-iterator)) * (g.P.Places.places l.tables.index).len ≤ l.tables.limit;
  home : IsAtHome (placed g.P.Places.places l.tables);
  pairs : open_pairs (placed g.P.Places.places l.tables) ++ map counters_of (into_iter_items l.pair-iterator) ≡ open_pairs (placed g.P.Places.places l.fn.tables) ++ map counters_of l.fn.pairs.items;
  index : g.P.Places.places l.tables.index ≡ g.P.Places.places l.fn.tables.index;
  limit : l.tables.limit ≡ l.fn.tables.limit;
  last : l.tables.last ≡ l.fn.tables.last;
  stands : (births : List Generated) → StandsFor (placed g.P.Places.places l.fn.tables) births → StandsFor (placed g.P.Places.places l.tables) births;
}
