use Rattle.std.proofs.Common.{◌≡◌, ◌++◌, drop, map}
use Rattle.std.specs.List.{fold}
use Rattle.wp_novel.specs.NoveltyTables.{placed, counters_of, open_pairs}
use Rattle.wp_plain.specs.Pairs.{with_pair}
use Rattle.wp_plain.specs.Explored.{child_pair}
use Rattle.wp_commit.specs.Newborns.{AreUnopened}
use Rattle.wp_commit.proofs.pairs.new_pairs.Given as goal

abbrev pub invariant-loop-child : goal.invariant-loop-child
invariant-loop-child g l = record {
  pairs : fold with_pair (open_pairs (placed g.P.Places.places l.tables) ++ map counters_of l.pairs.keys) (map child_pair (drop l.child-index l.children))
      ≡ fold with_pair (open_pairs (placed g.P.Places.places l.tables)) (map child_pair l.children);
  unopened : AreUnopened (open_pairs (placed g.P.Places.places l.tables)) (map counters_of l.pairs.keys);
}
