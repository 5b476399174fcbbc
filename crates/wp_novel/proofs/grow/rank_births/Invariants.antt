use Rattle.std.proofs.Common.{◌≡◌, length, take}
use Rattle.std.specs.List.{All}
use Rattle.wp_tuples.specs.Ranking.{Extends}
use Rattle.wp_novel.specs.Jobs.{AreHeld}
use Rattle.wp_novel.specs.Dealing.{IsOfPair}
use Rattle.wp_novel.proofs.grow.rank_births.Given as goal

abbrev pub invariant-loop-birth : goal.invariant-loop-birth
invariant-loop-birth l = record {
  extends : Extends l.fn.ranks l.ranks;
  count : length l.ranks.ranks ≡ length l.fn.ranks.ranks;
  held : All (IsOfPair l.pair (λ b. AreHeld l.ranks b.node.state)) (take l.birth-index l.births);
}
