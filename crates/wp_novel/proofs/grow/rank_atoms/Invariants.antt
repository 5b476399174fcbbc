use Rattle.std.proofs.Common.{◌≡◌, true, length, take}
use Rattle.std.specs.List.{list_all}
use Rattle.wp_tuples.specs.Ranking.{is_held, Extends}
use Rattle.wp_novel.proofs.grow.rank_atoms.Given as goal

abbrev pub invariant-loop-p : goal.invariant-loop-p
invariant-loop-p l = record {
  width : l.ranks.width ≡ 2;
  extends : Extends l.fn.ranks l.ranks;
  count : length l.ranks.ranks ≡ length l.fn.ranks.ranks;
  held : list_all (is_held l.ranks) (take l.p-index l.atoms) ≡ true;
}
