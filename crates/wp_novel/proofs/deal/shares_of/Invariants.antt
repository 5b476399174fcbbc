use Rattle.std.proofs.Common.{◌≡◌, ◌+◌, ◌≤◌, ◌++◌, [], length, All}
use Rattle.wp_novel.specs.Dealing.{births_in, AreRoomy}
use Rattle.wp_novel.proofs.deal.shares_of.Given as goal

abbrev pub invariant-loop-made : goal.invariant-loop-made
invariant-loop-made l = record {
  births : births_in l.shares.items ++ l.births.items ≡ l.fn.births.items;
  made : length l.shares.items ≡ l.made;
  roomy : All AreRoomy l.shares.items;
  left : l.count ≤ l.made + length l.births.items;
  within : l.made ≤ l.count;
  none : l.made ≡ l.count → l.births.items ≡ [];
}
