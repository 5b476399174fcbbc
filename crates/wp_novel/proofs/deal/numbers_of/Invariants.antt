use Rattle.std.proofs.Common.{◌≡◌, take}
use Rattle.wp_novel.specs.Births.{numbers_of}
use Rattle.wp_novel.proofs.deal.numbers_of.Given as goal

abbrev pub invariant-loop-birth : goal.invariant-loop-birth
invariant-loop-birth l = l.numbers.items ≡ numbers_of (take l.birth-index l.births)
