use Rattle.std.proofs.Common.{◌≡◌, ◌++◌, drop, map}
use Rattle.wp_commit.specs.Newborns.{born_as}
use Rattle.wp_commit.proofs.telling.borns_of.Given as goal

abbrev pub invariant-loop-newborn : goal.invariant-loop-newborn
invariant-loop-newborn l =
    l.born.items ++ map (born_as l.settings) (drop l.newborn-index l.newborns) ≡ map (born_as l.settings) l.newborns
