use Rattle.std.proofs.Common.{◌≡◌, ◌++◌, ℕ, List, length, map}
use Rattle.std.specs.List.{All}
use Rattle.std.specs.Vec.Iter.{into_iter_items}
use Rattle.wp_task.specs.Novelty.{Generated}
use Rattle.wp_count.specs.declared.brood.Child.{Child}
use Rattle.wp_novel.specs.Births.{nodes_of}
use Rattle.wp_novel.specs.NoveltyTables.{placed, IsAtHome}
use Rattle.wp_novel.specs.StandsFor.{StandsFor}
use Rattle.wp_plain.specs.Explored.{all_numbered}
use Rattle.wp_commit.specs.Newborns.{rest_of}
use Rattle.wp_commit.specs.Entering.{CanBeAsked}
use Rattle.wp_commit.proofs.BirthLemmas.{IsLeft}
use Rattle.wp_commit.proofs.births.newborns_of.Given as goal

abbrev pub invariant-loop-birth : goal.invariant-loop-birth
invariant-loop-birth g l = record {
  same : l.tables ≡ l.fn.tables;
  parts : length (into_iter_items l.rests) ≡ length (into_iter_items l.birth-iterator);
  home : IsAtHome (placed g.P.Places.places l.tables);
  asked : All (CanBeAsked (placed g.P.Places.places l.tables)) (into_iter_items l.birth-iterator);
  newborns : (nodes : List Generated) (first : ℕ) (children : List Child) →
      nodes_of l.fn.births.items ≡ all_numbered first children → l.fn.rests.items ≡ map rest_of children →
      StandsFor (placed g.P.Places.places l.tables) (nodes ++ all_numbered first children) →
      IsLeft (placed g.P.Places.places l.tables).index.width (nodes ++ all_numbered first children) first children l.newborns.items
      (into_iter_items l.birth-iterator) (into_iter_items l.rests);
}
