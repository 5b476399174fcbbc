use Rattle.std.proofs.Common.{◌≡◌, ◌+◌, ◌<◌, ◌^◌, List, length}
use Rattle.std.specs.Vec.Iter.{into_iter_items}
use Rattle.wp_queue.specs.declared.queue.Waiting.{Waiting}
use Rattle.wp_nodes.specs.KeptNodes.{IsKept}
use Rattle.wp_novel.specs.declared.birth.Pair.{Pair}
use Rattle.wp_commit.specs.declared.latest.Latest.{Latest}
use Rattle.wp_commit.specs.Latest.{AreNoted}
use Rattle.wp_commit.specs.Newborns.{with_newborns, waiting_of, AreNew, AreQueued}
use Rattle.wp_commit.proofs.keep.keep_all.Given as goal

abbrev pub invariant-loop-newborn : goal.invariant-loop-newborn
invariant-loop-newborn l = record {
  nodes : with_newborns l.settings l.parent l.track l.searched.nodes (into_iter_items l.newborn-iterator)
      ≡ with_newborns l.settings l.parent l.track l.fn.searched.nodes l.fn.newborns.items;
  queue : (new : List Waiting) → AreQueued l.searched.queue (waiting_of l.settings (into_iter_items l.newborn-iterator)) new →
      AreQueued l.fn.searched.queue (waiting_of l.settings l.fn.newborns.items) new;
  latest : (new : List (Pair × Latest)) → AreNoted (into_iter_items l.newborn-iterator) l.searched.latest.entries new →
      AreNoted l.fn.newborns.items l.fn.searched.latest.entries new;
  new : AreNew l.searched.nodes.kept (into_iter_items l.newborn-iterator);
  parent : IsKept l.searched.nodes.kept l.parent;
  track : l.track < length l.searched.nodes.tracks;
  few : l.searched.kept + length (into_iter_items l.newborn-iterator) < 2 ^ 64;
  kept : l.searched.kept + length l.fn.searched.nodes.kept ≡ l.fn.searched.kept + length l.searched.nodes.kept;
  numbered : l.searched.numbered ≡ l.fn.searched.numbered;
  expanded : l.searched.expanded ≡ l.fn.searched.expanded;
  repeats : l.searched.repeats ≡ l.fn.searched.repeats;
}
