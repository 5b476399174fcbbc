use Rattle.std.proofs.Common.{ℕ, ◌≤◌}
use Rattle.std.specs.Option.{ForSome}
use Rattle.std.proofs.lemmas.List.Elements.{All-push}
use Rattle.wp_watch.proofs.SlotLemmas.{map_push}
use Rattle.wp_watch.proofs.watchers.slots_of.Goals as goal

pub loop-watch-preserved : goal.loop-watch-preserved
loop-watch-preserved g c = record {
  places = map_push _ _ _ _ _ _ _ c.in_ok-push.ensures.items c.loop-watch.invariant.places c.of.ensures.live;
  wants = All-push (λ (b : _). ForSome ((goal.Watch-dyn g (b.vtable, b.value)).until b.value) (λ (count : ℕ). 1 ≤ count)) _ _ c.loop-watch.invariant.wants c.of.ensures.wants;
}
