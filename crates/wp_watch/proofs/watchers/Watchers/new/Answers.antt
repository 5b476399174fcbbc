use Rattle.std.proofs.Common.{◌∙◌}
use Rattle.wp_watch.proofs.SlotLemmas.{first_places}
use Rattle.wp_watch.proofs.watchers.Watchers.new.Goals as goal

pub returns : goal.returns
returns g c = record { each = c.in_ok-slots.ensures.live ∙ first_places _ _ _ _ c.requires c.in_ok-slots.ensures.wants }
