-- An expansion as it is told: its event is that of the definition.
use Rattle.std.proofs.Common.{◌≡◌, ℕ, ◌+◌, List, [], ◌∷◌, map, refl, ap, ◌∙◌}
use Rattle.wp_task.specs.Novelty.{Generated, novelty_of}
use Rattle.wp_count.specs.declared.brood.Child.{Child}
use Rattle.wp_watch.specs.declared.event.Event.{Event}
use Rattle.wp_nodes.specs.declared.kept.Kept.{Kept}
use Rattle.wp_plain.specs.declared.settings.Settings.{Settings}
use Rattle.wp_plain.specs.Nodes.{Node}
use Rattle.wp_plain.specs.Expansion.{node_of, borns_of, event_of}
use Rattle.wp_plain.specs.Explored.{bare, numbered, all_numbered}
use Rattle.wp_commit.specs.declared.newborn.Newborn.{Newborn}
use Rattle.wp_commit.specs.Newborns.{newborns_of, born_as, event_as}
use Rattle.wp_commit.specs.Searched.{shown_kept, shown}

borns-told : (settings : Settings) (all : List Generated) (n : ℕ) (children : List Child) →
    map (born_as settings) (newborns_of settings.width all n children) ≡ borns_of (map bare children) (map (node_of settings all) (all_numbered n children))
borns-told settings all n [] = refl
borns-told settings all n (c ∷ children) =
    let first : Newborn = record { number = n; w = novelty_of settings.width all (numbered n c); child = c } in
    ap (λ l. born_as settings first ∷ l) (borns-told settings all (n + 1) children)

-- what is told of a kept node and its newborns is what the definition tells of the node and its children
pub event-told : (settings : Settings) (k : Kept) (node : Node) (repeats n : ℕ) (all : List Generated) (newborns : List Newborn) (children : List Child) →
    shown_kept k ≡ shown node → newborns ≡ newborns_of settings.width all n children →
    event_as settings k repeats newborns ≡ event_of node repeats (borns_of (map bare children) (map (node_of settings all) (all_numbered n children)))
event-told settings k node repeats n all newborns children same newborns_are =
    let born = ap (map (born_as settings)) newborns_are ∙ borns-told settings all n children in
    λ j. (let event : Event = record {
      number = (same j).0.number;
      w = (same j).1;
      g = (same j).0.counters.0;
      r = (same j).0.counters.1;
      repeats = repeats;
      born = born j;
    } in event)
