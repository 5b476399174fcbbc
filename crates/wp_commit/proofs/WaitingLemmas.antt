-- What waits after an expansion.
use Rattle.std.proofs.Common.{◌≡◌, ◌⊎◌, ℕ, true, List, ◌++◌, map, sym, subst, inl, inr, ⊎_elim}
use Rattle.std.specs.List.{Contains, filter}
use Rattle.wp_task.specs.Novelty.{Generated}
use Rattle.wp_task.proofs.Members.{In, In-from_Contains, Contains-from_In, In-map, In-map_cases, In-filter, In-filter_cases, In-append_left, In-append_right, In-append_cases}
use Rattle.wp_count.specs.declared.brood.Child.{Child}
use Rattle.wp_queue.specs.declared.queue.Waiting.{Waiting}
use Rattle.wp_plain.specs.declared.settings.Settings.{Settings}
use Rattle.wp_plain.specs.Nodes.{Node}
use Rattle.wp_plain.specs.Expansion.{node_of}
use Rattle.wp_plain.specs.Explored.{all_numbered}
use Rattle.wp_commit.specs.Newborns.{newborns_of, waiting_of, AreQueued}
use Rattle.wp_commit.specs.Searched.{IsWaiting, AreWaiting}
use Rattle.wp_commit.proofs.NewbornLemmas.{waiting_node, waiting-nodes, waits-kept}

-- a node that waits, and waits as x
abbrev Waits : List Node → Waiting → Type 0
Waits nodes x = (node : Node) × Contains nodes node × (node.waits ≡ true) × IsWaiting x node

module _ (settings : Settings) (all : List Generated) (n : ℕ) (cs : List Child) where
  abbrev born : List Node
  born = map (node_of settings all) (all_numbered n cs)

  newborn-waits : (x : Waiting) → Contains (waiting_of settings (newborns_of settings.width all n cs)) x → Waits born x
  newborn-waits x there =
      let among : In x (map waiting_node (filter (λ y. y.waits) born)) =
      subst (In x) (sym (waiting-nodes settings all n cs)) (In-from_Contains x (waiting_of settings (newborns_of settings.width all n cs)) there) in
      let found : (y : Node) × In y (filter (λ y. y.waits) born) × (x ≡ waiting_node y) = In-map_cases waiting_node (filter (λ y. y.waits) born) x among in
      let parts = In-filter_cases (λ (y : Node). y.waits) born found.0 found.1 in
      (found.0, Contains-from_In found.0 born parts.0, parts.1, found.2)

  newborn-queued : (x : Waiting) (node : Node) → In node born → node.waits ≡ true → IsWaiting x node →
      Contains (waiting_of settings (newborns_of settings.width all n cs)) x
  newborn-queued x node there waits is =
      let among : In (waiting_node node) (map waiting_node (filter (λ y. y.waits) born)) =
      In-map waiting_node (filter (λ y. y.waits) born) node (In-filter (λ (y : Node). y.waits) born node there waits) in
      Contains-from_In x (waiting_of settings (newborns_of settings.width all n cs))
      (subst (λ y. In y (waiting_of settings (newborns_of settings.width all n cs))) (sym is)
      (subst (In (waiting_node node)) (waiting-nodes settings all n cs) among))

  pub waiting-later : (earlier : List Node) (queue later : List Waiting) → AreWaiting queue earlier →
      AreQueued queue (waiting_of settings (newborns_of settings.width all n cs)) later → AreWaiting later (earlier ++ born)
  waiting-later earlier queue later before queued = record {
    waits = λ x. (
      (λ there. ⊎_elim
          (λ (old : Contains queue x).
          let found : Waits earlier x = (before.waits x).0 old in
          let kept : Waits (earlier ++ born) x = (
            found.0,
            Contains-from_In found.0 (earlier ++ born) (In-append_left earlier born found.0 (In-from_Contains found.0 earlier found.1)),
            found.2,
            found.3,
          ) in kept)
          (λ (new : Contains (waiting_of settings (newborns_of settings.width all n cs)) x).
          let found : Waits born x = newborn-waits x new in
          let kept : Waits (earlier ++ born) x = (
            found.0,
            Contains-from_In found.0 (earlier ++ born) (In-append_right earlier born found.0 (In-from_Contains found.0 born found.1)),
            found.2,
            found.3,
          ) in kept)
          ((queued.has x).0 there)),
      (λ (found : Waits (earlier ++ born) x). (queued.has x).1 (⊎_elim
          (λ (old : In found.0 earlier).
          let there : Contains queue x ⊎ Contains (waiting_of settings (newborns_of settings.width all n cs)) x =
          inl ((before.waits x).1 (found.0, Contains-from_In found.0 earlier old, found.2, found.3)) in there)
          (λ (new : In found.0 born).
          let there : Contains queue x ⊎ Contains (waiting_of settings (newborns_of settings.width all n cs)) x =
          inr (newborn-queued x found.0 new found.2 found.3) in there)
          (In-append_cases earlier born found.0 (In-from_Contains found.0 (earlier ++ born) found.1)))),
    );
    kept = λ node there waits. ⊎_elim
        (λ (old : In node earlier). before.kept node (Contains-from_In node earlier old) waits)
        (λ (new : In node born). waits-kept settings all (all_numbered n cs) node new waits)
        (In-append_cases earlier born node (In-from_Contains node (earlier ++ born) there));
  }
