-- What the lists tell of an expansion is the definition's event.
use Rattle.std.proofs.Common.{◌≡◌, ℕ, false, suc, ◌+◌, ◌<◌, List, [], ◌∷◌, ◌++◌, length, map, drop, set, refl, sym, ap, ◌∙◌, subst, length-append, length-set, append_assoc, arith}
use Rattle.std.specs.Prelude.{OnOk, Result}
use Rattle.std.proofs.Math.Seq.{drop-append_seam}
use Rattle.std.proofs.lemmas.List.{append-nil, length-map, get_or-set_same, get_or_append_left}
use Rattle.wp_task.specs.Novelty.{Generated}
use Rattle.wp_count.specs.declared.brood.Child.{Child}
use Rattle.wp_watch.specs.declared.event.Born.{Born}
use Rattle.wp_watch.specs.declared.event.Event.{Event}
use Rattle.wp_watch.specs.Places.{Place, told_place}
use Rattle.wp_plain.specs.declared.settings.Settings.{Settings}
use Rattle.wp_plain.specs.declared.explored.Way.{Way}
use Rattle.wp_plain.specs.Nodes.{Node, generated_in}
use Rattle.wp_plain.specs.Expansion.{node_of, born_of, borns_of, event_of}
use Rattle.wp_plain.specs.Explored.{no_node, node_at, way_at, way_of, act_of, bare, all_numbered, borns_by, event_at, expanded_at, with_child, with_children, without_waiting, Lists}
use Rattle.wp_plain.proofs.NodeLemmas.{nodes-children, generated_in-set}

-- ---- by the actions alone
abbrev borns_at : List Node → List ℕ → List Born
borns_at [] acts = []
borns_at (node ∷ nodes) [] = []
borns_at (node ∷ nodes) (act ∷ acts) = born_of (record { act = act; state = node.generated.state }) node ∷ borns_at nodes acts

borns_by-acts : (nodes : List Node) (ways : List Way) → borns_by nodes ways ≡ borns_at nodes (map (λ w. act_of w.back) ways)
borns_by-acts [] ways = refl
borns_by-acts (node ∷ nodes) [] = refl
borns_by-acts (node ∷ nodes) (way ∷ ways) =
    ap (λ l. born_of (record { act = act_of way.back; state = node.generated.state }) node ∷ l) (borns_by-acts nodes ways)

borns_of-acts : (nodes : List Node) (cs : List Child) → borns_of (map bare cs) nodes ≡ borns_at nodes (map (λ c. c.act) cs)
borns_of-acts [] [] = refl
borns_of-acts [] (c ∷ cs) = refl
borns_of-acts (node ∷ nodes) [] = refl
borns_of-acts (node ∷ nodes) (c ∷ cs) =
    ap (λ l. born_of (bare c) node ∷ l) (borns_of-acts nodes cs)

-- ---- lengths
pub length-numbered : (n : ℕ) (cs : List Child) → length (all_numbered n cs) ≡ length cs
length-numbered n [] = refl
length-numbered n (c ∷ cs) = ap suc (length-numbered (n + 1) cs)

pub length-borns : (settings : Settings) (all : List Generated) (n : ℕ) (cs : List Child) →
    length (borns_of (map bare cs) (map (node_of settings all) (all_numbered n cs))) ≡ length cs
length-borns settings all n [] = refl
length-borns settings all n (c ∷ cs) = ap suc (length-borns settings all (n + 1) cs)

-- ---- the ways to the children
module _ (settings : Settings) (parent track : ℕ) where
  ways-children : (lists : Lists) (cs : List Child) →
      (ways : List Way) × ((with_children settings parent track lists cs).ways ≡ lists.ways ++ ways) × (map (λ w. act_of w.back) ways ≡ map (λ c. c.act) cs)
  ways-children lists [] = ([], sym (append-nil lists.ways), refl)
  ways-children lists (c ∷ cs) =
      let rest = ways-children (with_child settings parent track lists c) cs in
      let way = way_of (length lists.tracks) parent track c in
      (way ∷ rest.0, rest.1 ∙ append_assoc lists.ways (way ∷ []) rest.0, ap (λ l. c.act ∷ l) rest.2)

  -- each list is longer by one for each child
  ways-longer : (lists : Lists) (cs : List Child) → length (with_children settings parent track lists cs).ways ≡ length lists.ways + length cs
  ways-longer lists [] = omega arith
  ways-longer lists (c ∷ cs) =
      let way = way_of (length lists.tracks) parent track c in
      let rest : length (with_children settings parent track (with_child settings parent track lists c) cs).ways ≡ length (lists.ways ++ way ∷ []) + length cs =
      ways-longer (with_child settings parent track lists c) cs in
      omega (arith, rest, length-append lists.ways (way ∷ []))

  nodes-longer : (lists : Lists) (cs : List Child) → length (with_children settings parent track lists cs).nodes ≡ length lists.nodes + length cs
  nodes-longer lists cs =
      let n = length lists.nodes in
      let all = generated_in lists.nodes ++ all_numbered n cs in
      ap length (nodes-children settings parent track lists cs)
      ∙ (length-append lists.nodes (map (node_of settings all) (all_numbered n cs))
      ∙ ap (λ (k : ℕ). n + k) (length-map (all_numbered n cs) (node_of settings all) ∙ length-numbered n cs))

-- ---- after an expansion
module _ (settings : Settings) (place : ℕ) (lists : Lists) (cs : List Child) where
  pub nodes-expanded : length (expanded_at settings place lists cs).nodes ≡ length lists.nodes + length cs
  nodes-expanded =
      nodes-longer settings place (way_at lists.ways place).mark.track (without_waiting place lists) cs
      ∙ ap (λ (n : ℕ). n + length cs) (length-set lists.nodes place (record (node_at lists.nodes place) { waits = false }))

  pub ways-expanded : length (expanded_at settings place lists cs).ways ≡ length lists.ways + length cs
  ways-expanded = ways-longer settings place (way_at lists.ways place).mark.track (without_waiting place lists) cs

  pub event-expanded : (repeats : ℕ) → place < length lists.nodes → length lists.ways ≡ length lists.nodes →
      event_at (expanded_at settings place lists cs) place repeats (length lists.nodes) ≡
      event_of (node_at lists.nodes place) repeats
      (borns_of (map bare cs) (map (node_of settings (generated_in lists.nodes ++ all_numbered (length lists.nodes) cs)) (all_numbered (length lists.nodes) cs)))
  event-expanded repeats within each =
      let nodes = lists.nodes in
      let n = length nodes in
      let x : Node = record (node_at nodes place) { waits = false } in
      let left = set nodes place x in
      let track = (way_at lists.ways place).mark.track in
      let later = expanded_at settings place lists cs in
      let all = generated_in nodes ++ all_numbered n cs in
      let children = map (node_of settings all) (all_numbered n cs) in
      let len : length left ≡ n = length-set nodes place x in
      let same : generated_in left ≡ generated_in nodes = generated_in-set nodes place no_node x refl in
      let ways = ways-children settings place track (without_waiting place lists) cs in
      let nodes_are : later.nodes ≡ left ++ children =
      nodes-children settings place track (without_waiting place lists) cs
      ∙ (λ j. left ++ map (node_of settings (same j ++ all_numbered (len j) cs)) (all_numbered (len j) cs)) in
      let new_nodes : drop n later.nodes ≡ children =
      (λ j. drop (sym len j) (nodes_are j)) ∙ drop-append_seam left children in
      let new_ways : drop n later.ways ≡ ways.0 =
      (λ j. drop (sym each j) (ways.1 j)) ∙ drop-append_seam lists.ways ways.0 in
      let here : node_at later.nodes place ≡ x =
      ap (λ l. node_at l place) nodes_are
      ∙ (get_or_append_left left children no_node place (omega (arith, within, len)) ∙ get_or-set_same nodes place x no_node within) in
      let born : borns_by (drop n later.nodes) (drop n later.ways) ≡ borns_of (map bare cs) children =
      (λ j. borns_by (new_nodes j) (new_ways j))
      ∙ (borns_by-acts children ways.0 ∙ (ap (borns_at children) ways.2 ∙ sym (borns_of-acts children cs))) in
      λ j. event_of (here j) repeats (born j)

pub told-same : {T E : Type 0} {event other : Event} (result : Result T E) (old now : List Place) → event ≡ other →
    OnOk result (now ≡ map (told_place event) old) → OnOk result (now ≡ map (told_place other) old)
told-same result old now same told = subst (λ x. OnOk result (now ≡ map (told_place x) old)) same told
