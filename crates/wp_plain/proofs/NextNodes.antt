-- The nodes and paths after an expansion: each node is one of before, or a child with the path to it.
use Rattle.std.proofs.Common.{◌≡◌, ◌⊎◌, ℕ, suc, ◌+◌, ◌<◌, Bool, true, List, [], ◌∷◌, ◌++◌, length, map, get_or, set, refl, sym, ap, ◌∙◌, subst, inl, inr, arith, length-append, length-set}
use Rattle.std.specs.List.{filter, range_with_len}
use Rattle.std.proofs.Math.Seq.{map-set_same}
use Rattle.std.proofs.lemmas.List.{map-append, length-map, get_or-append-add, get_or_append_left}
use Rattle.std.proofs.lemmas.List.Elements.{All-contains, filter-append}
use Rattle.std.proofs.lemmas.List.FromFn.{get_or-range_with_len, length-range_with_len}
use Rattle.wp_task.specs.declared.acts.Act.{Act}
use Rattle.wp_task.specs.Task.{PlanningTask, act_at, applies, applicable_in, result_of}
use Rattle.wp_task.specs.Novelty.{Generated, novelty_of}
use Rattle.wp_task.proofs.Members.{In-from_Contains, In, In-at, Contains-from_In, In-map, In-map_cases, In-filter, In-filter_cases, In-append_cases}
use Rattle.wp_task.proofs.TaskLemmas.{range_below}
use Rattle.wp_plain.specs.declared.settings.Settings.{Settings}
use Rattle.wp_plain.specs.Nodes.{Node, left, Path, Successor, no_path, path_at, extended, generated_in, states_kept}
use Rattle.wp_plain.specs.Expansion.{path_counters, successors_of, generated_at, fresh_of, with_novelty, node_of}
use Rattle.wp_plain.specs.Run.{Moment, expanded, fresh_at, children_at, all_at, nodes_at, repeats_at}
use Rattle.wp_plain.specs.Numbers.{CountUp, IsNumbered, NodesAreNumbered}
use Rattle.wp_plain.proofs.NumberLemmas.{number_below, one_node, node_there, CountUp-append, CountUp-set, In-set_cases, kept-set}

-- ---- numbers of a range
pub In-range : (n q : ℕ) → q < n → In q (range_with_len 0 n)
In-range n q below =
    let place : get_or (range_with_len 0 n) q q ≡ q = get_or-range_with_len 0 n q q below ∙ (let e : 0 + q ≡ q = omega arith in e) in
    In-at q (range_with_len 0 n) q (omega (arith, length-range_with_len 0 n)) place

pub In-range_below : (n q : ℕ) → In q (range_with_len 0 n) → q < n
In-range_below n q there = All-contains (λ k. k < n) (range_with_len 0 n) q (range_below n) (Contains-from_In q (range_with_len 0 n) there)

-- ---- successors
pub record IsSuccessorBy (acts : List Act) (state : List Bool) (x : Successor) : Type 0 where
  pub number : x.act < length acts
  pub applied : applies (act_at acts x.act) state ≡ true
  pub state_is : x.state ≡ result_of (act_at acts x.act) state

pub successor_by : (acts : List Act) (state : List Bool) (x : Successor) → In x (successors_of acts state) → IsSuccessorBy acts state x
successor_by acts state x there =
    let made : Successor → ℕ → Type 0 = λ y a. y ≡ record { act = a; state = result_of (act_at acts a) state } in
    let found : (a : ℕ) × In a (applicable_in acts state) × made x a =
    In-map_cases (λ a. record { act = a; state = result_of (act_at acts a) state }) (applicable_in acts state) x there in
    let parts = In-filter_cases (λ a. applies (act_at acts a) state) (range_with_len 0 (length acts)) found.0 found.1 in
    let number : x.act ≡ found.0 = ap (λ y. y.act) found.2 in
    record {
      number = subst (λ a. a < length acts) (sym number) (In-range_below (length acts) found.0 parts.0);
      applied = ap (λ a. applies (act_at acts a) state) number ∙ parts.1;
      state_is = ap (λ y. y.state) found.2 ∙ ap (λ a. result_of (act_at acts a) state) (sym number);
    }

pub successor_there : (acts : List Act) (state : List Bool) (a : ℕ) → a < length acts → applies (act_at acts a) state ≡ true →
    In (record { act = a; state = result_of (act_at acts a) state }) (successors_of acts state)
successor_there acts state a within applied =
    In-map (λ b. record { act = b; state = result_of (act_at acts b) state }) (applicable_in acts state) a
    (In-filter (λ b. applies (act_at acts b) state) (range_with_len 0 (length acts)) a (In-range (length acts) a within) applied)

-- ---- children
module _ (counters : List (List Bool) → ℕ × ℕ) (settings : Settings) (all : List Generated) (p : Path) where
  -- the node is that of the fresh successor x, which has the place i
  pub record IsChild (number : ℕ) (xs : List Successor) (y : Node) : Type 0 where
    pub place : ℕ
    pub from : Successor
    pub there : In from xs
    pub within : place < length xs
    pub path : get_or (map (extended p) xs) place no_path ≡ extended p from
    pub novelty : ℕ
    pub novelty_is : novelty ≡ novelty_of settings.width all (generated_at counters p.states (number + place) from.state)
    pub is : y ≡ with_novelty settings (generated_at counters p.states (number + place) from.state) novelty

  pub child_at : (number : ℕ) (xs : List Successor) (y : Node) →
      In y (map (node_of settings all) (fresh_of counters p.states number xs)) → IsChild number xs y
  child_at number [] y there = absurd there
  child_at number (x ∷ xs) y (inl same) =
      let none : number ≡ number + 0 = omega arith in
      record {
        place = 0;
        from = x;
        there = inl refl;
        within = omega arith;
        path = refl;
        novelty = novelty_of settings.width all (generated_at counters p.states (number + 0) x.state);
        novelty_is = refl;
        is = same ∙ ap (λ k. node_of settings all (generated_at counters p.states k x.state)) none;
      }
  child_at number (x ∷ xs) y (inr later) =
      let rest = child_at (number + 1) xs y later in
      let next : number + 1 + rest.place ≡ number + suc rest.place = omega arith in
      let below : rest.place < length xs = rest.within in
      record {
        place = suc rest.place;
        from = rest.from;
        there = inr rest.there;
        within = omega arith;
        path = rest.path;
        novelty = rest.novelty;
        novelty_is = rest.novelty_is ∙ ap (λ k. novelty_of settings.width all (generated_at counters p.states k rest.from.state)) next;
        is = rest.is ∙ ap (λ k. with_novelty settings (generated_at counters p.states k rest.from.state) rest.novelty) next;
      }

  children-count : (number : ℕ) (xs : List Successor) → CountUp number (map (node_of settings all) (fresh_of counters p.states number xs))
  children-count number [] = tt
  children-count number (x ∷ xs) = (refl, children-count (number + 1) xs)

  pub length-children : (number : ℕ) (xs : List Successor) → length (map (node_of settings all) (fresh_of counters p.states number xs)) ≡ length xs
  length-children number [] = refl
  length-children number (x ∷ xs) = ap suc (length-children (number + 1) xs)

  -- each fresh state is that of a child
  pub child_for : (number : ℕ) (xs : List Successor) (s : List Bool) → In s (map (λ x. x.state) xs) →
      In s (map (λ n. n.generated.state) (map (node_of settings all) (fresh_of counters p.states number xs)))
  child_for number [] s there = absurd there
  child_for number (x ∷ xs) s (inl same) = inl same
  child_for number (x ∷ xs) s (inr later) = inr (child_for (number + 1) xs s later)

generated_in-nodes : (settings : Settings) (all gs : List Generated) → generated_in (map (node_of settings all) gs) ≡ gs
generated_in-nodes settings all [] = refl
generated_in-nodes settings all (g ∷ gs) = ap (λ l. g ∷ l) (generated_in-nodes settings all gs)

-- ---- moments
module _ (task : PlanningTask) (settings : Settings) (m : Moment) (node : Node) (numbered : IsNumbered m) (there : In node m.nodes) where
  abbrev pub next : Moment
  next = expanded m node (repeats_at task m node) (fresh_at task m node) (nodes_at task settings m node)

  abbrev pub path : Path
  path = path_at m.paths node.generated.number

  abbrev pub earlier : List Node
  earlier = set m.nodes node.generated.number (left node)

  number_within : node.generated.number < length m.nodes
  number_within = let below : node.generated.number < 0 + length m.nodes = number_below 0 m.nodes numbered.numbers node there in omega arith

  pub node-at : (d : Node) → get_or m.nodes node.generated.number d ≡ node
  node-at d =
      let place : node.generated.number ≡ 0 + node.generated.number = omega arith in
      node_there 0 m.nodes numbered.numbers node d node.generated.number there place

  pub generated-next : generated_in next.nodes ≡ all_at task m node
  generated-next =
      map-append (λ n. n.generated) earlier (nodes_at task settings m node)
      ∙ (λ j. map-set_same (λ n. n.generated) m.nodes node.generated.number (left node) node (ap (λ n. n.generated) (sym (node-at node))) j
      ++ generated_in-nodes settings (all_at task m node) (children_at task m node) j)

  pub states-next : states_kept next.nodes ≡ states_kept m.nodes ++ states_kept (nodes_at task settings m node)
  states-next =
      ap (map (λ n. n.generated.state)) (filter-append (λ n. n.kept) earlier (nodes_at task settings m node))
      ∙ (map-append (λ n. n.generated.state) (filter (λ n. n.kept) earlier) (filter (λ n. n.kept) (nodes_at task settings m node))
      ∙ ap (λ l. l ++ states_kept (nodes_at task settings m node))
      (kept-set (λ n. n.generated.state) (λ n. n.kept) m.nodes node.generated.number (left node) node (node-at node) refl refl))

  pub numbered-next : IsNumbered next
  numbered-next =
      let kept : length earlier ≡ length m.nodes = length-set m.nodes node.generated.number (left node) in
      let place : node.generated.number ≡ 0 + node.generated.number = omega arith in
      let from : length m.nodes ≡ 0 + length earlier = omega arith in
      let paths : length (m.paths ++ map (extended path) (fresh_at task m node)) ≡ length m.paths + length (map (extended path) (fresh_at task m node)) =
      length-append m.paths (map (extended path) (fresh_at task m node)) in
      let made : length (map (extended path) (fresh_at task m node)) ≡ length (fresh_at task m node) = length-map (fresh_at task m node) (extended path) in
      let nodes : length (earlier ++ nodes_at task settings m node) ≡ length earlier + length (nodes_at task settings m node) =
      length-append earlier (nodes_at task settings m node) in
      let children : length (nodes_at task settings m node) ≡ length (fresh_at task m node) =
      length-children (path_counters task) settings (all_at task m node) path (length m.nodes) (fresh_at task m node) in
      let count : length m.paths ≡ length m.nodes = numbered.count in
      record {
        count = omega arith;
        numbers = CountUp-append 0 earlier (nodes_at task settings m node)
            (CountUp-set 0 m.nodes node.generated.number (left node) numbered.numbers place)
            (subst (λ k. CountUp k (nodes_at task settings m node)) from
            (children-count (path_counters task) settings (all_at task m node) path (length m.nodes) (fresh_at task m node)));
      }

  -- a node of the next moment: the expanded one, an older one, or a child
  pub data IsNext (y : Node) : Type 0 where
    expanded_one : (is : y ≡ left node) → IsNext y
    older : (there : In y m.nodes) → IsNext y
    child : (born : IsChild (path_counters task) settings (all_at task m node) path (length m.nodes) (fresh_at task m node) y) → IsNext y

  pub next_cases : (y : Node) → In y next.nodes → IsNext y
  next_cases y there = by (In-append_cases earlier (nodes_at task settings m node) y there) where
    at : (y ≡ left node) ⊎ In y m.nodes → IsNext y
    at (inl is) = expanded_one is
    at (inr there) = older there

    by : In y earlier ⊎ In y (nodes_at task settings m node) → IsNext y
    by (inl before) = at (In-set_cases m.nodes node.generated.number (left node) y before)
    by (inr new) = child (child_at (path_counters task) settings (all_at task m node) path (length m.nodes) (fresh_at task m node) y new)

  -- ---- paths
  pub path-older : (y : Node) → In y m.nodes → path_at next.paths y.generated.number ≡ path_at m.paths y.generated.number
  path-older y there =
      let below : y.generated.number < 0 + length m.nodes = number_below 0 m.nodes numbered.numbers y there in
      let count : length m.paths ≡ length m.nodes = numbered.count in
      get_or_append_left m.paths (map (extended path) (fresh_at task m node)) no_path y.generated.number (omega arith)

  pub path-child : (y : Node) (born : IsChild (path_counters task) settings (all_at task m node) path (length m.nodes) (fresh_at task m node) y) →
      path_at next.paths y.generated.number ≡ extended path born.from
  path-child y born =
      let count : length m.paths ≡ length m.nodes = numbered.count in
      let number : y.generated.number ≡ length m.nodes + born.place = ap (λ n. n.generated.number) born.is in
      let place : y.generated.number ≡ length m.paths + born.place = omega arith in
      ap (path_at next.paths) place
      ∙ (get_or-append-add m.paths (map (extended path) (fresh_at task m node)) born.place no_path ∙ born.path)

-- ---- numbers stay places
pub nodes_are_numbered : NodesAreNumbered
nodes_are_numbered = record {
  below = λ m x numbered there.
      let below : x.generated.number < 0 + length m.nodes = number_below 0 m.nodes numbered.numbers x (In-from_Contains x m.nodes there) in
      omega arith;
  one = λ m x y numbered there also.
      one_node 0 m.nodes numbered.numbers x y (In-from_Contains x m.nodes there) (In-from_Contains y m.nodes also);
  stays = λ task settings m node numbered there.
      let among = In-from_Contains node m.nodes there in
      record {
        place = node-at task settings m node numbered among;
        numbered = numbered-next task settings m node numbered among;
        generated = generated-next task settings m node numbered among;
        kept = states-next task settings m node numbered among;
        children = length-children (path_counters task) settings (all_at task m node) (path_at m.paths node.generated.number) (length m.nodes) (fresh_at task m node);
      };
}
