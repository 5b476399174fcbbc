-- The nodes that a search keeps are those that it has expanded and those that wait; so where none waits they are at most as many as
-- its budget allows expansions.
use Rattle.std.proofs.Common.{◌≡◌, ◌==◌, ℕ, zero, suc, ◌+◌, ◌<◌, ◌≤◌, Bool, true, false, cond, List, [], ◌∷◌, ◌++◌, Option, Some, None, length, map, set, filter, refl, sym, ap, ◌∙◌, subst, inl, inr, arith, Contains, MatchOption, length-append}
use Rattle.std.specs.List.{count_by}
use Rattle.std.proofs.lemmas.Bool.{cond-false}
use Rattle.std.proofs.lemmas.List.{length-map, length_push}
use Rattle.std.proofs.lemmas.List.Elements.{filter-append}
use Rattle.std.proofs.lemmas.List.Sums.{length-filter}
use Rattle.wp_task.specs.Task.{PlanningTask}
use Rattle.wp_task.specs.Novelty.{Generated}
use Rattle.wp_task.proofs.Members.{In, Contains-from_In}
use Rattle.wp_plain.specs.declared.settings.Settings.{Settings}
use Rattle.wp_plain.specs.declared.ending.How.{How}
use Rattle.wp_plain.specs.declared.ending.How.TheVariants.{Found, Emptied, Budget, Words}
use Rattle.wp_plain.specs.Nodes.{Node, path_at, states_kept, first_waiting, left, IsFirst, FirstIsLeast}
use Rattle.wp_plain.specs.Numbers.{IsNumbered, NodesAreNumbered, next_of}
use Rattle.wp_plain.specs.Pairs.{pairs_in, exceeds}
use Rattle.wp_plain.specs.Expansion.{borns_of, event_of, node_of}
use Rattle.wp_plain.specs.Run.{Moment, Outcome, fresh_at, all_at, nodes_at, children_at, repeats_at, expand, look_at, step, run_from, run, opening, ending_of}
use Rattle.wp_plain.specs.Run.Outcome.{Goes, Ends}
use Rattle.wp_plain.proofs.NumberLemmas.{fewer-set}
use Rattle.wp_cert.specs.Laws.{EmptiedKeepsFew}

abbrev waiting_in : List Node → List Node
waiting_in nodes = filter (λ n. n.waits) nodes

abbrev kept_in : List Node → List Node
kept_in nodes = filter (λ n. n.kept) nodes

record IsFew (m : Moment) : Type 0 where
  numbered : IsNumbered m
  few : length (kept_in m.nodes) ≤ length m.events + length (waiting_in m.nodes)

-- a child that is kept waits
alike : (settings : Settings) (all children : List Generated)
    → length (waiting_in (map (node_of settings all) children)) ≡ length (kept_in (map (node_of settings all) children))
alike settings all [] = refl
alike settings all (x ∷ xs) = by (node_of settings all x).kept (alike settings all xs) where
  by : (b : Bool) → length (waiting_in (map (node_of settings all) xs)) ≡ length (kept_in (map (node_of settings all) xs))
      → length (cond b (node_of settings all x ∷ waiting_in (map (node_of settings all) xs)) (waiting_in (map (node_of settings all) xs)))
      ≡ length (cond b (node_of settings all x ∷ kept_in (map (node_of settings all) xs)) (kept_in (map (node_of settings all) xs)))
  by true rest = ap suc rest
  by false rest = rest

few-next : NodesAreNumbered → (task : PlanningTask) (settings : Settings) (m : Moment) (node : Node) → IsFew m → Contains m.nodes node
    → node.waits ≡ true → IsFew (next_of task settings m node)
few-next numbers task settings m node is there waits =
    let number = node.generated.number in
    let stays = numbers.stays task settings m node is.numbered there in
    let earlier = set m.nodes number (left node) in
    let new = nodes_at task settings m node in
    let within : number < length m.nodes = numbers.below m node is.numbered there in
    let waited : length (waiting_in earlier) + 1 ≡ length (waiting_in m.nodes) =
    fewer-set (λ n. n.waits) m.nodes number (left node) node within (stays.place node) refl waits in
    let waiting : length (waiting_in (earlier ++ new)) ≡ length (waiting_in earlier) + length (waiting_in new) =
    ap length (filter-append (λ n. n.waits) earlier new) ∙ length-append (waiting_in earlier) (waiting_in new) in
    let same : length (waiting_in new) ≡ length (kept_in new) = alike settings (all_at task m node) (children_at task m node) in
    let states : length (states_kept (earlier ++ new)) ≡ length (states_kept m.nodes) + length (states_kept new) =
    ap length stays.kept ∙ length-append (states_kept m.nodes) (states_kept new) in
    let all : length (states_kept (earlier ++ new)) ≡ length (kept_in (earlier ++ new)) = length-map (kept_in (earlier ++ new)) (λ n. n.generated.state) in
    let old : length (states_kept m.nodes) ≡ length (kept_in m.nodes) = length-map (kept_in m.nodes) (λ n. n.generated.state) in
    let more : length (states_kept new) ≡ length (kept_in new) = length-map (kept_in new) (λ n. n.generated.state) in
    let told : length (m.events ++ event_of node (repeats_at task m node) (borns_of (fresh_at task m node) new) ∷ []) ≡ length m.events + 1 =
    length_push m.events (event_of node (repeats_at task m node) (borns_of (fresh_at task m node) new)) in
    let few : length (kept_in m.nodes) ≤ length m.events + length (waiting_in m.nodes) = is.few in
    let now : length (kept_in (earlier ++ new))
    ≤ length (m.events ++ event_of node (repeats_at task m node) (borns_of (fresh_at task m node) new) ∷ []) + length (waiting_in (earlier ++ new)) =
    omega (arith, few, told, more, old, all, states, same, waiting, waited) in
    record { numbered = stays.numbered; few = now }

few-opening : (task : PlanningTask) (settings : Settings) → IsFew (opening task settings)
few-opening task settings = record { numbered = record { count = refl; numbers = (refl, tt) }; few = omega arith }

none_passes : (nodes : List Node) → ((y : Node) → In y nodes → y.waits ≡ false) → length (waiting_in nodes) ≡ 0
none_passes [] none = refl
none_passes (x ∷ xs) none =
    ap length (cond-false x.waits (x ∷ waiting_in xs) (waiting_in xs) (none x (inl refl))) ∙ none_passes xs (λ y later. none y (inr later))

-- a step goes on from a node that waits; it ends so alone where none does
abbrev IsStep : PlanningTask → Settings → Moment → Outcome → Type 0
IsStep task settings m (Goes next) = (node : Node) × Contains m.nodes node × (node.waits ≡ true) × (next ≡ next_of task settings m node)
IsStep task settings m (Ends how) = how ≡ Emptied → (y : Node) → Contains m.nodes y → y.waits ≡ false

module _ (task : PlanningTask) (settings : Settings) (tuples : ℕ) (m : Moment) where
  at_expand : (node : Node) → Contains m.nodes node → node.waits ≡ true → IsStep task settings m (expand task settings tuples m node)
  at_expand node there waits = by (exceeds settings.words (length (pairs_in (all_at task m node))) tuples) where
    by : (b : Bool) → IsStep task settings m (elim b as (λ _. Outcome) [
      | true ↦ Ends (Words (length (pairs_in (all_at task m node))))
      | false ↦ Goes (next_of task settings m node)
    ])
    by true = λ same y among. cc
    by false = (node, there, waits, refl)

  at_budget : (node : Node) → Contains m.nodes node → node.waits ≡ true → (b : Bool)
      → IsStep task settings m (elim b as (λ _. Outcome) [ true ↦ Ends Budget | false ↦ expand task settings tuples m node ])
  at_budget node there waits true = λ same y among. cc
  at_budget node there waits false = at_expand node there waits

  at_goal : (node : Node) → Contains m.nodes node → node.waits ≡ true → (b : Bool)
      → IsStep task settings m (elim b as (λ _. Outcome) [
        | true ↦ Ends (Found (path_at m.paths node.generated.number).acts)
        | false ↦ elim (length m.events == settings.budget) as (λ _. Outcome) [ true ↦ Ends Budget | false ↦ expand task settings tuples m node ]
      ])
  at_goal node there waits true = λ same y among. cc
  at_goal node there waits false = at_budget node there waits (length m.events == settings.budget)

  at_look : (o : Option Node) → MatchOption o ((y : Node) → Contains m.nodes y → y.waits ≡ false) (IsFirst m.nodes)
      → IsStep task settings m (look_at task settings tuples m o)
  at_look None none = λ same. none
  at_look (Some node) first = at_goal node first.there first.waits (node.generated.counters.0 == 0)

few_from : NodesAreNumbered → FirstIsLeast → (task : PlanningTask) (settings : Settings) (tuples steps : ℕ) (m : Moment) → IsFew m
    → (run_from task settings tuples steps m).0 ≡ Emptied
    → length (kept_in (run_from task settings tuples steps m).1.nodes) + 1 ≤ length m.events + steps
few_from numbers least task settings tuples zero m is e = cc
few_from numbers least task settings tuples (suc steps) m is e =
    by (step task settings tuples m) (at_look task settings tuples m (first_waiting m.nodes) (least.found m.nodes))
    (few_from numbers least task settings tuples steps) e where
      by : (o : Outcome) → IsStep task settings m o
          → ((next : Moment) → IsFew next → (run_from task settings tuples steps next).0 ≡ Emptied
          → length (kept_in (run_from task settings tuples steps next).1.nodes) + 1 ≤ length next.events + steps)
          → (elim o as (λ _. How × Moment) [ Goes next ↦ run_from task settings tuples steps next | Ends how ↦ (how, m) ]).0 ≡ Emptied
          → length (kept_in (elim o as (λ _. How × Moment) [ Goes next ↦ run_from task settings tuples steps next | Ends how ↦ (how, m) ]).1.nodes) + 1
          ≤ length m.events + suc steps
      by (Goes next) (node, there, waits, next_is) rest ends =
          let count : length next.events ≡ length m.events + 1 =
          ap (λ n. length n.events) next_is
          ∙ length_push m.events (event_of node (repeats_at task m node) (borns_of (fresh_at task m node) (nodes_at task settings m node))) in
          let later : length (kept_in (run_from task settings tuples steps next).1.nodes) + 1 ≤ length next.events + steps =
          rest next (subst IsFew (sym next_is) (few-next numbers task settings m node is there waits)) ends in
          omega (arith, count, later)
      by (Ends how) none rest ends =
          let all_left : length (waiting_in m.nodes) ≡ 0 = none_passes m.nodes (λ y among. none ends y (Contains-from_In y m.nodes among)) in
          let few : length (kept_in m.nodes) ≤ length m.events + length (waiting_in m.nodes) = is.few in
          omega (arith, all_left, few)

pub emptied_keeps_few : NodesAreNumbered → FirstIsLeast → EmptiedKeepsFew
emptied_keeps_few numbers least task settings tuples emptied = by (exceeds settings.words 1 tuples) emptied where
  by : (b : Bool)
      → (elim b as (λ _. How × Moment) [
        | true ↦ (Words 1, opening task settings)
        | false ↦ run_from task settings tuples (settings.budget + 1) (opening task settings)
      ]).0 ≡ Emptied
      → count_by (λ n. n.kept) (elim b as (λ _. How × Moment) [
        | true ↦ (Words 1, opening task settings)
        | false ↦ run_from task settings tuples (settings.budget + 1) (opening task settings)
      ]).1.nodes ≤ settings.budget
  by true ends = cc
  by false ends =
      let m = (run_from task settings tuples (settings.budget + 1) (opening task settings)).1 in
      let few : length (kept_in m.nodes) + 1 ≤ 0 + (settings.budget + 1) =
      few_from numbers least task settings tuples (settings.budget + 1) (opening task settings) (few-opening task settings) ends in
      let counted : length (kept_in m.nodes) ≡ count_by (λ n. n.kept) m.nodes = length-filter (λ n. n.kept) m.nodes in
      omega (arith, few, counted)
