-- Where BFWS(f5) is left with no node that waits there is no plan.
use Rattle.std.proofs.Common.{◌≡◌, ◌⊎◌, ◌&&◌, ℕ, ◌<◌, Bool, true, false, List, [], ◌∷◌, Option, Some, None, length, map, nat_lt, refl, sym, ap, ◌∙◌, subst, inl, inr, Contains, filter}
use Rattle.std.proofs.lemmas.Bool.{and_parts, both_ways, false_from_ne_true, ltb-true}
use Rattle.std.specs.List.{list_all}
use Rattle.wp_task.specs.Set.{has}
use Rattle.wp_task.specs.Task.{PlanningTask, act_at, applies, has_goals, leads_to, result_of}
use Rattle.wp_task.proofs.Members.{In, In-from_Contains, Contains-from_In, In-map, In-map_cases, In-filter, In-filter_cases, In-append_left, In-append_right}
use Rattle.wp_plain.specs.declared.settings.Search.TheVariants.{F5}
use Rattle.wp_plain.specs.declared.settings.Settings.{Settings}
use Rattle.wp_plain.specs.declared.ending.How.TheVariants.{Emptied}
use Rattle.wp_plain.specs.Nodes.{Node, path_at, states_kept, left}
use Rattle.wp_plain.specs.Expansion.{path_counters, keeps, successors_of}
use Rattle.wp_plain.specs.Run.{Moment, opening, run, fresh_at, all_at, nodes_at}
use Rattle.wp_plain.specs.Laws.{IsClosed, EmptiedIsClosed, ClosedHasNoPlan, EmptiedHasNoPlan}
use Rattle.wp_plain.proofs.UnseenLemmas.{unseen_covers}
use Rattle.wp_plain.proofs.StepCases.{none_waits, IsEnd}
use Rattle.wp_plain.proofs.NextNodes.{IsNext, child_at, next, next_cases, states-next, successor_there, child_for}
use Rattle.wp_plain.proofs.NextNodes.IsNext.{expanded_one, older, child}
use Rattle.wp_plain.proofs.TraceLemmas.{AreTraced, Keeps, ended}
use Rattle.wp_plain.proofs.FoundLemmas.{none_unmet}

-- ---- states of nodes that are all kept
pub state_kept : (nodes : List Node) → ((x : Node) → In x nodes → x.kept ≡ true) → (s : List Bool) →
    In s (map (λ n. n.generated.state) nodes) → In s (states_kept nodes)
state_kept nodes kept s there =
    let found : (x : Node) × In x nodes × (s ≡ x.generated.state) = In-map_cases (λ n. n.generated.state) nodes s there in
    subst (λ t. In t (states_kept nodes)) (sym found.2)
    (In-map (λ n. n.generated.state) (filter (λ n. n.kept) nodes) found.0 (In-filter (λ n. n.kept) nodes found.0 found.1 (kept found.0 found.1)))

pub node_kept : (nodes : List Node) (s : List Bool) → In s (states_kept nodes) → (x : Node) × In x nodes × (s ≡ x.generated.state)
node_kept nodes s there =
    let found : (x : Node) × In x (filter (λ n. n.kept) nodes) × (s ≡ x.generated.state) =
    In-map_cases (λ n. n.generated.state) (filter (λ n. n.kept) nodes) s there in
    let among = In-filter_cases (λ n. n.kept) nodes found.0 found.1 in
    let answer : (x : Node) × In x nodes × (s ≡ x.generated.state) = (found.0, among.0, found.2) in
    answer

-- ---- nodes that wait no longer
-- the node has an unmet goal, and the states of all its successors are kept
pub record IsDone (task : PlanningTask) (nodes : List Node) (x : Node) : Type 0 where
  pub unmet : x.generated.counters.0 ≡ 0 → ⊥
  pub closed : (a : ℕ) → a < length task.acts → applies (act_at task.acts a) x.generated.state ≡ true →
      In (result_of (act_at task.acts a) x.generated.state) (states_kept nodes)

-- all nodes are kept, and each waits or is done
pub record IsOpen (task : PlanningTask) (m : Moment) : Type 0 where
  pub kept : (x : Node) → In x m.nodes → x.kept ≡ true
  pub start : In task.init (states_kept m.nodes)
  pub each : (x : Node) → In x m.nodes → (x.waits ≡ true) ⊎ IsDone task m.nodes x

module _ (task : PlanningTask) (settings : Settings) (f5 : settings.search ≡ F5) (m : Moment) (node : Node) (traced : AreTraced task m) (there : In node m.nodes) where
  abbrev after : Moment
  after = next task settings m node traced.numbered there

  child_kept : (y : Node) → In y (nodes_at task settings m node) → y.kept ≡ true
  child_kept y among =
      let born = child_at (path_counters task) settings (all_at task m node) (path_at m.paths node.generated.number) (length m.nodes) (fresh_at task m node) y among in
      ap (λ n. n.kept) born.is ∙ ap (λ s. keeps s settings.width born.novelty) f5

  in_next : (s : List Bool) → In s (states_kept m.nodes) ⊎ In s (states_kept (nodes_at task settings m node)) → In s (states_kept after.nodes)
  in_next s (inl old) =
      subst (λ l. In s l) (sym (states-next task settings m node traced.numbered there))
      (In-append_left (states_kept m.nodes) (states_kept (nodes_at task settings m node)) s old)
  in_next s (inr new) =
      subst (λ l. In s l) (sym (states-next task settings m node traced.numbered there))
      (In-append_right (states_kept m.nodes) (states_kept (nodes_at task settings m node)) s new)

  -- each state that an action leads to from the expanded node is kept
  successor_kept : (a : ℕ) → a < length task.acts → applies (act_at task.acts a) node.generated.state ≡ true →
      In (result_of (act_at task.acts a) node.generated.state) (states_kept after.nodes)
  successor_kept a within applied =
      in_next state (by (unseen_covers (λ x. x.state) (states_kept m.nodes) (successors_of task.acts node.generated.state)
      (record { act = a; state = state }) (successor_there task.acts node.generated.state a within applied))) where
        state : List Bool
        state = result_of (act_at task.acts a) node.generated.state

        by : In state (states_kept m.nodes) ⊎ In state (map (λ x. x.state) (fresh_at task m node)) →
            In state (states_kept m.nodes) ⊎ In state (states_kept (nodes_at task settings m node))
        by (inl old) = inl old
        by (inr new) = inr (state_kept (nodes_at task settings m node) child_kept state
            (child_for (path_counters task) settings (all_at task m node) (path_at m.paths node.generated.number) (length m.nodes) (fresh_at task m node) state new))

  open-next : IsOpen task m → (node.generated.counters.0 ≡ 0 → ⊥) → IsOpen task after
  open-next before unmet = record {
    kept = λ y among. kept_at y (next_cases task settings m node traced.numbered there y among);
    start = in_next task.init (inl before.start);
    each = λ y among. each_at y (next_cases task settings m node traced.numbered there y among);
  } where
    kept_at : (y : Node) → IsNext task settings m node traced.numbered there y → y.kept ≡ true
    kept_at y (expanded_one is) = ap (λ n. n.kept) is ∙ before.kept node there
    kept_at y (older among) = before.kept y among
    kept_at y (child born) = ap (λ n. n.kept) born.is ∙ ap (λ s. keeps s settings.width born.novelty) f5

    older_at : (y : Node) → (y.waits ≡ true) ⊎ IsDone task m.nodes y → (y.waits ≡ true) ⊎ IsDone task after.nodes y
    older_at y (inl waits) = inl waits
    older_at y (inr is_done) = inr (record {
      unmet = is_done.unmet;
      closed = λ a within applied. in_next (result_of (act_at task.acts a) y.generated.state) (inl (is_done.closed a within applied));
    })

    each_at : (y : Node) → IsNext task settings m node traced.numbered there y → (y.waits ≡ true) ⊎ IsDone task after.nodes y
    each_at y (expanded_one is) =
        let here : IsDone task after.nodes (left node) = record { unmet = unmet; closed = successor_kept } in
        inr (subst (IsDone task after.nodes) (sym is) here)
    each_at y (older among) = older_at y (before.each y among)
    each_at y (child born) = inl (ap (λ n. n.waits) born.is ∙ ap (λ s. keeps s settings.width born.novelty) f5)

pub open-opening : (task : PlanningTask) (settings : Settings) → IsOpen task (opening task settings)
open-opening task settings = record {
  kept = λ x. elim [ inl same ↦ ap (λ n. n.kept) same | inr none ↦ absurd none ];
  start = inl refl;
  each = λ x. elim [ inl same ↦ inl (ap (λ n. n.waits) same) | inr none ↦ absurd none ];
}

pub keeps-open : (task : PlanningTask) (settings : Settings) (tuples : ℕ) → settings.search ≡ F5 → Keeps task settings tuples (IsOpen task)
keeps-open task settings tuples f5 m node traced there before x = open-next task settings f5 m node traced there before x.unmet

-- ---- the laws
pub emptied_is_closed : EmptiedIsClosed
emptied_is_closed task settings tuples f5 is =
    let end = ended task settings tuples (IsOpen task) (open-opening task settings) (keeps-open task settings tuples f5) in
    let nodes = (run task settings tuples).1.nodes in
    let empty : IsEnd task settings tuples (run task settings tuples).1 Emptied = subst (IsEnd task settings tuples (run task settings tuples).1) is end.reason in
    let done_at : (x : Node) → In x nodes → IsDone task nodes x = λ x among. by x (none_waits nodes empty x among) (end.holds.each x among) in
    record {
      start = Contains-from_In task.init (states_kept nodes) end.holds.start;
      closed = λ state a kept within applied.
          let found = node_kept nodes state (In-from_Contains state (states_kept nodes) kept) in
          let here : In (result_of (act_at task.acts a) state) (states_kept nodes) =
          subst (λ s. In (result_of (act_at task.acts a) s) (states_kept nodes)) (sym found.2)
          ((done_at found.0 found.1).closed a within (ap (applies (act_at task.acts a)) (sym found.2) ∙ applied)) in
          Contains-from_In (result_of (act_at task.acts a) state) (states_kept nodes) here;
      unmet = λ state kept.
          let found = node_kept nodes state (In-from_Contains state (states_kept nodes) kept) in
          false_from_ne_true (list_all (has state) task.goals) (λ (all : list_all (has state) task.goals ≡ true).
          (done_at found.0 found.1).unmet
          ((end.traced.each found.0 found.1).unmet
          ∙ none_unmet task.goals found.0.generated.state (ap (λ s. list_all (has s) task.goals) (sym found.2) ∙ all)));
    } where
      by : (x : Node) → x.waits ≡ false → (x.waits ≡ true) ⊎ IsDone task (run task settings tuples).1.nodes x → IsDone task (run task settings tuples).1.nodes x
      by x rests (inl waits) = absurd (both_ways x.waits rests waits)
      by x rests (inr is_done) = is_done

stays_within : (task : PlanningTask) (states : List (List Bool)) → IsClosed task states → (plan : List ℕ) (state last : List Bool) →
    Contains states state → leads_to task.acts state plan ≡ Some last → Contains states last
stays_within task states closed [] state last within leads = let same : state ≡ last = cc in subst (Contains states) same within
stays_within task states closed (a ∷ plan) state last within leads =
    by (nat_lt a (length task.acts) && applies (act_at task.acts a) state) refl leads
    (stays_within task states closed plan (result_of (act_at task.acts a) state) last) where
      by : (t : Bool) → (nat_lt a (length task.acts) && applies (act_at task.acts a) state) ≡ t →
          elim t as (λ _. Option (List Bool)) [ true ↦ leads_to task.acts (result_of (act_at task.acts a) state) plan | false ↦ None ] ≡ Some last →
          (Contains states (result_of (act_at task.acts a) state) → leads_to task.acts (result_of (act_at task.acts a) state) plan ≡ Some last →
          Contains states last) → Contains states last
      by true passes is rest =
          let parts = and_parts (nat_lt a (length task.acts)) (applies (act_at task.acts a) state) passes in
          rest (closed.closed state a within (ltb-true a (length task.acts) parts.0) parts.1) is
      by false fails is rest = absurd (cc)

pub closed_has_no_plan : ClosedHasNoPlan
closed_has_no_plan task states closed plan = by (leads_to task.acts task.init plan) refl where
  by : (o : Option (List Bool)) → leads_to task.acts task.init plan ≡ o → has_goals task.goals o ≡ false
  by None leads = refl
  by (Some last) leads = closed.unmet last (stays_within task states closed plan task.init last closed.start leads)

pub emptied_has_no_plan : EmptiedHasNoPlan
emptied_has_no_plan task settings tuples f5 is =
    closed_has_no_plan task (states_kept (run task settings tuples).1.nodes) (emptied_is_closed task settings tuples f5 is)
