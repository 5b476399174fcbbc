-- The limits of a search: how many expansions there are, what has come about at a limit, and limits that are enough.
use Rattle.std.proofs.Common.{◌≡◌, ◌⊎◌, ℕ, zero, suc, ◌+◌, ◌-◌, ◌*◌, ◌/◌, ◌<◌, ◌≤◌, Bool, true, cond, List, [], ◌∷◌, ◌++◌, Some, length, map, set, get_or, refl, sym, ap, ◌∙◌, subst, inl, inr, arith, Contains, filter, length-append}
use Rattle.std.proofs.Math.Nat.{mul-suc}
use Rattle.std.proofs.lemmas.Nat.{mul-le}
use Rattle.std.proofs.lemmas.Bool.{ltb-true}
use Rattle.std.proofs.lemmas.List.{get_or_default, length-map, length_push}
use Rattle.std.proofs.lemmas.List.Elements.{filter-append}
use Rattle.std.proofs.lemmas.List.Sums.{length-filter}
use Rattle.wp_task.specs.Task.{PlanningTask, IsReachable}
use Rattle.wp_task.specs.Novelty.{Generated}
use Rattle.wp_task.proofs.Members.{In, In-from_Contains, Contains-from_In, In-filter, In-append_right}
use Rattle.wp_plain.specs.declared.settings.Search.TheVariants.{F5}
use Rattle.wp_plain.specs.declared.settings.Settings.{Settings}
use Rattle.wp_plain.specs.declared.ending.How.{How}
use Rattle.wp_plain.specs.declared.ending.How.TheVariants.{Found, Emptied, Budget, Words}
use Rattle.wp_plain.specs.Nodes.{Node, Successor, path_at, generated_in, states_kept, first_waiting, left}
use Rattle.wp_plain.specs.Pairs.{pairs_in, tuple_count, exceeds}
use Rattle.wp_plain.specs.Expansion.{path_counters, borns_of, event_of, successors_of, fresh_of, node_of}
use Rattle.wp_plain.specs.Run.{Moment, ending_of, opening, run, all_at, fresh_at, nodes_at, repeats_at}
use Rattle.wp_plain.specs.Laws.{AreStatesKept, ExpansionsAreFew, TuplesAreCounted, BudgetIsSpent, WordsAreExceeded, BudgetIsEnough, LimitsAreEnough}
use Rattle.wp_plain.proofs.TupleLemmas.{ones, twos, half}
use Rattle.wp_plain.proofs.StepCases.{first_there, first_waits, IsEnd}
use Rattle.wp_plain.proofs.NumberLemmas.{number_below, fewer-set}
use Rattle.wp_plain.proofs.NextNodes.{child_at, generated-next, next, node-at, states-next}
use Rattle.wp_plain.proofs.TraceLemmas.{AreTraced, Keeps, IsEnded, ended, traced-next}
use Rattle.wp_plain.proofs.EmptiedLemmas.{IsOpen, emptied_is_closed, keeps-open, node_kept, open-opening}
use Rattle.wp_plain.proofs.CounterPairs.{traced-few}
use Rattle.wp_plain.proofs.Pigeons.{AreApart, AreApart-append, apart_pairs, pigeons}
use Rattle.wp_plain.proofs.SparseLemmas.{kept_at_end}
use Rattle.wp_plain.proofs.UnseenLemmas.{unseen-apart, unseen-new}

-- ---- how many tuples there are
pub tuples_are_counted : TuplesAreCounted
tuples_are_counted atoms = (ones atoms, by atoms (twos atoms)) where
  by : (n : ℕ) → 2 * tuple_count 2 n ≡ n * n + n → tuple_count 2 n ≡ n + n * (n - 1) / 2
  by zero twice = omega arith
  by (suc k) twice =
      let less : suc k - 1 ≡ k = omega arith in
      let product : suc k * (suc k - 1) ≡ suc k * k = ap (λ i. suc k * i) less in
      let square : suc k * suc k ≡ suc k * k + suc k = mul-suc (suc k) k in
      let rest : suc k * (suc k - 1) / 2 ≡ tuple_count 2 (suc k) - suc k =
      half (tuple_count 2 (suc k) - suc k) (suc k * (suc k - 1)) (omega arith) in
      omega arith

-- ---- each expansion takes a waiting node, and the nodes that wait are kept
pub record AreSpent (m : Moment) : Type 0 where
  pub few : length m.events + length (filter (λ n. n.waits) m.nodes) ≤ length (filter (λ n. n.kept) m.nodes)

filter_alike : {X : Type 0} (p q : X → Bool) (xs : List X) → ((x : X) → In x xs → p x ≡ q x) → filter p xs ≡ filter q xs
filter_alike p q [] same = refl
filter_alike p q (x ∷ xs) same =
    λ j. cond (same x (inl refl) j) (x ∷ filter_alike p q xs (λ y later. same y (inr later)) j) (filter_alike p q xs (λ y later. same y (inr later)) j)

pub keeps-spent : (task : PlanningTask) (settings : Settings) (tuples : ℕ) → Keeps task settings tuples AreSpent
keeps-spent task settings tuples m node traced there before x =
    let number = node.generated.number in
    let earlier = set m.nodes number (left node) in
    let new = nodes_at task settings m node in
    let within : number < 0 + length m.nodes = number_below 0 m.nodes traced.numbered.numbers node there in
    let waited : length (filter (λ n. n.waits) earlier) + 1 ≡ length (filter (λ n. n.waits) m.nodes) =
    fewer-set (λ n. n.waits) m.nodes number (left node) node (omega arith) (node-at task settings m node traced.numbered there node) refl
    (first_waits m.nodes node x.first) in
    let waiting : length (filter (λ n. n.waits) (earlier ++ new)) ≡ length (filter (λ n. n.waits) earlier) + length (filter (λ n. n.waits) new) =
    ap length (filter-append (λ n. n.waits) earlier new) ∙ length-append (filter (λ n. n.waits) earlier) (filter (λ n. n.waits) new) in
    let alike : length (filter (λ n. n.waits) new) ≡ length (filter (λ n. n.kept) new) =
    ap length (filter_alike (λ n. n.waits) (λ n. n.kept) new (λ y among.
    let born = child_at (path_counters task) settings (all_at task m node) (path_at m.paths number) (length m.nodes) (fresh_at task m node) y among in
    ap (λ n. n.waits) born.is ∙ ap (λ n. n.kept) (sym born.is))) in
    let states : length (states_kept (earlier ++ new)) ≡ length (states_kept m.nodes) + length (states_kept new) =
    ap length (states-next task settings m node traced.numbered there) ∙ length-append (states_kept m.nodes) (states_kept new) in
    let all : length (states_kept (earlier ++ new)) ≡ length (filter (λ n. n.kept) (earlier ++ new)) =
    length-map (filter (λ n. n.kept) (earlier ++ new)) (λ n. n.generated.state) in
    let old : length (states_kept m.nodes) ≡ length (filter (λ n. n.kept) m.nodes) = length-map (filter (λ n. n.kept) m.nodes) (λ n. n.generated.state) in
    let more : length (states_kept new) ≡ length (filter (λ n. n.kept) new) = length-map (filter (λ n. n.kept) new) (λ n. n.generated.state) in
    let told : length (m.events ++ event_of node (repeats_at task m node) (borns_of (fresh_at task m node) new) ∷ []) ≡ length m.events + 1 =
    length_push m.events (event_of node (repeats_at task m node) (borns_of (fresh_at task m node) new)) in
    let few : length m.events + length (filter (λ n. n.waits) m.nodes) ≤ length (filter (λ n. n.kept) m.nodes) = before.few in
    record { few = omega arith }

spent-opening : (task : PlanningTask) (settings : Settings) → AreSpent (opening task settings)
spent-opening task settings = record { few = omega arith }

some_waits : (nodes : List Node) (x : Node) → In x nodes → x.waits ≡ true → 1 ≤ length (filter (λ n. n.waits) nodes)
some_waits nodes x there waits = by (filter (λ n. n.waits) nodes) (In-filter (λ n. n.waits) nodes x there waits) where
  by : (xs : List Node) → In x xs → 1 ≤ length xs
  by [] none = absurd none
  by (y ∷ ys) among = omega arith

pub expansions_are_few : ExpansionsAreFew
expansions_are_few task settings tuples counted place fits kbfws counting =
    let end = ended task settings tuples AreSpent (spent-opening task settings) (keeps-spent task settings tuples) in
    let m = (run task settings tuples).1 in
    let few : length m.events + length (filter (λ n. n.waits) m.nodes) ≤ length (filter (λ n. n.kept) m.nodes) = end.holds.few in
    let kept : length (filter (λ n. n.kept) m.nodes) ≤ 1 + length (pairs_in (generated_in m.nodes)) * tuples =
    kept_at_end task settings tuples counted place fits kbfws counting in
    omega arith

-- ---- what has come about at a limit
pub budget_is_spent : BudgetIsSpent
budget_is_spent task settings tuples is =
    let end = ended task settings tuples (λ m. Unit {0}) tt (λ m node traced there holds x. tt) in
    let m = (run task settings tuples).1 in
    let reason : IsEnd task settings tuples m Budget = subst (IsEnd task settings tuples m) is end.reason in
    let node = reason.0 in
    let some : 0 < node.generated.counters.0 = positive node.generated.counters.0 reason.2 in
    (reason.3, (node, Contains-from_In node m.nodes (first_there m.nodes node reason.1), first_waits m.nodes node reason.1, some)) where
      positive : (n : ℕ) → (n ≡ 0 → ⊥) → 0 < n
      positive zero other = absurd (other refl)
      positive (suc n) other = omega arith

pub words_are_exceeded : WordsAreExceeded
words_are_exceeded task settings tuples pairs is =
    let end = ended task settings tuples (λ m. Unit {0}) tt (λ m node traced there holds x. tt) in
    let reason : IsEnd task settings tuples (run task settings tuples).1 (Words pairs) = subst (IsEnd task settings tuples (run task settings tuples).1) is end.reason in
    ltb-true settings.words (pairs * tuples) reason.0

-- ---- limits that are enough
pub budget_is_enough : BudgetIsEnough
budget_is_enough task settings tuples counted place fits kbfws counting enough is =
    let end = ended task settings tuples AreSpent (spent-opening task settings) (keeps-spent task settings tuples) in
    let m = (run task settings tuples).1 in
    let reason : IsEnd task settings tuples m Budget = subst (IsEnd task settings tuples m) is end.reason in
    let one : 1 ≤ length (filter (λ n. n.waits) m.nodes) =
    some_waits m.nodes reason.0 (first_there m.nodes reason.0 reason.1) (first_waits m.nodes reason.0 reason.1) in
    let few : length m.events + length (filter (λ n. n.waits) m.nodes) ≤ length (filter (λ n. n.kept) m.nodes) = end.holds.few in
    let kept : length (filter (λ n. n.kept) m.nodes) ≤ 1 + length (pairs_in (generated_in m.nodes)) * tuples =
    kept_at_end task settings tuples counted place fits kbfws counting in
    let spent : length m.events ≡ settings.budget = reason.3 in
    let room : 1 + length (pairs_in (generated_in m.nodes)) * tuples ≤ settings.budget = enough in
    absurd (omega arith)

-- ---- the states that BFWS(f5) keeps
kept-all : (nodes : List Node) → ((x : Node) → In x nodes → x.kept ≡ true) → states_kept nodes ≡ map (λ n. n.generated.state) nodes
kept-all [] kept = refl
kept-all (x ∷ nodes) kept =
    ap (λ b. map (λ n. n.generated.state) (cond b (x ∷ filter (λ n. n.kept) nodes) (filter (λ n. n.kept) nodes))) (kept x (inl refl))
    ∙ ap (λ l. x.generated.state ∷ l) (kept-all nodes (λ y later. kept y (inr later)))

states-children : (task : PlanningTask) (settings : Settings) (all : List Generated) (states : List (List Bool)) (number : ℕ) (xs : List Successor) →
    map (λ n. n.generated.state) (map (node_of settings all) (fresh_of (path_counters task) states number xs)) ≡ map (λ x. x.state) xs
states-children task settings all states number [] = refl
states-children task settings all states number (x ∷ xs) = ap (λ l. x.state ∷ l) (states-children task settings all states (number + 1) xs)

pub record AreTidy (task : PlanningTask) (m : Moment) : Type 0 where
  pub open_nodes : IsOpen task m
  pub spent : AreSpent m
  pub apart : AreApart (states_kept m.nodes)

keeps-tidy : (task : PlanningTask) (settings : Settings) (tuples : ℕ) → settings.search ≡ F5 → Keeps task settings tuples (AreTidy task)
keeps-tidy task settings tuples f5 m node traced there before x =
    let after = next task settings m node traced.numbered there in
    let new = nodes_at task settings m node in
    let later = keeps-open task settings tuples f5 m node traced there before.open_nodes x in
    let kept : (y : Node) → In y new → y.kept ≡ true = λ y among.
    later.kept y (In-append_right (set m.nodes node.generated.number (left node)) new y among) in
    let states : states_kept new ≡ map (λ s. s.state) (fresh_at task m node) =
    kept-all new kept ∙ states-children task settings (all_at task m node) (path_at m.paths node.generated.number).states (length m.nodes) (fresh_at task m node) in
    record {
      open_nodes = later;
      spent = keeps-spent task settings tuples m node traced there before.spent x;
      apart = subst AreApart (sym (states-next task settings m node traced.numbered there))
          (AreApart-append (states_kept m.nodes) (states_kept new) before.apart
          (subst AreApart (sym states) (unseen-apart (λ s. s.state) (states_kept m.nodes) (successors_of task.acts node.generated.state)))
          (λ s old fresh. unseen-new (λ y. y.state) (states_kept m.nodes) (successors_of task.acts node.generated.state) s
          (subst (λ l. In s l) states fresh) old));
    }

tidy-opening : (task : PlanningTask) (settings : Settings) → AreTidy task (opening task settings)
tidy-opening task settings = record {
  open_nodes = open-opening task settings;
  spent = spent-opening task settings;
  apart = (λ none. none, tt);
}

reachable_kept : (task : PlanningTask) (m : Moment) → AreTraced task m → (s : List Bool) → In s (states_kept m.nodes) → IsReachable task s
reachable_kept task m traced s there =
    let found = node_kept m.nodes s there in
    let here = traced.each found.0 found.1 in
    record {
      actions = (path_at m.paths found.0.generated.number).acts;
      leads = here.leads ∙ ap (λ t. Some t) (sym found.2);
    }

-- each kept state is reachable, and none is kept twice
states_few : (task : PlanningTask) (m : Moment) (states : List (List Bool)) → AreTraced task m → AreApart (states_kept m.nodes) →
    ((state : List Bool) → IsReachable task state → Contains states state) → length (states_kept m.nodes) ≤ length states
states_few task m states traced apart all =
    pigeons (λ (s : List Bool) (c : ℕ). get_or states c [] ≡ s) (length states) (states_kept m.nodes)
    (λ s there. place s (all s (reachable_kept task m traced s there)))
    (λ s t c first second one other. sym one ∙ other) apart where
      place : (s : List Bool) → Contains states s → (c : ℕ) × (c < length states) × (get_or states c [] ≡ s)
      place s at = (at.0, at.1, get_or_default states at.0 [] s at.1 ∙ at.2)

-- what BFWS(f5) has kept where it ends
pub kept_states : (task : PlanningTask) (settings : Settings) (tuples : ℕ) → settings.search ≡ F5 →
    (states : List (List Bool)) × AreStatesKept task (ending_of task settings tuples) states
kept_states task settings tuples f5 =
    let end = ended task settings tuples (AreTidy task) (tidy-opening task settings) (keeps-tidy task settings tuples f5) in
    let m = (run task settings tuples).1 in (
      states_kept m.nodes,
      record {
        count = length-map (filter (λ n. n.kept) m.nodes) (λ n. n.generated.state) ∙ length-filter (λ n. n.kept) m.nodes;
        reachable = λ s there. reachable_kept task m end.traced s (In-from_Contains s (states_kept m.nodes) there);
        apart = apart_pairs (states_kept m.nodes) end.holds.apart;
        closed = emptied_is_closed task settings tuples f5;
      },
    )

-- no limit of words is exceeded by pairs that are few enough
not_exceeded : (words pairs most tuples : ℕ) → pairs ≤ most → most * tuples ≤ words → exceeds words pairs tuples ≡ true → ⊥
not_exceeded words pairs most tuples few room over =
    let more : words < pairs * tuples = ltb-true words (pairs * tuples) over in
    let bounded : pairs * tuples ≤ most * tuples = mul-le pairs tuples most tuples few (omega arith) in
    omega arith

pub limits_are_enough : LimitsAreEnough
limits_are_enough task settings tuples states fits f5 all budget words =
    by (run task settings tuples).0 end.reason refl where
      end : IsEnded task settings tuples (AreTidy task) (run task settings tuples)
      end = ended task settings tuples (AreTidy task) (tidy-opening task settings) (keeps-tidy task settings tuples f5)

      m : Moment
      m = (run task settings tuples).1

      most : ℕ
      most = (length task.goals + 1) * (task.atoms + 1)

      expected : (pairs : ℕ) → (pairs ≡ 1) ⊎ ((node : Node) × (first_waiting m.nodes ≡ Some node) × (pairs ≡ length (pairs_in (all_at task m node)))) → pairs ≤ most
      expected pairs (inl one) =
          let some : 1 * 1 ≤ (length task.goals + 1) * (task.atoms + 1) = mul-le 1 1 (length task.goals + 1) (task.atoms + 1) (omega arith) (omega arith) in
          omega arith
      expected pairs (inr (node, first, counted)) =
          let there = first_there m.nodes node first in
          let after = next task settings m node end.traced.numbered there in
          let few : length (pairs_in (generated_in after.nodes)) ≤ (length task.goals + 1) * (length task.init + 1) =
          traced-few task after (traced-next task settings m node end.traced there) in
          let same : length (pairs_in (generated_in after.nodes)) ≡ pairs =
          ap (λ gs. length (pairs_in gs)) (generated-next task settings m node end.traced.numbered there) ∙ sym counted in
          subst (λ n. pairs ≤ (length task.goals + 1) * (n + 1)) fits.init_size
          (subst (λ n. n ≤ (length task.goals + 1) * (length task.init + 1)) same few)

      by : (how : How) → IsEnd task settings tuples m how → (run task settings tuples).0 ≡ how →
          ((plan : List ℕ) × ((run task settings tuples).0 ≡ Found plan)) ⊎ ((run task settings tuples).0 ≡ Emptied)
      by (Found plan) reason is = inl (plan, is)
      by Emptied reason is = inr is
      by Budget reason is =
          let one : 1 ≤ length (filter (λ n. n.waits) m.nodes) =
          some_waits m.nodes reason.0 (first_there m.nodes reason.0 reason.1) (first_waits m.nodes reason.0 reason.1) in
          let few : length m.events + length (filter (λ n. n.waits) m.nodes) ≤ length (filter (λ n. n.kept) m.nodes) = end.holds.spent.few in
          let kept : length (states_kept m.nodes) ≡ length (filter (λ n. n.kept) m.nodes) = length-map (filter (λ n. n.kept) m.nodes) (λ n. n.generated.state) in
          let room : length (states_kept m.nodes) ≤ length states = states_few task m states end.traced end.holds.apart all in
          let spent : length m.events ≡ settings.budget = reason.3 in
          absurd (omega arith)
      by (Words pairs) reason is =
          absurd (not_exceeded settings.words pairs most tuples (expected pairs reason.1) words reason.0)
