-- No number of a run reaches 2^63: an expansion has at most as many children as there are actions.
use Rattle.std.proofs.Common.{◌≡◌, ℕ, ◌+◌, ◌*◌, ◌<◌, ◌≤◌, Bool, true, false, cond, List, [], ◌∷◌, ◌++◌, length, map, set, arith, filter, fold, count_by, length-append, length-set, refl, sym, ap, ◌∙◌, suc}
use Rattle.std.specs.List.{range_with_len}
use Rattle.std.proofs.lemmas.List.{length-map, length_push}
use Rattle.std.proofs.lemmas.List.FromFn.{length-range_with_len}
use Rattle.std.proofs.lemmas.List.Sums.{count_by-le-length, length-filter, sum_by_push}
use Rattle.wp_task.specs.declared.acts.Act.{Act}
use Rattle.wp_task.specs.Task.{PlanningTask, IsTask, act_at, applicable_in, applies, result_of}
use Rattle.wp_task.proofs.Members.{In-from_Contains}
use Rattle.wp_watch.specs.declared.event.Event.{Event}
use Rattle.wp_plain.specs.declared.settings.Settings.{Settings}
use Rattle.wp_watch.specs.Sums.{born_in, repeats_in}
use Rattle.wp_plain.specs.Nodes.{Node, Successor, left, path_at, generated_in, states_kept}
use Rattle.wp_plain.specs.Pairs.{has_pair, with_pair, pairs_in, exceeds}
use Rattle.wp_plain.specs.Expansion.{path_counters, borns_of, event_of, successors_of}
use Rattle.wp_plain.specs.Run.{Moment, fresh_at, all_at, nodes_at, repeats_at, opening, run}
use Rattle.wp_plain.specs.Numbers.{next_of}
use Rattle.wp_plain.specs.Steps.{Asked, IsBounded, IsSpare, CanExpand}
use Rattle.wp_plain.specs.Laws.{NumbersAreSmall}
use Rattle.wp_plain.proofs.UnseenLemmas.{unseen-few}
use Rattle.wp_plain.proofs.NumberLemmas.{number_below}
use Rattle.wp_plain.proofs.NextNodes.{length-children}
use Rattle.wp_plain.proofs.TraceLemmas.{Keeps, ended}

few_successors : (acts : List Act) (state : List Bool) → length (successors_of acts state) ≤ length acts
few_successors acts state =
    let test : ℕ → Bool = λ a. applies (act_at acts a) state in
    let all : length (successors_of acts state) ≡ length (applicable_in acts state) =
    length-map (applicable_in acts state) (λ a. let x : Successor = record { act = a; state = result_of (act_at acts a) state } in x) in
    let kept : length (filter test (range_with_len 0 (length acts))) ≡ count_by test (range_with_len 0 (length acts)) =
    length-filter test (range_with_len 0 (length acts)) in
    let few : count_by test (range_with_len 0 (length acts)) ≤ length (range_with_len 0 (length acts)) =
    count_by-le-length test (range_with_len 0 (length acts)) in
    omega (arith, length-range_with_len 0 (length acts))

pub few_pairs : (seen xs : List (ℕ × ℕ)) → length (fold with_pair seen xs) ≤ length seen + length xs
few_pairs seen [] = omega arith
few_pairs seen (x ∷ xs) = by (has_pair seen x) (λ more. few_pairs more xs) where
  by : (b : Bool) → ((more : List (ℕ × ℕ)) → length (fold with_pair more xs) ≤ length more + length xs) →
      length (fold with_pair (cond b seen (seen ++ x ∷ [])) xs) ≤ length seen + length (x ∷ xs)
  by true rest = let few : length (fold with_pair seen xs) ≤ length seen + length xs = rest seen in omega arith
  by false rest =
      let few : length (fold with_pair (seen ++ x ∷ []) xs) ≤ length (seen ++ x ∷ []) + length xs = rest (seen ++ x ∷ []) in
      omega (arith, length_push seen x)

-- ---- moments
length-borns : (xs : List Successor) (nodes : List Node) → length nodes ≡ length xs → length (borns_of xs nodes) ≡ length xs
length-borns [] nodes same = refl
length-borns (x ∷ xs) [] same = absurd (omega arith)
length-borns (x ∷ xs) (node ∷ nodes) same = ap suc (length-borns xs nodes (omega arith))

-- an expansion within the budget leaves a moment bounded
pub bounded-next : (task : PlanningTask) (settings : Settings) (m : Moment) (node : Node) → length task.acts ≤ 1048576 → IsSpare settings m →
    IsBounded settings m → IsBounded settings (next_of task settings m node)
bounded-next task settings m node few_acts spare before =
    let fresh = fresh_at task m node in
    let new = nodes_at task settings m node in
    let event = event_of node (repeats_at task m node) (borns_of fresh new) in
    let earlier = set m.nodes node.generated.number (left node) in
    let told : length (m.events ++ event ∷ []) ≡ length m.events + 1 = length_push m.events event in
    let sum : repeats_in (m.events ++ event ∷ []) ≡ repeats_in m.events + repeats_at task m node =
    sum_by_push (λ (e : Event). e.repeats) m.events event in
    let births : born_in (m.events ++ event ∷ []) ≡ born_in m.events + length (borns_of fresh new) =
    sum_by_push (λ (e : Event). length e.born) m.events event in
    let nodes : length (earlier ++ new) ≡ length earlier + length new = length-append earlier new in
    let same : length earlier ≡ length m.nodes = length-set m.nodes node.generated.number (left node) in
    let children : length new ≡ length fresh =
    length-children (path_counters task) settings (all_at task m node) (path_at m.paths node.generated.number) (length m.nodes) fresh in
    let born : length (borns_of fresh new) ≡ length fresh = length-borns fresh new children in
    let unseen : length fresh ≤ length (successors_of task.acts node.generated.state) =
    unseen-few (λ (s : Successor). s.state) (states_kept m.nodes) (successors_of task.acts node.generated.state) in
    let few : length (successors_of task.acts node.generated.state) ≤ length task.acts = few_successors task.acts node.generated.state in
    let within : length m.events ≡ settings.budget → ⊥ = spare in
    let repeats : repeats_at task m node ≤ length (successors_of task.acts node.generated.state) = omega arith in
    let old_few : length m.events ≤ settings.budget = before.few in
    let old_nodes : length m.nodes ≤ 1 + 1048576 * length m.events = before.nodes in
    let old_repeats : repeats_in m.events ≤ 1048576 * length m.events = before.repeats in
    let old_born : born_in m.events + 1 ≡ length m.nodes = before.born in
    record { few = omega arith; nodes = omega arith; repeats = omega arith; born = omega arith }

-- a node can be expanded where the test of words says so
pub can-expand : (asked : Asked) (m : Moment) (node : Node) → IsTask asked.task → IsSpare asked.settings m → IsBounded asked.settings m →
    (words pairs tuples : ℕ) (tested : Bool) → words ≡ asked.settings.words → pairs ≡ length (pairs_in (all_at asked.task m node)) → tuples ≡ asked.tuples →
    tested ≡ exceeds words pairs tuples → tested ≡ false → CanExpand asked m node
can-expand asked m node fits spare bounded words pairs tuples tested words_are pairs_are tuples_are test few = record {
  bounded = bounded;
  later = bounded-next asked.task asked.settings m node fits.few_acts spare bounded;
  few = (λ j. exceeds (sym words_are j) (sym pairs_are j) (sym tuples_are j)) ∙ (sym test ∙ few);
}

keeps-bounded : (task : PlanningTask) (settings : Settings) (tuples : ℕ) → length task.acts ≤ 1048576 → Keeps task settings tuples (IsBounded settings)
keeps-bounded task settings tuples few_acts m node traced there before x = bounded-next task settings m node few_acts x.spare before

pub bounded-opening : (task : PlanningTask) (settings : Settings) → IsBounded settings (opening task settings)
bounded-opening task settings = record { few = omega arith; nodes = omega arith; repeats = omega arith; born = refl }

pub numbers_are_small : NumbersAreSmall
numbers_are_small task settings tuples fits range =
    let end = ended task settings tuples (IsBounded settings) (bounded-opening task settings) (keeps-bounded task settings tuples fits.few_acts) in
    let m = (run task settings tuples).1 in
    let budget : settings.budget ≤ 100000000 = range.budget.1 in
    let few : length m.events ≤ settings.budget = end.holds.few in
    let born : length m.nodes ≤ 1 + 1048576 * length m.events = end.holds.nodes in
    let told : repeats_in m.events ≤ 1048576 * length m.events = end.holds.repeats in
    let kept : count_by (λ n. n.kept) m.nodes ≤ length m.nodes = count_by-le-length (λ n. n.kept) m.nodes in
    let counters : length (pairs_in (generated_in m.nodes)) ≤ 0 + length (map (λ x. x.counters) (generated_in m.nodes)) =
    few_pairs [] (map (λ x. x.counters) (generated_in m.nodes)) in
    record {
      expanded = omega arith;
      numbered = omega arith;
      kept = omega arith;
      pruned = omega arith;
      repeats = omega arith;
      pairs = omega (arith, length-map (generated_in m.nodes) (λ x. x.counters), length-map m.nodes (λ n. n.generated));
      numbers = λ x there.
          let below : x.generated.number < 0 + length m.nodes = number_below 0 m.nodes end.traced.numbered.numbers x (In-from_Contains x m.nodes there) in
          omega arith;
    }
