-- Each node that k-BFWS keeps, but the root, is the first with its counters at which some tuple is true.
use Rattle.std.proofs.Common.{◌≡◌, ◌⊎◌, ℕ, ◌+◌, ◌*◌, ◌<◌, ◌≤◌, Bool, true, false, cond, List, [], ◌∷◌, length, get_or, nat_lt, refl, sym, ap, ◌∙◌, subst, inl, inr, arith, Contains, filter}
use Rattle.std.proofs.Math.Nat.{mul_comm}
use Rattle.std.proofs.lemmas.Bool.{cases_order, ltb-false, not-true}
use Rattle.std.proofs.lemmas.List.{get_or_default}
use Rattle.std.proofs.lemmas.Nat.{mul-add-lt, same_from_place}
use Rattle.wp_task.specs.Task.{PlanningTask, IsTask, IsReachable}
use Rattle.wp_task.specs.Novelty.{Generated, IsNewAt, novelty_of, tuples_in}
use Rattle.wp_task.proofs.Members.{In, In-from_Contains, Contains-from_In, In-filter_cases, In-map}
use Rattle.wp_plain.specs.declared.settings.Search.TheVariants.{KBfws}
use Rattle.wp_plain.specs.declared.settings.Settings.{Settings}
use Rattle.wp_plain.specs.Nodes.{Node, generated_in, path_at}
use Rattle.wp_plain.specs.Pairs.{pairs_in}
use Rattle.wp_plain.specs.Expansion.{path_counters, generated_at, keeps}
use Rattle.wp_plain.specs.Run.{Moment, opening, run, all_at, children_at, fresh_at}
use Rattle.wp_plain.specs.Laws.{AreCounted, KeptAreFirst}
use Rattle.wp_plain.specs.Numbers.{CountUp}
use Rattle.wp_plain.proofs.NumberLemmas.{number_from, number_below, one_node}
use Rattle.wp_plain.proofs.NextNodes.{IsNext, next, next_cases, generated-next}
use Rattle.wp_plain.proofs.NextNodes.IsNext.{expanded_one, older, child}
use Rattle.wp_plain.proofs.TraceLemmas.{Keeps, IsEnded, ended, traced-next}
use Rattle.wp_plain.proofs.ListLemmas.{pairs_have}
use Rattle.wp_plain.proofs.Pigeons.{AreApart, AreApart-filter, pigeons}
use Rattle.wp_plain.proofs.NewTuples.{HasTuple, has_tuple, fresh-later, new-later}

-- ---- runs
pub record AreSparse (task : PlanningTask) (settings : Settings) (m : Moment) : Type 0 where
  pub first : (x : Node) → In x m.nodes → x.kept ≡ true →
      (x.generated.number ≡ 0) ⊎ HasTuple settings.width (length task.init) (generated_in m.nodes) x.generated

kept_small : (width w : ℕ) → keeps KBfws width w ≡ true → w ≤ width
kept_small width w kept = ltb-false width w (not-true (nat_lt width w) kept)

keeps-sparse : (task : PlanningTask) (settings : Settings) (tuples : ℕ) → settings.search ≡ KBfws → Keeps task settings tuples (AreSparse task settings)
keeps-sparse task settings tuples kbfws m node traced there before x = record {
  first = λ y among kept. by y among kept (next_cases task settings m node traced.numbered there y among);
} where
  Goal : Generated → Type 0
  Goal g = (g.number ≡ 0) ⊎ HasTuple settings.width (length task.init) (generated_in (next task settings m node traced.numbered there).nodes) g

  later : (g : Generated) → g.number < length m.nodes →
      (g.number ≡ 0) ⊎ HasTuple settings.width (length task.init) (generated_in m.nodes) g → Goal g
  later g early (inl root) = inl root
  later g early (inr found) =
      let at : IsNewAt (all_at task m node) g found.0 = new-later (generated_in m.nodes) (children_at task m node) g found.0
      (λ y new.
      let from : length m.nodes ≤ y.number =
      fresh-later (path_counters task) (path_at m.paths node.generated.number).states (length m.nodes) (fresh_at task m node) y new in omega arith) found.2 in
      let here : IsNewAt (generated_in (next task settings m node traced.numbered there).nodes) g found.0 =
      subst (λ all. IsNewAt all g found.0) (sym (generated-next task settings m node traced.numbered there)) at in
      inr (found.0, found.1, here)

  early_at : (y : Node) → In y m.nodes → y.generated.number < length m.nodes
  early_at y among =
      let below : y.generated.number < 0 + length m.nodes = number_below 0 m.nodes traced.numbered.numbers y among in omega arith

  by : (y : Node) → In y (next task settings m node traced.numbered there).nodes → y.kept ≡ true → IsNext task settings m node traced.numbered there y → Goal y.generated
  by y among kept (expanded_one is) =
      subst (λ n. Goal n.generated) (sym is)
      (later node.generated (early_at node there) (before.first node there (ap (λ n. n.kept) (sym is) ∙ kept)))
  by y among kept (older old) = later y.generated (early_at y old) (before.first y old kept)
  by y among kept (child born) =
      let g = generated_at (path_counters task) (path_at m.paths node.generated.number).states (length m.nodes + born.place) born.from.state in
      let keep : keeps KBfws settings.width born.novelty ≡ true =
      ap (λ s. keeps s settings.width born.novelty) (sym kbfws) ∙ (ap (λ n. n.kept) (sym born.is) ∙ kept) in
      let small : novelty_of settings.width (all_at task m node) g ≤ settings.width =
      subst (λ w. w ≤ settings.width) born.novelty_is (kept_small settings.width born.novelty keep) in
      let size : length g.state ≡ length task.init =
      ap (λ n. length n.generated.state) (sym born.is) ∙ ((traced-next task settings m node traced there).each y among).size in
      let found : HasTuple settings.width (length task.init) (all_at task m node) g = has_tuple settings.width (length task.init) (all_at task m node) g size small in
      let here : HasTuple settings.width (length task.init) (generated_in (next task settings m node traced.numbered there).nodes) g =
      subst (λ all. HasTuple settings.width (length task.init) all g) (sym (generated-next task settings m node traced.numbered there)) found in
      subst (λ n. Goal n.generated) (sym born.is) (inr here)

sparse-opening : (task : PlanningTask) (settings : Settings) → AreSparse task settings (opening task settings)
sparse-opening task settings = record {
  first = λ x. elim [ inl same ↦ λ kept. inl (ap (λ n. n.generated.number) same) | inr none ↦ absurd none ];
}

-- at one tuple there is one first node with the same counters
one_first : (nodes : List Node) → CountUp 0 nodes → (x y : Node) (tuple : List ℕ) → In x nodes → In y nodes →
    x.generated.counters ≡ y.generated.counters → IsNewAt (generated_in nodes) x.generated tuple → IsNewAt (generated_in nodes) y.generated tuple → x ≡ y
one_first nodes counts x y tuple there also same one other = by (cases_order x.generated.number y.generated.number) where
  at : (z : Node) → In z nodes → Contains (generated_in nodes) z.generated
  at z among = Contains-from_In z.generated (generated_in nodes) (In-map (λ n. n.generated) nodes z among)

  by : (x.generated.number ≡ y.generated.number) ⊎ ((x.generated.number < y.generated.number) ⊎ (y.generated.number < x.generated.number)) → x ≡ y
  by (inl alike) = one_node 0 nodes counts x y there also alike
  by (inr (inl before)) = absurd (other.new x.generated (at x there) before same one.holds)
  by (inr (inr after)) = absurd (one.new y.generated (at y also) after (sym same) other.holds)

-- ---- how many nodes are kept
-- x is the first with its counters at which a counted tuple is true
abbrev HasCounted : List (List ℕ) → List Generated → Generated → Type 0
HasCounted counted all x = (tuple : List ℕ) × Contains counted tuple × IsNewAt all x tuple

module _ (task : PlanningTask) (width tuples : ℕ) (counted : List (List ℕ)) (place : List ℕ → ℕ) (counting : AreCounted task width tuples counted place)
    (nodes : List Node) (counts : CountUp 0 nodes) where
  abbrev pairs : List (ℕ × ℕ)
  pairs = pairs_in (generated_in nodes)

  -- the place of a pair, and that of a tuple
  record IsPlaced (x : Node) (code : ℕ) : Type 0 where
    pub pair : ℕ
    pub tuple : List ℕ
    pub there : Contains counted tuple
    pub pair_is : get_or pairs pair (0, 0) ≡ x.generated.counters
    pub new : IsNewAt (generated_in nodes) x.generated tuple
    pub code_is : code ≡ pair * tuples + place tuple

  placed : (x : Node) → In x nodes → HasCounted counted (generated_in nodes) x.generated → (c : ℕ) × (c < length pairs * tuples) × IsPlaced x c
  placed x there found =
      let pair : Contains pairs x.generated.counters = Contains-from_In x.generated.counters pairs
      (pairs_have (generated_in nodes) x.generated (In-map (λ n. n.generated) nodes x there)) in
      let at = place found.0 in (
        pair.0 * tuples + at,
        subst (λ n. pair.0 * tuples + at < n) (mul_comm tuples (length pairs))
            (mul-add-lt pair.0 tuples at (length pairs) pair.1 (counting.below found.0 found.1)),
        record {
          pair = pair.0;
          tuple = found.0;
          there = found.1;
          pair_is = get_or_default pairs pair.0 (0, 0) x.generated.counters pair.1 ∙ pair.2;
          new = found.2;
          code_is = refl;
        },
      )

  one_placed : (x y : Node) (c : ℕ) → In x nodes → In y nodes → IsPlaced x c → IsPlaced y c → x ≡ y
  one_placed x y c there also one other =
      let same = same_from_place one.pair (place one.tuple) other.pair (place other.tuple) tuples
      (counting.below one.tuple one.there) (counting.below other.tuple other.there) (sym one.code_is ∙ other.code_is) in
      let counters : x.generated.counters ≡ y.generated.counters =
      sym one.pair_is ∙ (ap (λ i. get_or pairs i (0, 0)) same.0 ∙ other.pair_is) in
      let tuple : other.tuple ≡ one.tuple = sym (counting.apart one.tuple other.tuple one.there other.there same.1) in
      one_first nodes counts x y one.tuple there also counters one.new (subst (IsNewAt (generated_in nodes) y.generated) tuple other.new)

apart_nodes : (n : ℕ) (xs : List Node) → CountUp n xs → AreApart xs
apart_nodes n [] counts = tt
apart_nodes n (x ∷ xs) counts = (
  (λ there.
      let later : n + 1 ≤ x.generated.number = number_from (n + 1) xs counts.1 x there in
      let number : x.generated.number ≡ n = counts.0 in
      absurd (omega arith)),
  apart_nodes (n + 1) xs counts.1,
)

-- the root, and at most one for each pair and each counted tuple
kept_few : (task : PlanningTask) (width tuples : ℕ) (counted : List (List ℕ)) (place : List ℕ → ℕ) → AreCounted task width tuples counted place →
    (nodes all : List Node) → CountUp 0 all → all ≡ nodes →
    ((x : Node) → In x all → x.kept ≡ true → (x.generated.number ≡ 0) ⊎ HasCounted counted (generated_in all) x.generated) →
    length (filter (λ n. n.kept) nodes) ≤ 1 + length (pairs_in (generated_in all)) * tuples
kept_few task width tuples counted place counting [] all counts is first = omega arith
kept_few task width tuples counted place counting (r ∷ xs) all counts is first =
    let most : length (filter (λ n. n.kept) (r ∷ xs)) ≤ 1 + length (filter (λ n. n.kept) xs) = head_most r.kept in
    let rest : length (filter (λ n. n.kept) xs) ≤ length (pairs_in (generated_in all)) * tuples =
    pigeons (IsPlaced task width tuples counted place counting all counts) (length (pairs_in (generated_in all)) * tuples) (filter (λ n. n.kept) xs)
    (λ x there. at x (In-filter_cases (λ n. n.kept) xs x there))
    (λ x y c there also one other. one_placed task width tuples counted place counting all counts x y c (among x (In-filter_cases (λ n. n.kept) xs x there).0)
    (among y (In-filter_cases (λ n. n.kept) xs y also).0) one other)
    (AreApart-filter (λ n. n.kept) xs (apart_nodes 1 xs tail_counts)) in
    omega arith where
      head_most : (b : Bool) → length (cond b (r ∷ filter (λ n. n.kept) xs) (filter (λ n. n.kept) xs)) ≤ 1 + length (filter (λ n. n.kept) xs)
      head_most true = omega arith
      head_most false = omega arith

      tail_counts : CountUp 1 xs
      tail_counts = let listed : CountUp 0 (r ∷ xs) = subst (CountUp 0) is counts in listed.1

      among : (x : Node) → In x xs → In x all
      among x there = subst (λ l. In x l) (sym is) (inr there)

      at : (x : Node) → In x xs × (x.kept ≡ true) →
          (c : ℕ) × (c < length (pairs_in (generated_in all)) * tuples) × IsPlaced task width tuples counted place counting all counts x c
      at x (there, kept) = by (first x (among x there) kept) where
        by : (x.generated.number ≡ 0) ⊎ HasCounted counted (generated_in all) x.generated →
            (c : ℕ) × (c < length (pairs_in (generated_in all)) * tuples) × IsPlaced task width tuples counted place counting all counts x c
        by (inl root) = let later : 1 ≤ x.generated.number = number_from 1 xs tail_counts x there in absurd (omega arith)
        by (inr found) = placed task width tuples counted place counting all counts x (among x there) found

-- ---- the law of the nodes that are kept
-- a node of the end that is the first at some tuple
in_task : (task : PlanningTask) (width : ℕ) (all : List Generated) (x : Generated) → IsTask task → HasTuple width (length task.init) all x →
    (tuple : List ℕ) × Contains (tuples_in width task.atoms) tuple × IsNewAt all x tuple
in_task task width all x fits found =
    let there : Contains (tuples_in width task.atoms) found.0 =
    subst (λ n. Contains (tuples_in width n) found.0) fits.init_size (Contains-from_In found.0 (tuples_in width (length task.init)) found.1) in
    (found.0, there, found.2)

pub kept_at_end : (task : PlanningTask) (settings : Settings) (tuples : ℕ) (counted : List (List ℕ)) (place : List ℕ → ℕ) →
    IsTask task → settings.search ≡ KBfws → AreCounted task settings.width tuples counted place →
    length (filter (λ n. n.kept) (run task settings tuples).1.nodes)
    ≤ 1 + length (pairs_in (generated_in (run task settings tuples).1.nodes)) * tuples
kept_at_end task settings tuples counted place fits kbfws counting =
    kept_few task settings.width tuples counted place counting m.nodes m.nodes end.traced.numbered.numbers refl
    (λ x there kept. by x there (end.holds.first x there kept)) where
      m : Moment
      m = (run task settings tuples).1

      end : IsEnded task settings tuples (AreSparse task settings) (run task settings tuples)
      end = ended task settings tuples (AreSparse task settings) (sparse-opening task settings) (keeps-sparse task settings tuples kbfws)

      by : (x : Node) → In x m.nodes → (x.generated.number ≡ 0) ⊎ HasTuple settings.width (length task.init) (generated_in m.nodes) x.generated →
          (x.generated.number ≡ 0) ⊎ HasCounted counted (generated_in m.nodes) x.generated
      by x there (inl root) = inl root
      by x there (inr found) =
          let at = in_task task settings.width (generated_in m.nodes) x.generated fits found in
          let reachable : IsReachable task x.generated.state = record {
            actions = (path_at m.paths x.generated.number).acts;
            leads = (end.traced.each x there).leads;
          } in
          inr (at.0, counting.all x.generated.state at.0 reachable at.1 at.2.holds, at.2)

pub kept_are_first : KeptAreFirst
kept_are_first task settings tuples fits kbfws =
    let end = ended task settings tuples (AreSparse task settings) (sparse-opening task settings) (keeps-sparse task settings tuples kbfws) in
    let nodes = (run task settings tuples).1.nodes in
    record {
      kept = λ x there kept. by x (end.holds.first x (In-from_Contains x nodes there) kept);
      one = λ x y tuple there also. one_first nodes end.traced.numbered.numbers x y tuple (In-from_Contains x nodes there) (In-from_Contains y nodes also);
    } where
      by : (x : Node) → (x.generated.number ≡ 0) ⊎ HasTuple settings.width (length task.init) (generated_in (run task settings tuples).1.nodes) x.generated →
          (x.generated.number ≡ 0) ⊎ ((tuple : List ℕ) × Contains (tuples_in settings.width task.atoms) tuple × IsNewAt (generated_in (run task settings tuples).1.nodes) x.generated tuple)
      by x (inl root) = inl root
      by x (inr found) = inr (in_task task settings.width (generated_in (run task settings tuples).1.nodes) x.generated fits found)
