-- A step taken apart, and what holds at the end of every run.
use Rattle.std.proofs.Common.{◌≡◌, ◌⊎◌, ◌==◌, ℕ, zero, suc, ◌+◌, ◌≤◌, Bool, true, false, List, Option, Some, None, length, refl, ap, ◌∙◌, subst, inr, inl, arith, Contains, MatchOption}
use Rattle.std.proofs.lemmas.Bool.{eqb-true, eqb-false}
use Rattle.std.proofs.lemmas.List.{length_push}
use Rattle.wp_task.specs.Task.{PlanningTask}
use Rattle.wp_task.proofs.Members.{In, In-from_Contains, Contains-from_In}
use Rattle.wp_plain.specs.declared.settings.Settings.{Settings}
use Rattle.wp_plain.specs.declared.ending.How.{How}
use Rattle.wp_plain.specs.declared.ending.How.TheVariants.{Found, Emptied, Budget, Words}
use Rattle.wp_plain.specs.Nodes.{Node, path_at, first_waiting, IsFirst}
use Rattle.wp_plain.specs.Pairs.{pairs_in, exceeds}
use Rattle.wp_plain.specs.Expansion.{borns_of, event_of}
use Rattle.wp_plain.specs.Run.{Moment, Outcome, fresh_at, all_at, nodes_at, repeats_at, expanded, expand, look_at, step, run_from, run, opening}
use Rattle.wp_plain.specs.Run.Outcome.{Goes, Ends}
use Rattle.wp_plain.proofs.FirstLemmas.{first_is_least}

-- ---- the first waiting node
first_is : (nodes : List Node) (x : Node) → first_waiting nodes ≡ Some x → IsFirst nodes x
first_is nodes x is =
    subst (λ o. MatchOption o ((y : Node) → Contains nodes y → y.waits ≡ false) (IsFirst nodes)) is (first_is_least.found nodes)

pub first_there : (nodes : List Node) (x : Node) → first_waiting nodes ≡ Some x → In x nodes
first_there nodes x is = In-from_Contains x nodes (first_is nodes x is).there

pub first_waits : (nodes : List Node) (x : Node) → first_waiting nodes ≡ Some x → x.waits ≡ true
first_waits nodes x is = (first_is nodes x is).waits

pub none_waits : (nodes : List Node) → first_waiting nodes ≡ None → (y : Node) → In y nodes → y.waits ≡ false
none_waits nodes is y there =
    let none : (x : Node) → Contains nodes x → x.waits ≡ false =
    subst (λ o. MatchOption o ((x : Node) → Contains nodes x → x.waits ≡ false) (IsFirst nodes)) is (first_is_least.found nodes) in
    none y (Contains-from_In y nodes there)

-- ---- steps
-- the node is expanded, and the next moment is the one after it
pub record IsExpansion (task : PlanningTask) (settings : Settings) (tuples : ℕ) (m next : Moment) (node : Node) : Type 0 where
  pub first : first_waiting m.nodes ≡ Some node
  pub unmet : node.generated.counters.0 ≡ 0 → ⊥
  pub spare : length m.events ≡ settings.budget → ⊥
  pub few : exceeds settings.words (length (pairs_in (all_at task m node))) tuples ≡ false
  pub next_is : next ≡ expanded m node (repeats_at task m node) (fresh_at task m node) (nodes_at task settings m node)

-- why a search ends so at a moment
abbrev pub IsEnd : PlanningTask → Settings → ℕ → Moment → How → Type 0
IsEnd task settings tuples m (Found plan) =
    (node : Node) × (first_waiting m.nodes ≡ Some node) × (node.generated.counters.0 ≡ 0)
    × (plan ≡ (path_at m.paths node.generated.number).acts)
IsEnd task settings tuples m Emptied = first_waiting m.nodes ≡ None
IsEnd task settings tuples m Budget =
    (node : Node) × (first_waiting m.nodes ≡ Some node) × (node.generated.counters.0 ≡ 0 → ⊥)
    × (length m.events ≡ settings.budget)
IsEnd task settings tuples m (Words pairs) =
    (exceeds settings.words pairs tuples ≡ true)
    × ((pairs ≡ 1) ⊎ ((node : Node) × (first_waiting m.nodes ≡ Some node) × (pairs ≡ length (pairs_in (all_at task m node)))))

-- what a step has led to
abbrev pub IsStep : PlanningTask → Settings → ℕ → Moment → Outcome → Type 0
IsStep task settings tuples m (Goes next) = (node : Node) × IsExpansion task settings tuples m next node
IsStep task settings tuples m (Ends how) = IsEnd task settings tuples m how

module _ (task : PlanningTask) (settings : Settings) (tuples : ℕ) (m : Moment) where
  at_expand : (node : Node) → first_waiting m.nodes ≡ Some node → (node.generated.counters.0 ≡ 0 → ⊥) →
      (length m.events ≡ settings.budget → ⊥) → IsStep task settings tuples m (expand task settings tuples m node)
  at_expand node first unmet spare =
      by (exceeds settings.words (length (pairs_in (all_at task m node))) tuples) refl where
        by : (b : Bool) → exceeds settings.words (length (pairs_in (all_at task m node))) tuples ≡ b →
            IsStep task settings tuples m (elim b as (λ _. Outcome) [
              | true ↦ Ends (Words (length (pairs_in (all_at task m node))))
              | false ↦ Goes (expanded m node (repeats_at task m node) (fresh_at task m node) (nodes_at task settings m node))
            ])
        by true many = (many, inr (node, first, refl))
        by false few = (node, record { first = first; unmet = unmet; spare = spare; few = few; next_is = refl })

  at_budget : (node : Node) → first_waiting m.nodes ≡ Some node → (node.generated.counters.0 ≡ 0 → ⊥) →
      (b : Bool) → (length m.events == settings.budget) ≡ b →
      IsStep task settings tuples m (elim b as (λ _. Outcome) [ true ↦ Ends Budget | false ↦ expand task settings tuples m node ])
  at_budget node first unmet true spent = (node, first, unmet, eqb-true (length m.events) settings.budget spent)
  at_budget node first unmet false spare = at_expand node first unmet (eqb-false (length m.events) settings.budget spare)

  at_goal : (node : Node) → first_waiting m.nodes ≡ Some node → (b : Bool) → (node.generated.counters.0 == 0) ≡ b →
      IsStep task settings tuples m (elim b as (λ _. Outcome) [
        | true ↦ Ends (Found (path_at m.paths node.generated.number).acts)
        | false ↦ elim (length m.events == settings.budget) as (λ _. Outcome) [ true ↦ Ends Budget | false ↦ expand task settings tuples m node ]
      ])
  at_goal node first true met = (node, first, eqb-true node.generated.counters.0 0 met, refl)
  at_goal node first false unmet =
      at_budget node first (eqb-false node.generated.counters.0 0 unmet) (length m.events == settings.budget) refl

  at_look : (o : Option Node) → first_waiting m.nodes ≡ o → IsStep task settings tuples m (look_at task settings tuples m o)
  at_look None first = first
  at_look (Some node) first = at_goal node first (node.generated.counters.0 == 0) refl

  pub at_step : IsStep task settings tuples m (step task settings tuples m)
  at_step = at_look (first_waiting m.nodes) refl

-- ---- runs
-- what holds at the end of a run: what each expansion keeps, and the reason for the ending
abbrev pub AtEnd : PlanningTask → Settings → ℕ → (Moment → Type 0) → How × Moment → Type 0
AtEnd task settings tuples P end = P end.1 × IsEnd task settings tuples end.1 end.0

module _ (task : PlanningTask) (settings : Settings) (tuples : ℕ) (P : Moment → Type 0)
    (keep : (m next : Moment) (node : Node) → P m → IsExpansion task settings tuples m next node → P next) where
  steps_end : (steps : ℕ) (m : Moment) → P m → length m.events ≤ settings.budget → length m.events + steps ≡ settings.budget + 1 →
      AtEnd task settings tuples P (run_from task settings tuples steps m)
  steps_end zero m holds few left = absurd (omega arith)
  steps_end (suc steps) m holds few left = by (step task settings tuples m) (at_step task settings tuples m) (steps_end steps) where
    by : (o : Outcome) → IsStep task settings tuples m o →
        ((next : Moment) → P next → length next.events ≤ settings.budget → length next.events + steps ≡ settings.budget + 1 →
        AtEnd task settings tuples P (run_from task settings tuples steps next)) →
        AtEnd task settings tuples P (elim o as (λ _. How × Moment) [ Goes next ↦ run_from task settings tuples steps next | Ends how ↦ (how, m) ])
    by (Goes next) (node, x) rest =
        let count : length next.events ≡ length m.events + 1 =
        ap (λ n. length n.events) x.next_is
        ∙ length_push m.events (event_of node (repeats_at task m node) (borns_of (fresh_at task m node) (nodes_at task settings m node))) in
        let spare : length m.events ≡ settings.budget → ⊥ = x.spare in
        rest next (keep m next node holds x) (omega arith) (omega arith)
    by (Ends how) end rest = (holds, end)

  pub at_run : P (opening task settings) → AtEnd task settings tuples P (run task settings tuples)
  at_run start = by (exceeds settings.words 1 tuples) refl where
    by : (b : Bool) → exceeds settings.words 1 tuples ≡ b →
        AtEnd task settings tuples P (elim b as (λ _. How × Moment) [
          | true ↦ (Words 1, opening task settings)
          | false ↦ run_from task settings tuples (settings.budget + 1) (opening task settings)
        ])
    by true many = (start, (many, inl refl))
    by false few = steps_end (settings.budget + 1) (opening task settings) start (omega arith) (omega arith)
