-- A step and a run, test by test.
use Rattle.std.proofs.Common.{◌≡◌, ◌==◌, ℕ, suc, ◌+◌, Bool, refl, true, false, List, [], Option, Some, None, length, sym, ap, ◌∙◌}
use Rattle.std.proofs.lemmas.Bool.{eq-eqb, ne_eqb}
use Rattle.wp_task.specs.Task.{PlanningTask}
use Rattle.wp_watch.specs.Places.{Place}
use Rattle.wp_plain.specs.declared.settings.Settings.{Settings}
use Rattle.wp_plain.specs.declared.ending.How.{How}
use Rattle.wp_plain.specs.declared.ending.How.TheVariants.{Found, Budget, Words}
use Rattle.wp_plain.specs.Nodes.{Node, path_at}
use Rattle.wp_plain.specs.Pairs.{pairs_in, exceeds}
use Rattle.wp_plain.specs.Run.{Moment, Outcome, fresh_at, all_at, nodes_at, repeats_at, expanded, IsTaken, expand, look_at, opening, run, step, run_from}
use Rattle.wp_plain.specs.Run.Outcome.{Goes, Ends}
use Rattle.wp_plain.specs.Steps.{Steps}

module _ (task : PlanningTask) (settings : Settings) (tuples : ℕ) where
  pub look_at-found : (m : Moment) (node : Node) (plan : List ℕ) → (node.generated.counters.0 == 0) ≡ true → plan ≡ (path_at m.paths node.generated.number).acts →
      look_at task settings tuples m (Some node) ≡ Ends (Found plan)
  look_at-found m node plan met plan_is =
      ap (λ b. elim b as (λ _. Outcome) [
        | true ↦ Ends (Found (path_at m.paths node.generated.number).acts)
        | false ↦ elim (length m.events == settings.budget) as (λ _. Outcome) [ true ↦ Ends Budget | false ↦ expand task settings tuples m node ]
      ]) met
      ∙ ap (λ acts. Ends (Found acts)) (sym plan_is)

  pub look_at-expands : (m : Moment) (node : Node) → (node.generated.counters.0 == 0) ≡ false → (length m.events == settings.budget) ≡ false →
      look_at task settings tuples m (Some node) ≡ expand task settings tuples m node
  look_at-expands m node unmet spare =
      ap (λ b. elim b as (λ _. Outcome) [
        | true ↦ Ends (Found (path_at m.paths node.generated.number).acts)
        | false ↦ elim (length m.events == settings.budget) as (λ _. Outcome) [ true ↦ Ends Budget | false ↦ expand task settings tuples m node ]
      ]) unmet
      ∙ ap (λ b. elim b as (λ _. Outcome) [ true ↦ Ends Budget | false ↦ expand task settings tuples m node ]) spare

  -- one step more
  pub run_from-goes : (steps : ℕ) (m next : Moment) → step task settings tuples m ≡ Goes next → run_from task settings tuples (suc steps) m ≡ run_from task settings tuples steps next
  run_from-goes steps m next goes = ap (λ o. elim o as (λ _. How × Moment) [ Goes after ↦ run_from task settings tuples steps after | Ends how ↦ (how, m) ]) goes

  pub run_from-ends : (steps : ℕ) (m : Moment) (how : How) → step task settings tuples m ≡ Ends how → run_from task settings tuples (suc steps) m ≡ (how, m)
  run_from-ends steps m how ends = ap (λ o. elim o as (λ _. How × Moment) [ Goes after ↦ run_from task settings tuples steps after | Ends end ↦ (end, m) ]) ends

  pub is_taken : IsTaken task settings tuples
  is_taken = record {
    found = λ m node met. look_at-found m node (path_at m.paths node.generated.number).acts (eq-eqb node.generated.counters.0 0 met) refl;
    spent = λ m node unmet spent.
        ap (λ b. elim b as (λ _. Outcome) [
          | true ↦ Ends (Found (path_at m.paths node.generated.number).acts)
          | false ↦ elim (length m.events == settings.budget) as (λ _. Outcome) [ true ↦ Ends Budget | false ↦ expand task settings tuples m node ]
        ]) (ne_eqb node.generated.counters.0 0 unmet)
        ∙ ap (λ b. elim b as (λ _. Outcome) [ true ↦ Ends Budget | false ↦ expand task settings tuples m node ])
        (eq-eqb (length m.events) settings.budget spent);
    spare = λ m node unmet spare.
        look_at-expands m node (ne_eqb node.generated.counters.0 0 unmet) (ne_eqb (length m.events) settings.budget spare);
    many = λ m node many. ap (tested m node) many;
    few = λ m node few. ap (tested m node) few;
    goes = run_from-goes;
    ends = run_from-ends;
    stops = λ many. ap begun many;
    begins = λ few. ap begun few;
  } where
    tested : Moment → Node → Bool → Outcome
    tested m node b = elim b as (λ _. Outcome) [
      | true ↦ Ends (Words (length (pairs_in (all_at task m node))))
      | false ↦ Goes (expanded m node (repeats_at task m node) (fresh_at task m node) (nodes_at task settings m node))
    ]

    begun : Bool → How × Moment
    begun b = elim b as (λ _. How × Moment) [
      | true ↦ (Words 1, opening task settings)
      | false ↦ run_from task settings tuples (settings.budget + 1) (opening task settings)
    ]

-- outcomes that are the same
pub Steps-same : (stands holds : Moment → Type 0) (settings : Settings) (outcome other : Outcome) (m : Moment) (places later : List Place) (how : Option How) →
    outcome ≡ other → Steps stands holds settings other m places later how → Steps stands holds settings outcome m places later how
Steps-same stands holds settings outcome other m places later None same went = (went.0, went.1, went.2, same ∙ went.3, went.4)
Steps-same stands holds settings outcome other m places later (Some end) same went = (went.0, same ∙ went.1, went.2)
