-- The laws of an ending, all of them.
use Rattle.std.proofs.Common.{◌≡◌, ℕ, List, Option, sym, ap, subst, ◌∙◌}
use Rattle.wp_task.specs.Task.{PlanningTask}
use Rattle.wp_task.specs.Novelty.{tuples_in}
use Rattle.wp_watch.specs.declared.watch.WatchKind.{WatchKind}
use Rattle.wp_watch.specs.Places.{Place, AreAfter}
use Rattle.wp_plain.specs.declared.settings.Settings.{Settings}
use Rattle.wp_plain.specs.declared.ending.Counts.{Counts}
use Rattle.wp_plain.specs.declared.ending.Ending.{Ending}
use Rattle.wp_plain.specs.declared.ending.How.{How}
use Rattle.wp_plain.specs.Pairs.{all_tuples, place_in}
use Rattle.wp_plain.specs.Run.{Moment, run, counts_of, ending_from, ending_of}
use Rattle.wp_plain.specs.Laws.{EndingsAnswer, EndingsOfAllAnswer}
use Rattle.wp_plain.proofs.FoundLemmas.{found_is_plan}
use Rattle.wp_plain.proofs.EmptiedLemmas.{emptied_has_no_plan}
use Rattle.wp_plain.proofs.CounterPairs.{pairs_are_few}
use Rattle.wp_plain.proofs.NewTuples.{all_are_counted}
use Rattle.wp_plain.proofs.LimitLemmas.{budget_is_enough, budget_is_spent, kept_states, words_are_exceeded, expansions_are_few, limits_are_enough}

pub endings_answer : EndingsAnswer
endings_answer task settings tuples counted place fits counting = record {
  found = found_is_plan task settings tuples;
  none = emptied_has_no_plan task settings tuples;
  few = λ kbfws. expansions_are_few task settings tuples counted place fits kbfws counting;
  pairs = pairs_are_few task settings tuples fits;
  unspent = λ kbfws. budget_is_enough task settings tuples counted place fits kbfws counting;
  budget = λ is. (budget_is_spent task settings tuples is).0;
  words = words_are_exceeded task settings tuples;
  states = λ f5. kept_states task settings tuples f5;
  decided = λ states f5. limits_are_enough task settings tuples states fits f5;
}

pub endings_of_all_answer : EndingsOfAllAnswer
endings_of_all_answer task settings fits =
    let tuples = tuples_in settings.width task.atoms in
    endings_answer task settings (all_tuples task settings) tuples (place_in tuples) fits (all_are_counted task settings.width)

-- ---- how a run ends
module _ (task : PlanningTask) (settings : Settings) (tuples : ℕ) where
  -- how it ended, with what was counted
  pub ending_is : (how : How) (counts : Counts) (end : Moment) → run task settings tuples ≡ (how, end) → counts ≡ counts_of end →
      ◌≡◌ {A = Ending} (record { how = how; counts = counts }) (ending_of task settings tuples)
  ending_is how counts end ran counted =
      (λ j. (let x : Ending = record { how = how; counts = counted j } in x)) ∙ ap ending_from (sym ran)

  -- watchers that were told the events of the end were told those of the run
  pub told_is : (how : How) (end : Moment) (list : List (WatchKind × Option ℕ)) (places : List Place) → run task settings tuples ≡ (how, end) →
      AreAfter list end.events places → AreAfter list (run task settings tuples).1.events places
  told_is how end list places ran after = subst (λ (x : How × Moment). AreAfter list x.1.events places) (sym ran) after
