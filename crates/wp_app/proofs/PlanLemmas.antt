-- The plan that a search finds has numbers of actions alone.
use Rattle.std.proofs.Common.{◌≡◌, ℕ, ◌<◌, ◌&&◌, Bool, true, false, List, [], ◌∷◌, length, refl, sym, ap, subst}
use Rattle.std.specs.Prelude.{nat_lt, Option, None, Result}
use Rattle.std.specs.List.{AllByRecursion}
use Rattle.std.proofs.lemmas.Bool.{and_parts, ltb-true}
use Rattle.std.proofs.lemmas.List.Elements.{All-from_recursion}
use Rattle.wp_lift.specs.Problem.{Lifting}
use Rattle.wp_ground.specs.declared.grounding.Grounded.{Grounded}
use Rattle.wp_task.specs.declared.acts.Act.{Act}
use Rattle.wp_task.specs.Task.{PlanningTask, act_at, applies, result_of, leads_to, has_goals}
use Rattle.wp_plain.specs.declared.settings.Settings.{Settings}
use Rattle.wp_plain.specs.declared.ending.Ending.{Ending}
use Rattle.wp_plain.specs.declared.ending.How.{How}
use Rattle.wp_plain.specs.declared.ending.How.TheVariants.{Found, Emptied, Budget, Words}
use Rattle.wp_plain.specs.Laws.{FoundIsPlan}
use Rattle.wp_plain.specs.Pairs.{all_tuples}
use Rattle.wp_plain.specs.Run.{ending_of}
use Rattle.wp_report.specs.Endings.{IsPlanBelow}
use Rattle.wp_watch.specs.declared.watch.WatchKind.{WatchKind}
use Rattle.wp_app.specs.declared.inputs.Texts.{Texts}
use Rattle.wp_app.specs.declared.reply.Reply.{Reply}
use Rattle.wp_app.specs.declared.shown.Shown.{Shown}
use Rattle.wp_app.specs.declared.stop.Stop.{Stop}
use Rattle.wp_app.specs.Steps.{Step, goes, ◌>>=◌}
use Rattle.wp_app.specs.Output.{grounded_step, lifted_step, searched_reply}
use Rattle.wp_app.specs.Stops.{Meets}

passed : (goals : List ℕ) (tested : Bool) (next : Option (List Bool))
    → has_goals goals (elim tested as (λ _. Option (List Bool)) [ true ↦ next | false ↦ None ]) ≡ true
    → (tested ≡ true) × (has_goals goals next ≡ true)
passed goals true next e = (refl, e)
passed goals false next e = cc

below : (acts : List Act) (goals : List ℕ) (state : List Bool) (plan : List ℕ) → has_goals goals (leads_to acts state plan) ≡ true
    → AllByRecursion (λ (a : ℕ). a < length acts) plan
below acts goals state [] e = tt
below acts goals state (a ∷ plan) e =
    let act = act_at acts a in
    let on = passed goals (nat_lt a (length acts) && applies act state) (leads_to acts (result_of act state) plan) e in
    let there = and_parts (nat_lt a (length acts)) (applies act state) on.0 in
    (ltb-true a (length acts) there.0, below acts goals (result_of act state) plan on.1)

how_below : FoundIsPlan → (task : PlanningTask) (settings : Settings) (how : How) → (ending_of task settings (all_tuples task settings)).how ≡ how
    → IsPlanBelow (length task.acts) how
how_below found task settings (Found plan) e =
    All-from_recursion (λ (a : ℕ). a < length task.acts) plan (below task.acts task.goals task.init plan (found task settings (all_tuples task settings) plan e))
how_below found task settings Emptied e = tt
how_below found task settings Budget e = tt
how_below found task settings (Words pairs) e = tt

pub found_below : FoundIsPlan → (task : PlanningTask) (settings : Settings) (ending : Ending) → ending ≡ ending_of task settings (all_tuples task settings)
    → IsPlanBelow (length task.acts) ending.how
found_below found task settings ending same = how_below found task settings ending.how (ap (λ (end : Ending). end.how) (sym same))

-- what follows the texts of a task that is searched
abbrev pub after_texts : Shown → Settings → List (WatchKind × Option ℕ) → Texts → Step Reply
after_texts shown settings watchers texts =
    lifted_step texts.domain texts.problem >>= λ (lifted : Lifting). grounded_step lifted
    >>= λ (grounded : Grounded). goes (searched_reply shown settings watchers grounded)

-- what is shown, by an equal value
pub shows : (shown other : Shown) (settings : Settings) (watchers : List (WatchKind × Option ℕ)) (texts : Texts) (result : Result Reply Stop) → shown ≡ other
    → Meets {A = Reply} (after_texts shown settings watchers texts) result → Meets {A = Reply} (after_texts other settings watchers texts) result
shows shown other settings watchers texts result same = subst (λ (one : Shown). Meets {A = Reply} (after_texts one settings watchers texts) result) same
