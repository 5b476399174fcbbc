use Rattle.std.proofs.Common.{◌≡◌, ◌∙◌, [], List, Option, ℕ, ap, subst}
use Rattle.std.specs.Prelude.{OnOk}
use Rattle.wp_tuples.specs.TuplePlaces.{Indexed}
use Rattle.wp_watch.specs.declared.watch.WatchKind.{WatchKind}
use Rattle.wp_watch.specs.Places.{AreAfter}
use Rattle.wp_novel.specs.NoveltyTables.{TablesOver}
use Rattle.wp_plain.specs.Places.{places_in}
use Rattle.wp_plain.specs.Run.{run}
use Rattle.wp_commit.proofs.EndLemmas.{all-len}
use Rattle.wp_commit.proofs.best_first.search.Goals as goal

pub returns-clause-events : goal.returns-clause-events
returns-clause-events g c =
    let places = λ (w : _).
    places_in (λ (z : _). (goal.Watch-dyn g z).kind z.1) (λ (z : _). (goal.Watch-dyn g z).until z.1) (λ (z : _). (goal.Watch-dyn g z).told z.1) w in
    let task = c.args.task.now in
    let settings = c.args.settings.now in
    let index : Indexed = c.new-tables.result.index in
    let same : index ≡ record { atoms = task.atoms; width = settings.width } =
    ap (λ (t : TablesOver Indexed). t.index) c.new-tables.ensures.value
    ∙ (c.new-index.ensures ∙ (λ j. (let i : Indexed = record { atoms = c.atoms.ensures.value j; width = settings.width } in i))) in
    subst (λ (n : ℕ). OnOk c.search_over.result ((list : List (WatchKind × Option ℕ)) → AreAfter list [] (places c.args.watchers.now) →
    AreAfter list (run task settings n).1.events (places c.search_over.new.watchers))) (all-len task settings index same) c.search_over.ensures.events
