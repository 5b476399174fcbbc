use Rattle.std.proofs.Common.{◌≡◌, ◌∙◌, true, [], List, Option, ℕ, ap, sym, subst}
use Rattle.std.specs.Prelude.{OnOk}
use Rattle.std.proofs.lemmas.Result.{IfOk-weaker}
use Rattle.wp_watch.specs.declared.watch.WatchKind.{WatchKind}
use Rattle.wp_watch.specs.Places.{AreAfter}
use Rattle.wp_plain.specs.declared.ending.Ending.{Ending}
use Rattle.wp_plain.specs.Places.{places_in}
use Rattle.wp_plain.specs.Pairs.{all_tuples, tuple_count, exceeds}
use Rattle.wp_plain.specs.Run.{opening, ending_of}
use Rattle.wp_plain.specs.Steps.{Asked, end_of}
use Rattle.wp_plain.specs.Explored.{StandsFor}
use Rattle.wp_plain.specs.Laws.{AnswersFor}
use Rattle.wp_plain.proofs.AnswerLemmas.{endings_of_all_answer}
use Rattle.wp_plain.proofs.search.plain_search.Goals as goal

pub returns-then-exceeds-clause-answers : goal.returns-then-exceeds-clause-answers
returns-then-exceeds-clause-answers g c =
    let task = c.args.task.now in
    let settings = c.args.settings.now in
    let tuples : c.tuple_count-tuples.result ≡ all_tuples task settings = c.tuple_count-tuples.ensures.value ∙ ap (tuple_count settings.width) c.atoms.ensures.value in
    let many : exceeds settings.words 1 (all_tuples task settings) ≡ true = ap (exceeds settings.words 1) (sym tuples) ∙ (sym c.exceeds.ensures ∙ c.if-exceeds.true) in
    subst (AnswersFor task settings (all_tuples task settings)) (sym (c.root_alone.ensures.ending task settings (all_tuples task settings) many))
    (endings_of_all_answer task settings c.atoms.ensures.fits)

pub search_from-requires-clause-opens : goal.search_from-requires-clause-opens
search_from-requires-clause-opens g c =
    subst (λ (a : Asked). StandsFor a.task c.in_ok-explored.explored (opening a.task a.settings)) (sym c.of-run.ensures) c.in_ok-explored.ensures

pub returns-clause-answers : goal.returns-clause-answers
returns-clause-answers g c =
    let task = c.args.task.now in
    let settings = c.args.settings.now in
    let tuples : c.tuple_count-tuples.result ≡ all_tuples task settings = c.tuple_count-tuples.ensures.value ∙ ap (tuple_count settings.width) c.atoms.ensures.value in
    let asked : c.of-run.result ≡ record { task = task; settings = settings; tuples = all_tuples task settings } =
    c.of-run.ensures ∙ (λ j. (let a : Asked = record { task = task; settings = settings; tuples = tuples j } in a)) in
    IfOk-weaker c.search_from.result
    (λ (ending : Ending). ending ≡ ending_of c.of-run.result.task c.of-run.result.settings c.of-run.result.tuples)
    (AnswersFor task settings (all_tuples task settings))
    (λ ending is. subst (AnswersFor task settings (all_tuples task settings)) (sym (is ∙ ap (λ (a : Asked). ending_of a.task a.settings a.tuples) asked))
    (endings_of_all_answer task settings c.atoms.ensures.fits))
    c.search_from.ensures.ending

pub returns-clause-events : goal.returns-clause-events
returns-clause-events g c =
    let places = λ (w : _).
    places_in (λ (z : _). (goal.Watch-dyn g z).kind z.1) (λ (z : _). (goal.Watch-dyn g z).until z.1) (λ (z : _). (goal.Watch-dyn g z).told z.1) w in
    let task = c.args.task.now in
    let settings = c.args.settings.now in
    let tuples : c.tuple_count-tuples.result ≡ all_tuples task settings = c.tuple_count-tuples.ensures.value ∙ ap (tuple_count settings.width) c.atoms.ensures.value in
    let asked : c.of-run.result ≡ record { task = task; settings = settings; tuples = all_tuples task settings } =
    c.of-run.ensures ∙ (λ j. (let a : Asked = record { task = task; settings = settings; tuples = tuples j } in a)) in
    subst (λ (a : Asked). OnOk c.search_from.result ((list : List (WatchKind × Option ℕ)) → AreAfter list [] (places c.args.watchers.now) →
    AreAfter list (end_of a).1.events (places c.search_from.new.watchers))) asked c.search_from.ensures.events
