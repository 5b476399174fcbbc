use Rattle.std.proofs.Common.{◌≡◌, ◌∙◌, true, false, length, sym, ap, subst, rules}
use Rattle.wp_tuples.specs.Placing.{place_in}
use Rattle.wp_watch.specs.Places.{AreAfter}
use Rattle.wp_novel.specs.NoveltyTables.{TablesOver, placed}
use Rattle.wp_plain.specs.Places.{places_in}
use Rattle.wp_plain.specs.Pairs.{exceeds}
use Rattle.wp_plain.specs.Run.{opening, ending_of}
use Rattle.wp_plain.specs.Steps.{Asked, end_of}
use Rattle.wp_plain.specs.Laws.{AnswersFor}
use Rattle.wp_commit.specs.Searched.{IsIndexFor, StandsAt}
use Rattle.wp_commit.proofs.CountedLemmas.{counted_tuples, counted_here}
use Rattle.wp_commit.proofs.best_first.search_over.Goals as goal

pub opening-requires-clause-index : goal.opening-requires-clause-index
opening-requires-clause-index g c κs bounds =
    subst (λ (a : Asked). IsIndexFor a.task a.settings (g.P.Places.places c.args.tables.now.index)) (sym c.in_ok-own.ensures) c.requires.index

pub opening-requires-clause-few : goal.opening-requires-clause-few
opening-requires-clause-few g c κs bounds =
    let tested : c.exceeds.result ≡ false = search rules in
    (λ j. exceeds ((ap (λ (a : Asked). a.settings.words) c.in_ok-own.ensures) j) 1 (sym c.len-tuples.ensures.value j)) ∙ (sym c.exceeds.ensures ∙ tested)

pub search_from-requires-clause-opens : goal.search_from-requires-clause-opens
search_from-requires-clause-opens g c =
    let task = c.args.task.now in
    let settings = c.args.settings.now in
    let tables = placed g.P.Places.places c.opening.new.tables in
    let s = c.in_ok-searched.searched in
    let own = c.in_ok-own.own in
    let asked : own ≡ c.of-asked.result = c.in_ok-own.ensures ∙ sym c.of-asked.ensures in
    let stands : StandsAt own.task own.settings s tables (opening own.task own.settings) = c.in_ok-searched.ensures.stands in (
      record {
        same = asked;
        all = ap (λ (a : Asked). a.tuples) c.in_ok-own.ensures ∙ (c.len-tuples.ensures.value ∙ sym (ap (λ i. i.len) c.in_ok-searched.ensures.index));
        pairs_are = sym (ap length stands.holds.words.pairs);
        works = record {
          find_takes = λ tables children. search rules;
          find_gives = λ tables children pairs post. search rules;
          enter_takes = λ run s tables broods number x can. search rules;
          enter_gives = λ run s tables broods number x parts later left post. search rules;
        };
        fit = c.new.ensures.fits own.task s.nodes;
      },
      subst (λ (a : Asked). StandsAt own.task own.settings s tables (opening a.task a.settings)) asked stands,
    )

pub returns-then-exceeds-clause-answers : goal.returns-then-exceeds-clause-answers
returns-then-exceeds-clause-answers g c =
    let task = c.args.task.now in
    let settings = c.args.settings.now in
    let index = g.P.Places.places c.args.tables.now.index in
    let many : exceeds settings.words 1 index.len ≡ true = ap (exceeds settings.words 1) (sym c.len-tuples.ensures.value) ∙ (sym c.exceeds.ensures ∙ c.if-exceeds.true) in
    subst (AnswersFor task settings index.len) (sym (c.root_alone.ensures.ending task settings index.len many))
    (c.endings_answer.ensures.counted task settings index.len (counted_tuples task settings index c.requires.range c.requires.index c.len-tuples.ensures.apart c.tuples_have_places.ensures)
    (place_in index) c.atoms.ensures.fits
    (counted_here task settings index c.requires.range c.requires.index c.len-tuples.ensures.apart c.tuples_have_places.ensures))

pub returns-clause-answers : goal.returns-clause-answers
returns-clause-answers g c =
    let task = c.args.task.now in
    let settings = c.args.settings.now in
    let index = g.P.Places.places c.args.tables.now.index in
    let tuples : c.len-tuples.result ≡ index.len = c.len-tuples.ensures.value in
    let asked : c.of-asked.result ≡ record { task = task; settings = settings; tuples = index.len } =
    c.of-asked.ensures ∙ (λ j. (let a : Asked = record { task = task; settings = settings; tuples = tuples j } in a)) in
    subst (AnswersFor task settings index.len) (sym (c.in_ok-ending.ensures.ending ∙ ap (λ (a : Asked). ending_of a.task a.settings a.tuples) asked))
    (c.endings_answer.ensures.counted task settings index.len (counted_tuples task settings index c.requires.range c.requires.index c.len-tuples.ensures.apart c.tuples_have_places.ensures)
    (place_in index) c.atoms.ensures.fits
    (counted_here task settings index c.requires.range c.requires.index c.len-tuples.ensures.apart c.tuples_have_places.ensures))

pub returns-clause-events : goal.returns-clause-events
returns-clause-events g c list untold =
    let places = λ (w : _).
    places_in (λ (z : _). (goal.Watch-dyn g z).kind z.1) (λ (z : _). (goal.Watch-dyn g z).until z.1) (λ (z : _). (goal.Watch-dyn g z).told z.1) w in
    let task = c.args.task.now in
    let settings = c.args.settings.now in
    let index = g.P.Places.places c.args.tables.now.index in
    let tuples : c.len-tuples.result ≡ index.len = c.len-tuples.ensures.value in
    let asked : c.of-asked.result ≡ record { task = task; settings = settings; tuples = index.len } =
    c.of-asked.ensures ∙ (λ j. (let a : Asked = record { task = task; settings = settings; tuples = tuples j } in a)) in
    subst (λ (a : Asked). AreAfter list (end_of a).1.events (places c.search_from.new.watchers)) asked (c.in_ok-ending.ensures.events list untold)
