use Rattle.std.proofs.Common.{◌≡◌, ℕ, Option, Some, ap, subst}
use Rattle.std.proofs.lemmas.Result.{IfOk-weaker}
use Rattle.wp_plain.specs.declared.ending.How.{How}
use Rattle.wp_plain.specs.Places.{places_in}
use Rattle.wp_plain.specs.Nodes.{Node}
use Rattle.wp_plain.specs.Run.{Moment, look_at, step}
use Rattle.wp_plain.specs.Steps.{HasTakenFirst, StepsFrom, StepsAt}
use Rattle.wp_plain.proofs.RunLemmas.{Steps-same}
use Rattle.wp_plain.proofs.best_first.step.Goals as goal

pub returns-in-Some : goal.returns-in-Some
returns-in-Some g c =
    let places = λ (w : _).
    places_in (λ (z : _). (goal.Watch-dyn g z).kind z.1) (λ (z : _). (goal.Watch-dyn g z).until z.1) (λ (z : _). (goal.Watch-dyn g z).told z.1) w in
    let asked = c.args.run.now in
    let search_is = g.S.BestFirst in
    let stood : Moment → Type 0 = λ m. search_is.stands c.args.search.now c.args.lent.now asked m in
    let taken : Moment → Node → Type 0 = λ m node. search_is.has_taken c.take.new.self c.args.lent.now asked m node c.in-Some.number in
    let stands : Moment → Type 0 = λ m. search_is.stands c.look_at.new.search c.look_at.new.lent asked m in
    let holds : Moment → Type 0 = λ m. search_is.holds c.look_at.new.search c.look_at.new.lent asked m in
    let before = places c.args.watchers.now in
    let later = places c.look_at.new.watchers in
    IfOk-weaker c.look_at.result
    (λ (how : Option How). StepsAt taken stands holds asked.settings (λ m node. look_at asked.task asked.settings asked.tuples m (Some node)) before later how)
    (λ (how : Option How). StepsFrom stood stands holds asked.settings (step asked.task asked.settings asked.tuples) before later how)
    (λ how went m at bounded.
    let found = subst (λ (o : Option ℕ). HasTakenFirst (λ n. search_is.holds c.take.new.self c.args.lent.now asked n) (λ n node number. search_is.has_taken c.take.new.self c.args.lent.now asked n node number) m o)
    c.in-Some.is (c.take.ensures c.args.lent.now asked m at) in
    Steps-same stands holds asked.settings (step asked.task asked.settings asked.tuples m) (look_at asked.task asked.settings asked.tuples m (Some found.0)) m before later how
    (ap (look_at asked.task asked.settings asked.tuples m) found.1)
    (went m found.0 found.2 bounded))
    c.look_at.ensures
