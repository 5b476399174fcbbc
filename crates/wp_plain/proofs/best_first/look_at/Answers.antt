use Rattle.std.proofs.Common.{◌≡◌, ◌==◌, ℕ, Option, Some, sym, ap, ◌∙◌}
use Rattle.std.proofs.lemmas.Bool.{eqb-false}
use Rattle.std.proofs.lemmas.Result.{IfOk-weaker}
use Rattle.wp_plain.specs.declared.settings.Settings.{Settings}
use Rattle.wp_plain.specs.declared.ending.Counts.{Counts}
use Rattle.wp_plain.specs.declared.ending.How.{How}
use Rattle.wp_plain.specs.Places.{places_in}
use Rattle.wp_plain.specs.Nodes.{Node}
use Rattle.wp_plain.specs.Run.{Moment, expand, look_at}
use Rattle.wp_plain.specs.Steps.{IsSpare, StepsAt}
use Rattle.wp_plain.proofs.RunLemmas.{is_taken, Steps-same}
use Rattle.wp_plain.proofs.best_first.look_at.Goals as goal

pub returns : goal.returns
returns g c =
    let places = λ (w : _).
    places_in (λ (z : _). (goal.Watch-dyn g z).kind z.1) (λ (z : _). (goal.Watch-dyn g z).until z.1) (λ (z : _). (goal.Watch-dyn g z).told z.1) w in
    let asked = c.args.run.now in
    let number = c.args.number in
    let search_is = g.S.BestFirst in
    let taken : Moment → Node → Type 0 = λ m node. search_is.has_taken c.args.search.now c.args.lent.now asked m node number in
    let stands : Moment → Type 0 = search_is.stands c.expand.new.search c.expand.new.lent asked in
    let holds : Moment → Type 0 = search_is.holds c.expand.new.search c.expand.new.lent asked in
    let before = places c.args.watchers.now in
    let later = places c.expand.new.watchers in
    IfOk-weaker c.expand.result
    (λ (how : Option How). StepsAt (λ m node. taken m node × IsSpare asked.settings m) stands holds asked.settings (expand asked.task asked.settings asked.tuples) before later how)
    (λ (how : Option How). StepsAt taken stands holds asked.settings (λ m node. look_at asked.task asked.settings asked.tuples m (Some node)) before later how)
    (λ how went m node at bounded.
    let unmet : node.generated.counters.0 ≡ 0 → ⊥ =
    eqb-false node.generated.counters.0 0 (sym (c.has_goals.ensures c.args.lent.now asked m node at) ∙ c.if-has_goals.false) in
    let counted = c.counts.ensures c.args.lent.now asked m (g.met.S.BestFirst.taken_holds c.args.search.now c.args.lent.now asked m node number at) in
    let spare : IsSpare asked.settings m = λ spent.
    c.if-counts-settings.false (ap (λ (x : Counts). x.expanded) counted ∙ (spent ∙ sym (ap (λ (s : Settings). s.budget) c.settings.ensures.value))) in
    Steps-same stands holds asked.settings (look_at asked.task asked.settings asked.tuples m (Some node)) (expand asked.task asked.settings asked.tuples m node) m before later how
    ((is_taken asked.task asked.settings asked.tuples).spare m node unmet spare)
    (went m node (at, spare) bounded))
    c.expand.ensures
