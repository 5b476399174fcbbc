use Rattle.std.proofs.Common.{◌≡◌, ◌+◌, ◌-◌, ℕ, suc, Option, sym, ap, ◌∙◌, subst, arith}
use Rattle.wp_watch.specs.Places.{AreAfter}
use Rattle.wp_plain.specs.declared.settings.Settings.{Settings}
use Rattle.wp_plain.specs.declared.ending.How.{How}
use Rattle.wp_plain.specs.Places.{places_in}
use Rattle.wp_plain.specs.Run.{Moment, step, run_from}
use Rattle.wp_plain.specs.Steps.{StepsFrom}
use Rattle.wp_plain.proofs.RunLemmas.{run_from-goes, run_from-ends}
use Rattle.wp_plain.proofs.best_first.take_steps.Goals as goal

pub returns-in-Some : goal.returns-in-Some
returns-in-Some g c m stands bounded =
    let places = λ (w : _).
    places_in (λ (z : _). (goal.Watch-dyn g z).kind z.1) (λ (z : _). (goal.Watch-dyn g z).until z.1) (λ (z : _). (goal.Watch-dyn g z).told z.1) w in
    let asked = c.args.run.now in
    let all = run_from asked.task asked.settings asked.tuples in
    let before = places c.loop-step.watchers in
    let later = places c.step.new.watchers in
    let now = c.loop-step.invariant.ran m stands bounded in
    let went = subst (λ (how : Option How). StepsFrom (g.S.BestFirst.stands c.loop-step.search c.loop-step.lent asked) (g.S.BestFirst.stands c.step.new.search c.step.new.lent asked) (g.S.BestFirst.holds c.step.new.search c.step.new.lent asked)
    asked.settings (step asked.task asked.settings asked.tuples) before later how) c.in-Some.is c.in_ok-how.ensures now.0 now.1 now.2 in
    let bound = ap (λ (s : Settings). s.budget) c.settings.ensures.value in
    let left : suc (asked.settings.budget - c.loop-step._step) ≡ (asked.settings.budget + 1) - c.loop-step._step = omega (arith, bound) in (
      now.0,
      went.0,
      now.2,
      sym (ap (λ (n : ℕ). all n now.0) left ∙ now.3)
          ∙ run_from-ends asked.task asked.settings asked.tuples (asked.settings.budget - c.loop-step._step) now.0 c.in-Some.how went.1,
      λ list after. subst (AreAfter list now.0.events) (sym went.2) (now.4 list after),
    )

pub loop-step-preserved : goal.loop-step-preserved
loop-step-preserved g c =
    let places = λ (w : _).
    places_in (λ (z : _). (goal.Watch-dyn g z).kind z.1) (λ (z : _). (goal.Watch-dyn g z).until z.1) (λ (z : _). (goal.Watch-dyn g z).told z.1) w in
    let asked = c.args.run.now in
    let all = run_from asked.task asked.settings asked.tuples in
    let before = places c.loop-step.watchers in
    let later = places c.step.new.watchers in
    let goes = subst (λ (how : Option How). StepsFrom (g.S.BestFirst.stands c.loop-step.search c.loop-step.lent asked) (g.S.BestFirst.stands c.step.new.search c.step.new.lent asked) (g.S.BestFirst.holds c.step.new.search c.step.new.lent asked)
    asked.settings (step asked.task asked.settings asked.tuples) before later how) c.in_default.is c.in_ok-how.ensures in
    let any = c.loop-step.invariant.stands in
    let first = goes any.0 any.1 any.2 in
    let bound = ap (λ (s : Settings). s.budget) c.settings.ensures.value in
    let left : suc (asked.settings.budget - c.loop-step._step) ≡ (asked.settings.budget + 1) - c.loop-step._step = omega (arith, bound) in
    let rest : (asked.settings.budget + 1) - (c.loop-step._step + 1) ≡ asked.settings.budget - c.loop-step._step = omega arith in
    record {
      stands = (first.0, first.1, first.2, (any.3.0, first.4 any.3.0 any.3.1));
      ran = λ m stands bounded.
          let now = c.loop-step.invariant.ran m stands bounded in
          let went = goes now.0 now.1 now.2 in (
            went.0,
            went.1,
            went.2,
            ap (λ (n : ℕ). all n went.0) rest
                ∙ (sym (run_from-goes asked.task asked.settings asked.tuples (asked.settings.budget - c.loop-step._step) now.0 went.0 went.3)
                ∙ (ap (λ (n : ℕ). all n now.0) left ∙ now.3)),
            λ list after. went.4 list (now.4 list after),
          );
    }

pub returns : goal.returns
returns g c m stands bounded =
    let asked = c.args.run.now in
    let now = c.loop-step.invariant.ran m stands bounded in
    let bound = ap (λ (s : Settings). s.budget) c.settings.ensures.value in
    let none : (asked.settings.budget + 1) - c.loop-step._step ≡ 0 = omega (arith, bound) in (
      now.0,
      g.met.S.BestFirst.standing_holds c.loop-step.search c.loop-step.lent asked now.0 now.1,
      now.2,
      sym now.3 ∙ ap (λ (n : ℕ). run_from asked.task asked.settings asked.tuples n now.0) none,
      now.4,
    )
