use Rattle.std.proofs.Common.{◌≡◌, ◌+◌, ◌-◌}
use Rattle.wp_plain.specs.Places.{places_in}
use Rattle.wp_plain.specs.Run.{Moment, run_from}
use Rattle.wp_plain.specs.Steps.{IsBounded, StandsAtSome, AreTold}
use Rattle.wp_plain.proofs.best_first.take_steps.Given as goal

abbrev pub invariant-loop-step : goal.invariant-loop-step
invariant-loop-step g l =
    let places = λ (w : _).
    places_in (λ (z : _). (goal.Watch-dyn g z).kind z.1) (λ (z : _). (goal.Watch-dyn g z).until z.1) (λ (z : _). (goal.Watch-dyn g z).told z.1) w in
    let asked = l.run in
    let stood = g.S.BestFirst.stands in
    record {
      stands : StandsAtSome (stood l.search l.lent asked) asked.settings (places l.watchers);
      ran : (m : Moment) → stood l.fn.search l.fn.lent asked m → IsBounded asked.settings m →
          (now : Moment) × stood l.search l.lent asked now × IsBounded asked.settings now
          × (run_from asked.task asked.settings asked.tuples ((asked.settings.budget + 1) - l._step) now ≡ run_from asked.task asked.settings asked.tuples (asked.settings.budget + 1) m)
          × AreTold m.events now.events (places l.fn.watchers) (places l.watchers);
    }
