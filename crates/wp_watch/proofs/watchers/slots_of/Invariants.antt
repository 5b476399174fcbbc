use Rattle.std.proofs.Common.{◌≡◌, ◌≤◌, ℕ}
use Rattle.std.specs.Prelude.{All, map}
use Rattle.std.specs.Option.{ForSome}
use Rattle.wp_watch.specs.Places.{live}
use Rattle.wp_watch.specs.Slots.{places_of}
use Rattle.wp_watch.proofs.watchers.slots_of.Given as goal

abbrev pub invariant-loop-watch : goal.invariant-loop-watch
invariant-loop-watch g l =
    let kind = λ (b : _). (goal.Watch-dyn g (b.vtable, b.value)).kind b.value in
    let until = λ (b : _). (goal.Watch-dyn g (b.vtable, b.value)).until b.value in
    let told = λ (b : _). (goal.Watch-dyn g (b.vtable, b.value)).told b.value in
    record {
      places : places_of kind until told l.slots.items ≡ map (λ watch. live (kind watch) (until watch) (told watch)) l.yielded;
      wants : All (λ watch. ForSome (until watch) (λ (count : ℕ). 1 ≤ count)) l.yielded;
    }
