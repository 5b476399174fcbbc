use Rattle.std.proofs.Common.{◌≡◌}
use Rattle.std.specs.Prelude.{map}
use Rattle.wp_watch.specs.Places.{text_of}
use Rattle.wp_watch.specs.Slots.{places_of}
use Rattle.wp_watch.proofs.watchers.Watchers.texts.Given as goal

abbrev pub invariant-loop-slot : goal.invariant-loop-slot
invariant-loop-slot g l =
    let kind = λ (b : _). (goal.Watch-dyn g (b.vtable, b.value)).kind b.value in
    let until = λ (b : _). (goal.Watch-dyn g (b.vtable, b.value)).until b.value in
    let told = λ (b : _). (goal.Watch-dyn g (b.vtable, b.value)).told b.value in
    l.texts.items ≡ map text_of (places_of kind until told l.yielded)
