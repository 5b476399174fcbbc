use Rattle.wp_watch.specs.Slots.{place_of}
use Rattle.wp_watch.proofs.SlotLemmas.{HasTold}
use Rattle.wp_watch.proofs.watchers.tell_all.Given as goal

abbrev pub invariant-loop-slot : goal.invariant-loop-slot
invariant-loop-slot g l =
    let kind = λ (b : _). (goal.Watch-dyn g (b.vtable, b.value)).kind b.value in
    let until = λ (b : _). (goal.Watch-dyn g (b.vtable, b.value)).until b.value in
    let told = λ (b : _). (goal.Watch-dyn g (b.vtable, b.value)).told b.value in
    HasTold (λ slot. place_of kind until told slot.watch slot.text) l.event l.fn.slots l.slots l.slot-index
