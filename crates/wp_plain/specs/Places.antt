-- Where the watchers of a search stand. A clause outside their own crate reads a box as its table of methods and its value.
use Rattle.std.specs.Prelude.{ℕ, List, Option}
use Rattle.wp_watch.specs.declared.event.Event.{Event}
use Rattle.wp_watch.specs.declared.watch.WatchKind.{WatchKind}
use Rattle.wp_watch.specs.declared.watchers.Watchers.{Watchers}
use Rattle.wp_watch.specs.Places.{Place}
use Rattle.wp_watch.specs.Slots.{places_of}

abbrev pub places_in : {X : Type 0} {V : X → Type 0} → ((x : X) × V x → WatchKind) → ((x : X) × V x → Option ℕ) → ((x : X) × V x → List Event) → Watchers X V → List Place
places_in kind until told watchers =
    places_of (λ b. kind (b.vtable, b.value)) (λ b. until (b.vtable, b.value)) (λ b. told (b.vtable, b.value)) watchers.slots.items
