-- The places of boxed watchers. What a box means is handed in, since only a clause can read it.
use Rattle.std.specs.Prelude.{ℕ, List, map, Option, Some, None}
use Rattle.std.specs.Global.{Global}
use Rattle.std.specs.declared.dyn_box.DynBox.{DynBox}
use Rattle.wp_watch.specs.declared.event.Event.{Event}
use Rattle.wp_watch.specs.declared.slot.Slot.{Slot}
use Rattle.wp_watch.specs.declared.watch.WatchKind.{WatchKind}
use Rattle.wp_watch.specs.Places.{Place, live, done}

abbrev pub place_of : {B : Type 0} → (B → WatchKind) → (B → Option ℕ) → (B → List Event) → Option B → List ℕ → Place
place_of kind until told None text = done text
place_of kind until told (Some watch) text = live (kind watch) (until watch) (told watch)

abbrev pub places_of : {X : Type 0} {V : X → Type 0} → (DynBox X Global V → WatchKind) → (DynBox X Global V → Option ℕ) → (DynBox X Global V → List Event) → List (Slot X V) → List Place
places_of kind until told slots = map (λ slot. place_of kind until told slot.watch slot.text) slots

-- the place of a watcher that was told an event, and gave its text where it was done with it
abbrev pub place_told : WatchKind → Option ℕ → List Event → Option (List ℕ) → Place
place_told kind until told None = live kind until told
place_told kind until told (Some text) = done text
