-- What stands where memory was refused while an event was told.
use Rattle.std.specs.Prelude.{◌≡◌, ◌⊎◌, List, [], ◌∷◌, ◌++◌}
use Rattle.std.specs.List.{AllZip}
use Rattle.wp_watch.specs.declared.event.Event.{Event}
use Rattle.wp_watch.specs.Places.{Place, live, done, told_place}

-- a live place that was told the event and not yet asked for its text
abbrev pub unasked_place : Event → Place → Place
unasked_place event (live kind until told) = live kind until (told ++ event ∷ [])
unasked_place event (done text) = done text

-- a place is as before, or as after the event; or it was told its last event and is still live
abbrev pub IsTorn : Event → Place → Place → Type 0
IsTorn event before now = (now ≡ before) ⊎ ((now ≡ told_place event before) ⊎ (now ≡ unasked_place event before))

abbrev pub AreTorn : Event → List Place → List Place → Type 0
AreTorn event before now = AllZip (IsTorn event) before now
