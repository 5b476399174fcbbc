-- What holds of places, whatever the events are.
use Rattle.std.specs.Prelude.{◌≡◌, ℕ, ◌+◌, ◌^◌, ◌<◌, List, [], ◌∷◌, ◌++◌, length, map, fold, All, Option}
use Rattle.wp_watch.specs.declared.event.Event.{Event}
use Rattle.wp_watch.specs.declared.watch.WatchKind.{WatchKind}
use Rattle.wp_watch.specs.Sums.{born_in, repeats_in}
use Rattle.wp_watch.specs.Places.{Place, CanTellPlace, told_place, place_after, text_of, texts_after, AreAfter}

-- told one after another, a list of events leaves a watcher's first place at its place after them
abbrev pub PlacesFollow : Type 0
PlacesFollow = (kind : WatchKind) (until : Option ℕ) (events : List Event) →
    fold (λ place event. told_place event place) (place_after kind until []) events ≡ place_after kind until events

-- places after some events are places after one more, once it was told to each
abbrev pub OneMoreIsTold : Type 0
OneMoreIsTold = (watchers : List (WatchKind × Option ℕ)) (events : List Event) (places : List Place) (event : Event) →
    AreAfter watchers events places → AreAfter watchers (events ++ event ∷ []) (map (told_place event) places)

-- and one more can be told to each while the sums over all events stay small
abbrev pub OneMoreCanBeTold : Type 0
OneMoreCanBeTold = (watchers : List (WatchKind × Option ℕ)) (events : List Event) (places : List Place) (event : Event) →
    AreAfter watchers events places
    → repeats_in events + event.repeats < 2 ^ 63
    → born_in events + length event.born < 2 ^ 63
    → All (CanTellPlace event) places

-- places after some events give the texts of what each watcher wants of them
abbrev pub TextsAreSaid : Type 0
TextsAreSaid = (watchers : List (WatchKind × Option ℕ)) (events : List Event) (places : List Place) →
    AreAfter watchers events places → map text_of places ≡ texts_after watchers events
