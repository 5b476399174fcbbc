-- Where a watcher stands: it is live, with the events that it was told, or it is done, with its text.
use Rattle.std.specs.Prelude.{◌≡◌, ℕ, ◌+◌, ◌^◌, ◌<◌, ◌==◌, nat_lt, Bool, true, List, [], ◌∷◌, ◌++◌, length, take, map, Option, Some, None, if◌then◌else◌}
use Rattle.std.specs.Option.{ForSome}
use Rattle.wp_watch.specs.declared.event.Event.{Event}
use Rattle.wp_watch.specs.declared.watch.Heed.{Heed}
use Rattle.wp_watch.specs.declared.watch.Heed.TheVariants.{Go, Done}
use Rattle.wp_watch.specs.declared.watch.WatchKind.{WatchKind}
use Rattle.wp_watch.specs.Sums.{born_in, repeats_in}
use Rattle.wp_watch.specs.Texts.{says}

-- `until` is how many events a watcher wants, where it does not want all
pub data Place : Type 0 where
  live : (kind : WatchKind) (until : Option ℕ) (told : List Event) → Place
  done : (text : List ℕ) → Place

-- one more event can be told: it is wanted, and the sums over all that were told stay small
pub record CanTell (until : Option ℕ) (told : List Event) (event : Event) : Type 0 where
  pub wanted : ForSome until (λ count. length told < count)
  pub repeats : repeats_in told + event.repeats < 2 ^ 63
  pub born : born_in told + length event.born < 2 ^ 63

abbrev pub CanTellPlace : Event → Place → Type 0
CanTellPlace event (live kind until told) = CanTell until told event
CanTellPlace event (done text) = Unit {0}

-- the answer of a watcher that was told so many events
abbrev pub heed_at : Option ℕ → ℕ → Heed
heed_at None count = Go
heed_at (Some last) count = if count == last then Done else Go

-- the answer of a watcher that was told these events
abbrev pub heed_of : Option ℕ → List Event → Heed
heed_of until told = heed_at until (length told)

abbrev pub place_as : Heed → WatchKind → Option ℕ → List Event → Place
place_as Go kind until told = live kind until told
place_as Done kind until told = done (says kind told)

-- the place after one more event; a done place hears no more
abbrev pub told_place : Event → Place → Place
told_place event (live kind until told) = place_as (heed_of until (told ++ event ∷ [])) kind until (told ++ event ∷ [])
told_place event (done text) = done text

-- the events that a watcher hears of, among all
abbrev pub wanted_of : Option ℕ → List Event → List Event
wanted_of None events = events
wanted_of (Some count) events = take count events

abbrev pub wants_more : Option ℕ → ℕ → Bool
wants_more None count = true
wants_more (Some last) count = nat_lt count last

-- the place of a watcher after all these events
abbrev pub place_after : WatchKind → Option ℕ → List Event → Place
place_after kind until events =
    if wants_more until (length events) then live kind until events else done (says kind (wanted_of until events))

-- the text that a place gives
abbrev pub text_of : Place → List ℕ
text_of (live kind until told) = says kind told
text_of (done text) = text

-- Lists of watchers, each by its kind and the number of events that it wants.
abbrev pub places_after : List (WatchKind × Option ℕ) → List Event → List Place
places_after watchers events = map (λ (watcher : WatchKind × Option ℕ). place_after watcher.0 watcher.1 events) watchers

-- what the watchers say of a search with these events
abbrev pub texts_after : List (WatchKind × Option ℕ) → List Event → List (List ℕ)
texts_after watchers events =
    map (λ (watcher : WatchKind × Option ℕ). says watcher.0 (wanted_of watcher.1 events)) watchers

-- each place is the place of its watcher after the events
pub record AreAfter (watchers : List (WatchKind × Option ℕ)) (events : List Event) (places : List Place) : Type 0 where
  pub each : places ≡ places_after watchers events

-- no place was told anything
abbrev pub AreUntold : List Place → Type 0
AreUntold places = (watchers : List (WatchKind × Option ℕ)) × AreAfter watchers [] places
