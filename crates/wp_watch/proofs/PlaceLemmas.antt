-- The place of a watcher, along a list of events.
use Rattle.std.proofs.Common.{◌≡◌, ℕ, ◌+◌, ◌<◌, ◌≤◌, ◌^◌, Bool, true, false, eqb, ltb, List, [], ◌∷◌, ◌++◌, length, take, refl, sym, ap, subst, ◌∙◌, arith, Some, None}
use Rattle.std.specs.Prelude.{map, fold, All, Option, if◌then◌else◌}
use Rattle.std.proofs.lemmas.Bool.{ltb-true, ltb-false, eqb-true, eqb-false, lt-ltb, le-ltb}
use Rattle.std.proofs.lemmas.List.{append_assoc, append-nil, length_push, take_all, take-append-le}
use Rattle.std.proofs.lemmas.List.Elements.{All-nil, All-cons}
use Rattle.std.proofs.lemmas.Option.{same_Some}
use Rattle.wp_watch.specs.declared.event.Event.{Event}
use Rattle.wp_watch.specs.declared.watch.Heed.TheVariants.{Go, Done}
use Rattle.wp_watch.specs.declared.watch.WatchKind.{WatchKind}
use Rattle.wp_watch.specs.Sums.{born_in, repeats_in}
use Rattle.wp_watch.specs.Texts.{says}
use Rattle.wp_watch.specs.Places.{Place, live, done, CanTellPlace, place_as, told_place, place_after, wanted_of, text_of, places_after, texts_after, AreAfter}

-- of a watcher that wants so many events
after_some : (kind : WatchKind) (last : ℕ) (events : List Event) (more : Bool) → ltb (length events) last ≡ more
    → place_after kind (Some last) events ≡ (if more then live kind (Some last) events else done (says kind (take last events)))
after_some kind last events more e =
    ap (λ (b : Bool). if b then live kind (Some last) events else done (says kind (take last events))) e

told_as : (kind : WatchKind) (last : ℕ) (told : List Event) (event : Event) (ends : Bool) → eqb (length (told ++ event ∷ [])) last ≡ ends
    → told_place event (live kind (Some last) told) ≡ place_as (if ends then Done else Go) kind (Some last) (told ++ event ∷ [])
told_as kind last told event ends e =
    ap (λ (b : Bool). place_as (if b then Done else Go) kind (Some last) (told ++ event ∷ [])) e

-- a live watcher that hears its last event, or not yet
told_live : (kind : WatchKind) (last : ℕ) (told : List Event) (event : Event) (ends : Bool) → eqb (length (told ++ event ∷ [])) last ≡ ends
    → length told < last → told_place event (live kind (Some last) told) ≡ place_after kind (Some last) (told ++ event ∷ [])
told_live kind last told event true e h =
    let all = told ++ event ∷ [] in
    let enough : length all ≤ last = omega (arith, eqb-true (length all) last e) in
    let spent : last ≤ length all = omega (arith, eqb-true (length all) last e) in
    told_as kind last told event true e
    ∙ ap (λ (heard : List Event). done (says kind heard)) (sym (take_all last all enough))
    ∙ sym (after_some kind last all false (le-ltb (length all) last spent))
told_live kind last told event false e h =
    let all = told ++ event ∷ [] in
    let below : length all < last = omega (arith, eqb-false (length all) last e, length_push told event) in
    told_as kind last told event false e ∙ sym (after_some kind last all true (lt-ltb (length all) last below))

told_some : (kind : WatchKind) (last : ℕ) (events : List Event) (event : Event) (more : Bool) → ltb (length events) last ≡ more
    → told_place event (place_after kind (Some last) events) ≡ place_after kind (Some last) (events ++ event ∷ [])
told_some kind last events event true e =
    ap (told_place event) (after_some kind last events true e)
    ∙ told_live kind last events event (eqb (length (events ++ event ∷ [])) last) refl (ltb-true (length events) last e)
told_some kind last events event false e =
    let spent : last ≤ length events = ltb-false (length events) last e in
    let still : last ≤ length (events ++ event ∷ []) = omega (arith, length_push events event) in
    ap (told_place event) (after_some kind last events false e)
    ∙ ap (λ (heard : List Event). done (says kind heard)) (sym (take-append-le last events (event ∷ []) spent))
    ∙ sym (after_some kind last (events ++ event ∷ []) false (le-ltb (length (events ++ event ∷ [])) last still))

-- told one more event, the place after some is the place after one more
pub told_place-place_after : (kind : WatchKind) (until : Option ℕ) (events : List Event) (event : Event)
    → told_place event (place_after kind until events) ≡ place_after kind until (events ++ event ∷ [])
told_place-place_after kind None events event = refl
told_place-place_after kind (Some last) events event = told_some kind last events event (ltb (length events) last) refl

fold_after : (kind : WatchKind) (until : Option ℕ) (earlier events : List Event)
    → fold (λ place event. told_place event place) (place_after kind until earlier) events ≡ place_after kind until (earlier ++ events)
fold_after kind until earlier [] = ap (place_after kind until) (sym (append-nil earlier))
fold_after kind until earlier (event ∷ rest) =
    ap (λ place. fold (λ place event. told_place event place) place rest) (told_place-place_after kind until earlier event)
    ∙ fold_after kind until (earlier ++ event ∷ []) rest
    ∙ ap (place_after kind until) (append_assoc earlier (event ∷ []) rest)

pub places_follow : (kind : WatchKind) (until : Option ℕ) (events : List Event)
    → fold (λ place event. told_place event place) (place_after kind until []) events ≡ place_after kind until events
places_follow kind until events = fold_after kind until [] events

-- the same of a list of watchers
told_all : (watchers : List (WatchKind × Option ℕ)) (events : List Event) (event : Event)
    → map (told_place event) (places_after watchers events) ≡ places_after watchers (events ++ event ∷ [])
told_all [] events event = refl
told_all (watcher ∷ rest) events event =
    ap (λ place. place ∷ map (told_place event) (places_after rest events)) (told_place-place_after watcher.0 watcher.1 events event)
    ∙ ap (λ places. place_after watcher.0 watcher.1 (events ++ event ∷ []) ∷ places) (told_all rest events event)

pub one_more_is_told : (watchers : List (WatchKind × Option ℕ)) (events : List Event) (places : List Place) (event : Event)
    → AreAfter watchers events places → AreAfter watchers (events ++ event ∷ []) (map (told_place event) places)
one_more_is_told watchers events places event after = record {
  each = ap (map (told_place event)) after.each ∙ told_all watchers events event;
}

-- a live place after some events can be told one more
can_tell_some : (kind : WatchKind) (last : ℕ) (events : List Event) (event : Event) (more : Bool) → ltb (length events) last ≡ more
    → repeats_in events + event.repeats < 2 ^ 63 → born_in events + length event.born < 2 ^ 63
    → CanTellPlace event (if more then live kind (Some last) events else done (says kind (take last events)))
can_tell_some kind last events event true e repeats born = record {
  wanted = λ count same. rw (← same_Some last count same) (ltb-true (length events) last e);
  repeats = repeats;
  born = born;
}
can_tell_some kind last events event false e repeats born = tt

can_tell : (kind : WatchKind) (until : Option ℕ) (events : List Event) (event : Event)
    → repeats_in events + event.repeats < 2 ^ 63 → born_in events + length event.born < 2 ^ 63
    → CanTellPlace event (place_after kind until events)
can_tell kind None events event repeats born = record {
  wanted = λ count same. cc;
  repeats = repeats;
  born = born;
}
can_tell kind (Some last) events event repeats born =
    can_tell_some kind last events event (ltb (length events) last) refl repeats born

can_tell_all : (watchers : List (WatchKind × Option ℕ)) (events : List Event) (event : Event)
    → repeats_in events + event.repeats < 2 ^ 63 → born_in events + length event.born < 2 ^ 63
    → All (CanTellPlace event) (places_after watchers events)
can_tell_all [] events event repeats born = All-nil (CanTellPlace event)
can_tell_all (watcher ∷ rest) events event repeats born =
    All-cons (CanTellPlace event) (place_after watcher.0 watcher.1 events) (places_after rest events)
    (can_tell watcher.0 watcher.1 events event repeats born)
    (can_tell_all rest events event repeats born)

pub one_more_can_be_told : (watchers : List (WatchKind × Option ℕ)) (events : List Event) (places : List Place) (event : Event)
    → AreAfter watchers events places
    → repeats_in events + event.repeats < 2 ^ 63 → born_in events + length event.born < 2 ^ 63
    → All (CanTellPlace event) places
one_more_can_be_told watchers events places event after repeats born =
    subst (All (CanTellPlace event)) (sym after.each) (can_tell_all watchers events event repeats born)

-- the text of a place is that of the events that its watcher wants
text_some : (kind : WatchKind) (last : ℕ) (events : List Event) (more : Bool) → ltb (length events) last ≡ more
    → text_of (if more then live kind (Some last) events else done (says kind (take last events))) ≡ says kind (take last events)
text_some kind last events true e =
    let short : length events ≤ last = omega (arith, ltb-true (length events) last e) in
    ap (says kind) (sym (take_all last events short))
text_some kind last events false e = refl

text_after : (kind : WatchKind) (until : Option ℕ) (events : List Event)
    → text_of (place_after kind until events) ≡ says kind (wanted_of until events)
text_after kind None events = refl
text_after kind (Some last) events = text_some kind last events (ltb (length events) last) refl

text_all : (watchers : List (WatchKind × Option ℕ)) (events : List Event)
    → map text_of (places_after watchers events) ≡ texts_after watchers events
text_all [] events = refl
text_all (watcher ∷ rest) events =
    ap (λ text. text ∷ map text_of (places_after rest events)) (text_after watcher.0 watcher.1 events)
    ∙ ap (λ texts. says watcher.0 (wanted_of watcher.1 events) ∷ texts) (text_all rest events)

pub texts_are_said : (watchers : List (WatchKind × Option ℕ)) (events : List Event) (places : List Place)
    → AreAfter watchers events places → map text_of places ≡ texts_after watchers events
texts_are_said watchers events places after = ap (map text_of) after.each ∙ text_all watchers events
