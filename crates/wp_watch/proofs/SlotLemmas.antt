-- Slots that are told one after another.
use Rattle.std.proofs.Common.{◌≡◌, ℕ, ◌<◌, ◌≤◌, suc, List, [], ◌∷◌, ◌++◌, length, get_or, set, refl, sym, ap, subst, ◌∙◌, take, arith, inl, inr, Some, None}
use Rattle.std.specs.Prelude.{All, Option, map, if◌then◌else◌}
use Rattle.std.specs.List.{AllZip}
use Rattle.std.specs.Option.{ForSome}
use Rattle.std.proofs.lemmas.Bool.{cases_order, lt-ltb}
use Rattle.std.proofs.lemmas.List.{get_or-set_same, get_or-set_other, get_or-map, get_or_default, length-set, length-map, map-append}
use Rattle.std.proofs.lemmas.List.Elements.{All-head, All-tail}
use Rattle.wp_watch.specs.declared.event.Event.{Event}
use Rattle.wp_watch.specs.declared.watch.WatchKind.{WatchKind}
use Rattle.wp_watch.specs.Texts.{says}
use Rattle.wp_watch.specs.Places.{Place, live, done, CanTellPlace, told_place, place_after, places_after}
use Rattle.wp_watch.specs.Torn.{IsTorn, AreTorn}

-- the slots below the index were told the event, and the others are as before
pub record HasTold {S : Type 0} (place : S → Place) (event : Event) (before now : List S) (index : ℕ) : Type 0 where
  pub size : length now ≡ length before
  pub below : (k : ℕ) (d : S) → k < index → place (get_or now k d) ≡ told_place event (place (get_or before k d))
  pub above : (k : ℕ) (d : S) → index ≤ k → get_or now k d ≡ get_or before k d

-- the slot at the index can be told the event, as it could before
pub can_tell_at : {S : Type 0} (place : S → Place) (event : Event) (before now : List S) (index : ℕ) (d : S)
    → HasTold place event before now index → All (CanTellPlace event) (map place before) → index < length before
    → CanTellPlace event (place (get_or now index d))
can_tell_at place event before now index d told all h =
    let mapped : index < length (map place before) = omega (arith, length-map before place) in
    subst (CanTellPlace event)
    (get_or-map place before index d (place d) h ∙ ap place (sym (told.above index d (omega arith))))
    (all index (place d) mapped)

-- what holds of each slot holds of the lists of their places
zip_from : {S : Type 0} (place : S → Place) (R : Place → Place → Type 0) (before now : List S) → length now ≡ length before
    → ((k : ℕ) (d : S) → k < length now → R (place (get_or before k d)) (place (get_or now k d)))
    → AllZip R (map place before) (map place now)
zip_from place R [] [] e each = tt
zip_from place R [] (y ∷ ys) e each = absurd (omega arith)
zip_from place R (x ∷ xs) [] e each = absurd (omega arith)
zip_from place R (x ∷ xs) (y ∷ ys) e each =
    (each 0 x (omega arith), zip_from place R xs ys (omega arith) (λ k d h. each (suc k) d (omega arith)))

told_from : (event : Event) (before now : List Place) → AllZip (λ x y. y ≡ told_place event x) before now
    → now ≡ map (told_place event) before
told_from event [] [] zip = refl
told_from event [] (y ∷ ys) zip = absurd zip
told_from event (x ∷ xs) [] zip = absurd zip
told_from event (x ∷ xs) (y ∷ ys) zip =
    ap (λ p. p ∷ ys) zip.0 ∙ ap (λ ps. told_place event x ∷ ps) (told_from event xs ys zip.1)

pub has_told_all : {S : Type 0} (place : S → Place) (event : Event) (before now : List S) (index : ℕ)
    → HasTold place event before now index → length before ≤ index → map place now ≡ map (told_place event) (map place before)
has_told_all place event before now index told h =
    told_from event (map place before) (map place now)
    (zip_from place (λ x y. y ≡ told_place event x) before now told.size (λ k d lt. told.below k d (omega (arith, told.size))))

-- memory was refused at the slot of the index
pub has_torn : {S : Type 0} (place : S → Place) (event : Event) (before now : List S) (index : ℕ) (new d : S)
    → HasTold place event before now index → index < length before
    → IsTorn event (place (get_or now index d)) (place new) → AreTorn event (map place before) (map place (set now index new))
has_torn place event before now index new d told h torn =
    let within : index < length now = omega (arith, told.size) in
    zip_from place (IsTorn event) before (set now index new) (length-set now index new ∙ told.size) (λ k e lt. elim (cases_order k index) [
      | inl same ↦
          let At : ℕ → Type 0 = λ j. IsTorn event (place (get_or before j e)) (place (get_or (set now index new) j e)) in
          let Old : Place → Type 0 = λ p. IsTorn event p (place (get_or (set now index new) index e)) in
          let New : Place → Type 0 = λ p. IsTorn event (place (get_or now index d)) p in
          subst At (sym same)
          (subst Old (ap place (get_or_default now index d e within ∙ told.above index e (omega arith)))
          (subst New (ap place (sym (get_or-set_same now index new e within))) torn))
      | inr (inl less) ↦
          inr (inl (ap place (get_or-set_other now index k new e (λ same. absurd (omega arith))) ∙ told.below k e less))
      | inr (inr more) ↦
          inl (ap place (get_or-set_other now index k new e (λ same. absurd (omega arith)) ∙ told.above k e (omega arith)))
    ])

-- one more slot, at the place of one more watcher
pub map_push : {S B : Type 0} (place : S → Place) (first : B → Place) (slots more : List S) (list : List B) (slot : S) (watch : B)
    → more ≡ slots ++ slot ∷ [] → map place slots ≡ map first list → place slot ≡ first watch
    → map place more ≡ map first (list ++ watch ∷ [])
map_push place first slots more list slot watch e same here =
    ap (map place) e
    ∙ map-append place slots (slot ∷ [])
    ∙ ap (λ places. places ++ place slot ∷ []) same
    ∙ ap (λ p. map first list ++ p ∷ []) here
    ∙ sym (map-append first list (watch ∷ []))

-- a watcher that was told nothing and wants something is at its first place
first_place : (kind : WatchKind) (until : Option ℕ) (told : List Event) → told ≡ [] → ForSome until (λ count. 1 ≤ count)
    → live kind until told ≡ place_after kind until []
first_place kind None told e wants = ap (live kind None) e
first_place kind (Some last) told e wants =
    ap (live kind (Some last)) e
    ∙ ap (λ b. if b then live kind (Some last) [] else done (says kind (take last []))) (sym (lt-ltb 0 last (omega (arith, wants last refl))))

pub first_places : {B : Type 0} (kind : B → WatchKind) (until : B → Option ℕ) (told : B → List Event) (list : List B)
    → All (λ watch. told watch ≡ []) list → All (λ watch. ForSome (until watch) (λ count. 1 ≤ count)) list
    → map (λ watch. live (kind watch) (until watch) (told watch)) list ≡ places_after (map (λ watch. (kind watch, until watch)) list) []
first_places kind until told [] untold wants = refl
first_places kind until told (watch ∷ rest) untold wants =
    let Untold : _ → Type 0 = λ watch. told watch ≡ [] in
    let Wants : _ → Type 0 = λ watch. ForSome (until watch) (λ count. 1 ≤ count) in
    ap (λ place. place ∷ map (λ watch. live (kind watch) (until watch) (told watch)) rest)
    (first_place (kind watch) (until watch) (told watch) (All-head Untold watch rest untold) (All-head Wants watch rest wants))
    ∙ ap (λ places. place_after (kind watch) (until watch) [] ∷ places)
    (first_places kind until told rest (All-tail Untold watch rest untold) (All-tail Wants watch rest wants))
